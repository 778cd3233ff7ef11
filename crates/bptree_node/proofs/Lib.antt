pub mod Spelling
pub mod NodePages
pub mod Views
