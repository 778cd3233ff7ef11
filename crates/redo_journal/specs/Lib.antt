pub mod Calls
pub mod Pages
pub mod Header
pub mod Redo
pub mod Change
pub mod Journal
pub mod Growth
pub mod Staging
