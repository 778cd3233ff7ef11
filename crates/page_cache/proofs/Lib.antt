pub mod Lists
pub mod Keys
pub mod Caching
pub mod Missing
pub mod Histories
