pub mod ListLaws
pub mod Lists
pub mod Members
pub mod Slotted
