pub mod Errors
pub mod Paging
pub mod Content
pub mod Opening
pub mod Parts
pub mod SlotContents
pub mod Finish
