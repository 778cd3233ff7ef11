pub mod Errors
pub mod SlotChange
pub mod Store
pub mod Answers
