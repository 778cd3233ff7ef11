pub mod Rules
pub mod Errors
pub mod Pages
pub mod Calls
pub mod FreeLaws
pub mod PlainPages
