pub mod Finding
pub mod Members
pub mod Places
pub mod TableLaws
pub mod Tables
