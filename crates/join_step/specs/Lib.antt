pub mod Meetings
pub mod Damage
