pub mod Items
pub mod Least
pub mod Queue
pub mod Visits
