pub mod Courses
pub mod Damage
pub mod Visits
pub mod Routes
pub mod Leaves
pub mod Steps
pub mod Cursors
