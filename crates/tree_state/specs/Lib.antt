pub mod StoreCurves
pub mod TreeEntries
pub mod StoreTrees
pub mod Worked
