pub mod Calls
pub mod Laws
pub mod Log
pub mod LogLaws
pub mod Meters
pub mod Objects
pub mod PivotLaws
pub mod Pivots
