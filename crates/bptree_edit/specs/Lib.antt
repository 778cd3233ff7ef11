pub mod Changes
pub mod NodesAt
pub mod Parts
pub mod Steps
