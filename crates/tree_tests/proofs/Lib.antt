pub mod TestTrees
