pub mod Contents
pub mod Breaches
pub mod Putting
pub mod TreeCalls
pub mod CallLaws
