pub mod FewPages
pub mod Room
