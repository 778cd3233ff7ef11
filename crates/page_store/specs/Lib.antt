pub mod PageStore
