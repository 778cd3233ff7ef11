pub mod PairEntries
