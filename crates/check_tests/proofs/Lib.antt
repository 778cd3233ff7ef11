mod GrownTrees
mod PagesUsed
