-- What happens between two states of a search through a curve tree.
use Rattle.std.specs.Prelude.{◌≡◌, ℕ, ◌≤◌, Err}
use Rattle.page_laws.specs.Calls.{PagesStay}
use Rattle.page_laws.specs.Errors.{CountsTreeFault}
use Rattle.page_laws.specs.Pages.{count_after}
use Rattle.page_laws.specs.declared.errors.TreeError.{TreeError}
use Rattle.page_laws.specs.declared.pages.Pages as pages
use Rattle.shelf_tree.specs.declared.tree.CurveTree.{CurveTree}
use Rattle.shelf_tree.specs.Breaches.{TellsQueryRule}

-- a fault is counted, and the count never falls
abbrev pub CountsFailure : TreeError → ℕ → ℕ → Type 0
CountsFailure e before now = CountsTreeFault {A = Unit {0}} (Err e) before now

module _ {P C : Type 0} (ofPages : pages.Ghosts P) where
  -- the pages stayed as they were, and are the same ones
  pub record TreeStays (old new : CurveTree P C) : Type 0 where
    pub stay : PagesStay ofPages.is_known ofPages.has ofPages.in_pool ofPages.page_at ofPages.free ofPages.is_open ofPages.put_pages ofPages.calm old.pages.now new.pages.now
    pub name : new.pages.ghost_name ≡ old.pages.ghost_name

  -- so many pages were fetched
  pub record Follows (n : ℕ) (old new : CurveTree P C) : Type 0 where
    pub stays : TreeStays old new
    pub fetches : ofPages.fetches new.pages.now ≡ count_after (ofPages.fetches old.pages.now) n
    pub faults : ofPages.faults old.pages.now ≤ ofPages.faults new.pages.now

  -- a call ended by this error
  pub record Fails (e : TreeError) (old new : CurveTree P C) : Type 0 where
    pub stays : TreeStays old new
    pub fault : CountsFailure e (ofPages.faults old.pages.now) (ofPages.faults new.pages.now)
    pub rule : TellsQueryRule e
