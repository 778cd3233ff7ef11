-- Pages over a journal, as contracts see them.
use Rattle.std.proofs.Common.{◌≡◌, ℕ, ◌+◌, ◌-◌, ◌^◌, ◌<◌, ◌≤◌, Bool, true, false, ◌&&◌, ◌||◌, nat_le, nat_lt, if◌then◌else◌, IsTrue, List, [], length, Option, Some, None, Result, Ok, Err, refl, sym, ◌∙◌, subst, arith}
use Rattle.std.proofs.lemmas.Bool.Decides.{nat_tests}
use Rattle.spb_edge.specs.Fault.{next_count}
use Rattle.page_laws.specs.Pages.{AreFree}
use Rattle.page_laws.specs.declared.errors.PageError.{PageError}
use Rattle.page_laws.specs.declared.errors.PageError.TheVariants.{Fault, Memory}
use Rattle.redo_journal.specs.declared.layout.TheConstants.{HEADER_PAGE, FIRST_HOME}
use Rattle.redo_journal.specs.declared.journal.Journal.{Journal}
use Rattle.redo_journal.specs.Journal.{total_of, staged_of, HasPages}
use Rattle.redo_journal.specs.Pages.{page}
use Rattle.redo_journal.specs.Redo.{overlay}
use Rattle.free_list.specs.FreeNumbers.{FreeNumbers, is_within}

-- how often the disk was read once a page was asked for: a staged page is not read from it
abbrev pub reads_after : Option (List ℕ) → ℕ → ℕ
reads_after (Some staged) reads = reads
reads_after None reads = next_count reads

-- memory didn't run out
abbrev pub HasMemory : Result Unit PageError → Type 0
HasMemory (Ok _) = Unit {0}
HasMemory (Err Fault) = Unit {0}
HasMemory (Err Memory) = ⊥

-- whether a change may replace the page: those before the journal but the mark page, and all after it
abbrev pub is_home : ℕ → ℕ → Bool
is_home total n = (nat_le 1 n && nat_lt n HEADER_PAGE) || (nat_le FIRST_HOME n && nat_lt n total)

-- The disk, the ghost name of its reference and how many pages it has; the pages put in the open change, by their
-- numbers; the first page of the pool, and how many it has; the free ones, and those that were free when the change
-- began; whether a change is open, whether a commit failed, and how many pages were asked for.
pub record PagesView (D : Type 0) : Type 0 where
  pub disk : D
  pub name : ℕ
  pub total : ℕ
  pub staged : List (ℕ × List ℕ)
  pub first : ℕ
  pub count : ℕ
  pub free : List ℕ
  pub kept : List ℕ
  pub is_open : Bool
  pub failed : Bool
  pub fetches : ℕ

module _ {D : Type 0} where
  -- whether the page is of the pool
  abbrev pub in_pool : PagesView D → ℕ → Bool
  in_pool p n = is_within p.first p.count n

  -- whether there is a page of this number: one that a change may replace, as all of the pool are
  abbrev pub has : PagesView D → ℕ → Bool
  has p n = is_home p.total n || in_pool p n

  pub pool_is_there : (p : PagesView D) (n : ℕ) → IsTrue (in_pool p n) → IsTrue (has p n)
  pool_is_there p n is = grind (arith, nat_tests, is)

  -- what each page holds: what was put, or else what the disk has
  abbrev pub page_at : (D → List ℕ) → PagesView D → ℕ → List ℕ
  page_at image p n = overlay p.staged (page (image p.disk)) n

  -- the free pages to which an abandoned change goes back
  abbrev pub base_free : PagesView D → List ℕ
  base_free p = if p.is_open then p.kept else p.free

  -- no change is open, and none was so far
  abbrev pub unchanged : D → ℕ → ℕ → ℕ → ℕ → List ℕ → PagesView D
  unchanged disk name total first count free = record {
    disk = disk;
    name = name;
    total = total;
    staged = [];
    first = first;
    count = count;
    free = free;
    kept = free;
    is_open = false;
    failed = false;
    fetches = 0;
  }

  -- a change begins
  abbrev pub begun : PagesView D → PagesView D
  begun p = record p { kept = p.free; is_open = true }

  -- the open change is abandoned
  abbrev pub abandoned : PagesView D → PagesView D
  abandoned p = record p { staged = []; free = p.kept; is_open = false }

  -- the open change was committed or not, and is closed: nothing but the disk changes beside, and a failure is kept
  abbrev pub Ends : {E : Type 0} → Result Unit E → PagesView D → PagesView D → Type 0
  Ends (Ok _) old new = new ≡ record old { disk = new.disk; staged = []; is_open = false }
  Ends (Err _) old new = new ≡ record old { disk = new.disk; staged = []; is_open = false; failed = true }

  -- The disk has the pages. The pool is among those after the journal, both lists are of it, and nothing is staged but
  -- in an open change that put a page.
  pub record IsPageStore (size_of : D → ℕ) (journal : Journal D) (list base : FreeNumbers) (opened put : Bool) : Type 0 where
    pub pages : HasPages size_of journal
    pub least : FIRST_HOME ≤ list.first
    pub within : list.first + list.count ≤ total_of journal
    pub free : AreFree (is_within list.first list.count) list.numbers
    pub same_first : base.first ≡ list.first
    pub same_count : base.count ≡ list.count
    pub kept : AreFree (is_within base.first base.count) base.numbers
    pub closed : opened ≡ false → put ≡ false
    pub some : put ≡ true → 0 < length (staged_of journal)
    pub none : put ≡ false → staged_of journal ≡ []

  -- What calls do that leave the pages to which an abandoned change goes back as they were. The reference to the disk, the
  -- pool, the numbers of the pages and whether a commit failed are the same. Nothing happened to the disk that a crash
  -- could show. While the count of fetches is below its last value, a known disk was read at most as often as pages were
  -- asked for.
  pub record IsCalm (is_known : D → Bool) (reads : D → ℕ) (quiet : D → D → Type 0) (old new : PagesView D) : Type 0 where
    pub same_name : new.name ≡ old.name
    pub same_first : new.first ≡ old.first
    pub same_count : new.count ≡ old.count
    pub same_total : new.total ≡ old.total
    pub same_failed : new.failed ≡ old.failed
    pub same_free : base_free new ≡ base_free old
    pub same_known : is_known new.disk ≡ is_known old.disk
    pub is_quiet : quiet old.disk new.disk
    pub later : old.fetches ≤ new.fetches
    pub paid : IsTrue (is_known old.disk) → new.fetches < 2 ^ 64 - 1 → reads new.disk + old.fetches ≤ reads old.disk + new.fetches

  module _ (is_known : D → Bool) (reads : D → ℕ) (quiet : D → D → Type 0) where
    pub calm_same : (p : PagesView D) → quiet p.disk p.disk → IsCalm is_known reads quiet p p
    calm_same p quiet_same = record {
      same_name = refl;
      same_first = refl;
      same_count = refl;
      same_total = refl;
      same_failed = refl;
      same_free = refl;
      same_known = refl;
      is_quiet = quiet_same;
      later = omega arith;
      paid = λ known below. omega arith;
    }

    pub calm_chains : (old mid new : PagesView D) → (quiet old.disk mid.disk → quiet mid.disk new.disk → quiet old.disk new.disk)
        → IsCalm is_known reads quiet old mid → IsCalm is_known reads quiet mid new → IsCalm is_known reads quiet old new
    calm_chains old mid new quiet_chains first second = record {
      same_name = second.same_name ∙ first.same_name;
      same_first = second.same_first ∙ first.same_first;
      same_count = second.same_count ∙ first.same_count;
      same_total = second.same_total ∙ first.same_total;
      same_failed = second.same_failed ∙ first.same_failed;
      same_free = second.same_free ∙ first.same_free;
      same_known = second.same_known ∙ first.same_known;
      is_quiet = quiet_chains first.is_quiet second.is_quiet;
      later = omega (arith, first.later, second.later);
      paid = λ known below.
          let before : reads mid.disk + old.fetches ≤ reads old.disk + mid.fetches = first.paid known (omega (arith, second.later, below)) in
          let after : reads new.disk + mid.fetches ≤ reads mid.disk + new.fetches = second.paid (subst IsTrue (sym first.same_known) known) below in
          omega (arith, before, after);
    }
