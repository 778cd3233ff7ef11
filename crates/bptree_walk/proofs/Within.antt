-- Entries that a region doesn't have are skipped.
use Rattle.std.proofs.Common.{◌≡◌, ℕ, ◌≤◌, ◌<◌, Bool, true, false, cond, List, [], ◌∷◌, ◌++◌, refl, ap, ap₂, ◌∙◌, arith}
use Rattle.std.specs.Prelude.{IsTrue, filter, Option, Some, None, Result, Ok, OnOk}
use Rattle.std.specs.List.{flat_map}
use Rattle.std.proofs.lemmas.List.{length-append}
use Rattle.std.proofs.lemmas.List.Elements.{filter-append}
use Rattle.page_laws.specs.Errors.{IsNotDamaged}
use Rattle.page_laws.specs.declared.errors.TreeError.{TreeError}
use Rattle.page_laws.specs.declared.pages.Pages.{Ghosts}
use Rattle.page_laws.specs.declared.root.Root.{Root}
use Rattle.bptree_node.specs.declared.rows.Entry.{Entry}
use Rattle.bptree_node.specs.TreeLaws.{walked}
use Rattle.bptree_node.specs.Trees.{tree_at}
use Rattle.bptree_walk.specs.declared.ahead.Ahead.{Ahead}
use Rattle.bptree_walk.specs.Courses.{Course, GivesNext, Falls, IsPartOf, IsSoundCourse, most_left, walk_left, visits_fetched}
use Rattle.bptree_walk.specs.Damage.{IsDamageOf}
use Rattle.bptree_walk.specs.Steps.{GoesOn, BreaksOff, CountsFetches}
use Rattle.bptree_walk.proofs.Passing.{Passes, passes_none, passes_on, passes_off}
use Rattle.bptree_walk.proofs.Staying.{Stay, live_of}

module _ {P : Type 0} (G : Ghosts P) (meets : ℕ → ℕ → Bool) (has : ℕ → Bool) where
  abbrev chosen : List Entry → List Entry
  chosen es = filter (λ (e : Entry). has e.key) es

  -- a course went on over the pages, and gave entries that the region doesn't have
  pub record Skips (start now : P) (old new : Course) : Type 0 where
    pub given : List Entry
    pub passes : Passes G meets has start now given old new
    pub none : chosen given ≡ []

  pub skips_none : ((p : P) → G.calm p p) → (p : P) (c : Course) → Skips p p c c
  skips_none same p c = record { given = []; passes = passes_none G meets has same p c; none = refl }

  -- what is chosen of one entry
  one_out : (e : Entry) → has e.key ≡ false → chosen (e ∷ []) ≡ []
  one_out e out = ap (λ (b : Bool). cond b (e ∷ []) []) out

  one_in : (e : Entry) → has e.key ≡ true → chosen (e ∷ []) ≡ e ∷ []
  one_in e is = ap (λ (b : Bool). cond b (e ∷ []) []) is

  -- what the answer says of the region's entries, of the nodes and of errors
  pub record IsWithin (start next : P) (old new : Course) (result : Result (Option Entry) TreeError) : Type 0 where
    pub gives : IsTrue (G.is_known start) → GivesNext result (walk_left meets has (G.page_at start) old) (walk_left meets has (G.page_at start) new)
    pub nodes : IsTrue (G.is_known start) → OnOk result (visits_fetched meets (G.page_at start) new ≡ visits_fetched meets (G.page_at start) old)
    pub limit : Falls result (most_left old) (most_left new)
    pub counts : CountsFetches old new (G.fetches start) (G.fetches next)
    pub sound : IsTrue (G.is_known start) → IsSoundCourse (G.page_at start) (live_of G start) old
        → IsNotDamaged result × OnOk result (IsSoundCourse (G.page_at start) (live_of G start) new)
    pub part : IsTrue (G.is_known start) → (root : Root) → IsPartOf (G.page_at start) root old
        → IsDamageOf (G.page_at start) (live_of G start) root result × OnOk result (IsPartOf (G.page_at start) root new)

  -- it ends by an error
  pub gives_off : (start now : P) (old mid : Course) (so : Skips start now old mid) → (why : TreeError) → (IsTrue (G.is_known now) → BreaksOff (G.page_at now) (live_of G now) why mid) → IsTrue (G.is_known start)
      → BreaksOff (G.page_at start) (live_of G start) why old
  gives_off start now old mid so why off known = passes_off G meets has start now so.given old mid so.passes why known off

  module _ (start now : P) (old mid : Course) (so : Skips start now old mid) (chains : (a b c : P) → G.calm a b → G.calm b c → G.calm a c) (next : P) (new : Course)
      (counts : CountsFetches mid new (G.fetches now) (G.fetches next)) (stay : Stay G now next) (faults : G.faults now ≤ G.faults next) where
    -- what the course has gone through after one entry more
    pub with_one : (e : Entry) → (IsTrue (G.is_known now) → GoesOn (G.page_at now) (live_of G now) meets has (e ∷ []) mid new) → most_left new < most_left mid
        → Passes G meets has start next (so.given ++ (e ∷ [])) old new
    with_one e goes falls = passes_on G meets has start now so.given old mid so.passes chains next (e ∷ []) new goes (omega (arith, falls)) counts stay faults

    pub with_none : (IsTrue (G.is_known now) → GoesOn (G.page_at now) (live_of G now) meets has [] mid new) → most_left new ≤ most_left mid
        → Passes G meets has start next (so.given ++ []) old new
    with_none goes falls = passes_on G meets has start now so.given old mid so.passes chains next [] new goes (omega (arith, falls)) counts stay faults

    pub skips_on : (e : Entry) → (IsTrue (G.is_known now) → GoesOn (G.page_at now) (live_of G now) meets has (e ∷ []) mid new) → most_left new < most_left mid → has e.key ≡ false
        → Skips start next old new
    skips_on e goes falls out = record {
      given = so.given ++ (e ∷ []);
      passes = with_one e goes falls;
      none = filter-append (λ (f : Entry). has f.key) so.given (e ∷ []) ∙ ap₂ (λ (xs ys : List Entry). xs ++ ys) so.none (one_out e out);
    }

    -- the region's entries among those given
    chosen_one : (e : Entry) → has e.key ≡ true → chosen (so.given ++ (e ∷ [])) ≡ e ∷ []
    chosen_one e is = filter-append (λ (f : Entry). has f.key) so.given (e ∷ []) ∙ ap₂ (λ (xs ys : List Entry). xs ++ ys) so.none (one_in e is)

    chosen_none : chosen (so.given ++ []) ≡ []
    chosen_none = filter-append (λ (f : Entry). has f.key) so.given [] ∙ ap₂ (λ (xs ys : List Entry). xs ++ ys) so.none refl

    -- the next one of the region's entries is given
    pub gives_one : (e : Entry) → (IsTrue (G.is_known now) → GoesOn (G.page_at now) (live_of G now) meets has (e ∷ []) mid new) → most_left new < most_left mid → has e.key ≡ true
        → IsWithin start next old new (Ok (Some e))
    gives_one e goes falls is =
        let all : Passes G meets has start next (so.given ++ (e ∷ [])) old new = with_one e goes falls in
        let limit = all.limit in
        record {
          gives = λ known. (all.goes known).list ∙ ap (λ (es : List Entry). es ++ walk_left meets has (G.page_at start) new) (chosen_one e is);
          nodes = λ known. (all.goes known).nodes;
          limit = omega (arith, limit, length-append so.given (e ∷ []));
          counts = all.counts;
          sound = λ known sound. (tt, (all.goes known).sound sound);
          part = λ known root part. (tt, (all.goes known).part root part);
        }

    -- none is left
    pub gives_none : (IsTrue (G.is_known now) → GoesOn (G.page_at now) (live_of G now) meets has [] mid new) → most_left new ≤ most_left mid → new.entries ≡ [] → new.ahead ≡ []
        → IsWithin start next old new (Ok None)
    gives_none goes falls none last =
        let all : Passes G meets has start next (so.given ++ []) old new = with_none goes falls in
        let limit = all.limit in
        let left : walk_left meets has (G.page_at start) new ≡ [] =
        ap₂ (λ (es : List Entry) (nodes : List Ahead). chosen es ++ flat_map (λ (a : Ahead). walked meets has a.level (tree_at (G.page_at start) a.level a.page)) nodes) none last in
        record {
          gives = λ known. ((all.goes known).list ∙ ap₂ (λ (xs ys : List Entry). xs ++ ys) chosen_none left, left);
          nodes = λ known. (all.goes known).nodes;
          limit = omega (arith, limit, length-append so.given []);
          counts = all.counts;
          sound = λ known sound. (tt, (all.goes known).sound sound);
          part = λ known root part. (tt, (all.goes known).part root part);
        }
