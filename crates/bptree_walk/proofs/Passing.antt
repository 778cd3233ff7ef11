-- One step of a course after another.
use Rattle.std.proofs.Common.{◌≡◌, ℕ, ◌+◌, ◌≤◌, ◌<◌, Bool, List, [], ◌∷◌, ◌++◌, length, refl, sym, ap, ap₂, subst, ◌∙◌, arith}
use Rattle.std.specs.Prelude.{IsTrue, filter}
use Rattle.std.specs.List.{flat_map}
use Rattle.std.proofs.lemmas.List.{append_assoc, length-append}
use Rattle.std.proofs.lemmas.List.Elements.{filter-append}
use Rattle.page_laws.specs.declared.errors.TreeError.{TreeError}
use Rattle.page_laws.specs.declared.pages.Pages.{Ghosts}
use Rattle.bptree_node.specs.declared.rows.Entry.{Entry}
use Rattle.bptree_node.specs.TreeLaws.{walked}
use Rattle.bptree_node.specs.Trees.{tree_at}
use Rattle.bptree_walk.specs.declared.ahead.Ahead.{Ahead}
use Rattle.bptree_walk.specs.Courses.{Course, walk_left, most_left}
use Rattle.bptree_walk.specs.Steps.{GoesOn, BreaksOff, CountsFetches}
use Rattle.bptree_walk.proofs.Counts.{none_counted, counted_on}
use Rattle.bptree_walk.proofs.Staying.{Stay, live_of, known_on, as_before, stays_same, stays_on}
use Rattle.bptree_walk.proofs.Visiting.{course}

-- ---- an entry is taken

module _ (e : Entry) (old new : Course) (entries : old.entries ≡ e ∷ new.entries) (ahead : new.ahead ≡ old.ahead) (fetched : new.fetched ≡ old.fetched) where
  old_is : course (e ∷ new.entries) old.ahead old.fetched ≡ old
  old_is = ap (λ (es : List Entry). course es old.ahead old.fetched) (sym entries)

  new_is : course new.entries old.ahead old.fetched ≡ new
  new_is = ap₂ (λ (nodes : List Ahead) (n : ℕ). course new.entries nodes n) (sym ahead) (sym fetched)

  pub taken_on : (pages : ℕ → List ℕ) (live : ℕ → Bool) (meets : ℕ → ℕ → Bool) (has : ℕ → Bool) → GoesOn pages live meets has (e ∷ []) old new
  taken_on pages live meets has =
      let rest : List Entry = flat_map (λ (a : Ahead). walked meets has a.level (tree_at pages a.level a.page)) old.ahead in
      subst (λ (x : Course). GoesOn pages live meets has (e ∷ []) x new) old_is
      (subst (λ (x : Course). GoesOn pages live meets has (e ∷ []) (course (e ∷ new.entries) old.ahead old.fetched) x) new_is
      (record {
        list =
            ap (λ (es : List Entry). es ++ rest) (filter-append (λ (f : Entry). has f.key) (e ∷ []) new.entries)
            ∙ append_assoc (filter (λ (f : Entry). has f.key) (e ∷ [])) (filter (λ (f : Entry). has f.key) new.entries) rest;
        nodes = refl;
        sound = λ sound. sound;
        part = λ root part. part;
        alive = λ alive. alive;
      }))

  pub taken_less : most_left new < most_left old
  taken_less =
      let one : most_left (course (e ∷ new.entries) old.ahead old.fetched) ≡ most_left old = ap most_left old_is in
      let two : most_left (course new.entries old.ahead old.fetched) ≡ most_left new = ap most_left new_is in
      omega (arith, one, two)

-- ---- all that are left of a leaf are given

module _ (old new : Course) (none : new.entries ≡ []) (ahead : new.ahead ≡ old.ahead) (fetched : new.fetched ≡ old.fetched) where
  given_is : course [] old.ahead old.fetched ≡ new
  given_is = ap (λ (es : List Entry). course es old.ahead old.fetched) (sym none) ∙ ap₂ (λ (nodes : List Ahead) (n : ℕ). course new.entries nodes n) (sym ahead) (sym fetched)

  pub given_on : (pages : ℕ → List ℕ) (live : ℕ → Bool) (meets : ℕ → ℕ → Bool) (has : ℕ → Bool) → GoesOn pages live meets has old.entries old new
  given_on pages live meets has =
      subst (λ (x : Course). GoesOn pages live meets has old.entries old x) given_is
      (record { list = refl; nodes = refl; sound = λ sound. sound; part = λ root part. part; alive = λ alive. alive })

  pub given_less : length old.entries + most_left new ≤ most_left old
  given_less =
      let two : most_left (course [] old.ahead old.fetched) ≡ most_left new = ap most_left given_is in
      omega (arith, two)

-- none was left
pub untaken_same : (old new : Course) → old.entries ≡ [] → new.entries ≡ [] → new.ahead ≡ old.ahead → new.fetched ≡ old.fetched → new ≡ old
untaken_same old new none empty ahead fetched =
    ap (λ (es : List Entry). course es new.ahead new.fetched) (empty ∙ sym none) ∙ ap₂ (λ (nodes : List Ahead) (n : ℕ). course old.entries nodes n) ahead fetched

-- ---- steps

module _ (pages : ℕ → List ℕ) (live : ℕ → Bool) (meets : ℕ → ℕ → Bool) (has : ℕ → Bool) (old mid : Course) where
  pub goes_further : (front back : List Entry) (new : Course) → GoesOn pages live meets has front old mid → GoesOn pages live meets has back mid new → GoesOn pages live meets has (front ++ back) old new
  goes_further front back new first second = record {
    list =
        first.list ∙ ap (λ (es : List Entry). filter (λ (e : Entry). has e.key) front ++ es) second.list
        ∙ sym (append_assoc (filter (λ (e : Entry). has e.key) front) (filter (λ (e : Entry). has e.key) back) (walk_left meets has pages new))
        ∙ ap (λ (es : List Entry). es ++ walk_left meets has pages new) (sym (filter-append (λ (e : Entry). has e.key) front back));
    nodes = second.nodes ∙ first.nodes;
    sound = λ sound. second.sound (first.sound sound);
    part = λ root part. second.part root (first.part root part);
    alive = λ alive. second.alive (first.alive alive);
  }

  pub breaks_later : (given : List Entry) (why : TreeError) → GoesOn pages live meets has given old mid → BreaksOff pages live why mid → BreaksOff pages live why old
  breaks_later given why first second = record { sound = λ sound. second.sound (first.sound sound); damage = λ root part. second.damage root (first.part root part) }

module _ {P : Type 0} (G : Ghosts P) (meets : ℕ → ℕ → Bool) (has : ℕ → Bool) where
  -- a course went on over the pages, and gave these entries
  pub record Passes (start now : P) (given : List Entry) (old new : Course) : Type 0 where
    pub goes : IsTrue (G.is_known start) → GoesOn (G.page_at start) (live_of G start) meets has given old new
    pub limit : length given + most_left new ≤ most_left old
    pub counts : CountsFetches old new (G.fetches start) (G.fetches now)
    pub stay : Stay G start now
    pub faults : G.faults start ≤ G.faults now

  pub passes_none : ((p : P) → G.calm p p) → (p : P) (c : Course) → Passes p p [] c c
  passes_none same p c = record {
    goes = λ known. record { list = refl; nodes = refl; sound = λ sound. sound; part = λ root part. part; alive = λ alive. alive };
    limit = omega arith;
    counts = none_counted c c (G.fetches p) refl;
    stay = stays_same G same p;
    faults = omega arith;
  }

  module _ (start now : P) (given : List Entry) (old mid : Course) (so : Passes start now given old mid) where
    pub passes_on : ((a b c : P) → G.calm a b → G.calm b c → G.calm a c) → (next : P) (more : List Entry) (new : Course)
        → (IsTrue (G.is_known now) → GoesOn (G.page_at now) (live_of G now) meets has more mid new) → length more + most_left new ≤ most_left mid
        → CountsFetches mid new (G.fetches now) (G.fetches next) → Stay G now next → G.faults now ≤ G.faults next → Passes start next (given ++ more) old new
    passes_on chains next more new goes limit counts stay faults =
        let before = so.limit in
        let earlier = so.faults in
        record {
          goes = λ known. goes_further (G.page_at start) (live_of G start) meets has old mid given more new (so.goes known)
              (as_before G start now so.stay (λ pages live. GoesOn pages live meets has more mid new) known (goes (known_on G start now so.stay known)));
          limit = omega (arith, before, limit, length-append given more);
          counts = counted_on old mid new (G.fetches start) (G.fetches now) (G.fetches next) so.counts counts;
          stay = stays_on G start now so.stay chains next stay;
          faults = omega (arith, earlier, faults);
        }

    pub passes_off : (why : TreeError) → IsTrue (G.is_known start) → (IsTrue (G.is_known now) → BreaksOff (G.page_at now) (live_of G now) why mid)
        → BreaksOff (G.page_at start) (live_of G start) why old
    passes_off why known off =
        breaks_later (G.page_at start) (live_of G start) meets has old mid given why (so.goes known)
        (as_before G start now so.stay (λ pages live. BreaksOff pages live why mid) known (off (known_on G start now so.stay known)))
