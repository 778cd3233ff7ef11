-- Entries that rise are in order by their keys and ids, and differ by them.
use Rattle.std.proofs.Common.{◌≡◌, ℕ, Bool, false, List, [], ◌∷◌, ap, arith}
use Rattle.std.specs.Prelude.{IsTrue}
use Rattle.std.specs.List.{AllByRecursion}
use Rattle.std.proofs.lemmas.Bool.Decides.{nat_tests}
use Rattle.std.proofs.lemmas.List.Elements.{All-from_recursion}
use Rattle.std.proofs.lemmas.List.Kept.{AllPairs-cons}
use Rattle.answer_lists.specs.OrderLaws.{IsStrictOrder, IsInOrder, HasDistinctKeys, pair_same}
use Rattle.bptree_node.specs.declared.rows.Entry.{Entry}
use Rattle.bptree_node.specs.EntryLaws.{before_itself, before_before, before_neither, AreBehind}
use Rattle.bptree_node.specs.Trees.{goes_before, IsRising}
use Rattle.tree_state.specs.TreeEntries.{entry_before}

-- by what entries are in order
abbrev pub place_of : Entry → ℕ × ℕ
place_of e = (e.key, e.id)

abbrev pub place_before : ℕ × ℕ → ℕ × ℕ → Bool
place_before p q = goes_before p.0 p.1 q.0 q.1

place_decides : (p q : ℕ × ℕ) → place_before p q ≡ false → place_before q p ≡ false → p ≡ q
place_decides p q one other =
    let same = before_neither p.0 p.1 q.0 q.1 one other in pair_same p.0 p.1 q.0 q.1 same.0 same.1

pub place_order : IsStrictOrder place_before
place_order = record {
  never_itself = λ p. before_itself p.0 p.1;
  transitive = λ p q r one two. before_before p.0 p.1 q.0 q.1 r.0 r.1 one two;
  decides = place_decides;
}

not_behind : (key id key' id' : ℕ) → IsTrue (goes_before key id key' id') → goes_before key' id' key id ≡ false
not_behind key id key' id' before = grind (arith, nat_tests, before)

all_behind : (e : Entry) (es : List Entry) → AreBehind e.key e.id es → AllByRecursion (λ (f : Entry). entry_before f e ≡ false) es
all_behind e [] behind = tt
all_behind e (f ∷ fs) behind = (not_behind e.key e.id f.key f.id behind.0, all_behind e fs behind.1)

pub rising-in_order : (es : List Entry) → IsRising es → IsInOrder entry_before es
rising-in_order [] rising = tt
rising-in_order (e ∷ es) rising = (all_behind e es rising.0, rising-in_order es rising.1)

before_differs : (key id key' id' : ℕ) → IsTrue (goes_before key id key' id') → key ≡ key' → id ≡ id' → ⊥
before_differs key id key' id' before one other = grind (arith, nat_tests, before, one, other)

all_differ : (e : Entry) (es : List Entry) → AreBehind e.key e.id es → AllByRecursion (λ (f : Entry). place_of e ≡ place_of f → ⊥) es
all_differ e [] behind = tt
all_differ e (f ∷ fs) behind = (
  λ same. before_differs e.key e.id f.key f.id behind.0 (ap (λ (p : ℕ × ℕ). p.0) same) (ap (λ (p : ℕ × ℕ). p.1) same),
  all_differ e fs behind.1,
)

pub rising-distinct : (es : List Entry) → IsRising es → HasDistinctKeys place_of es
rising-distinct [] rising = λ i j d less inside. absurd (omega (arith, inside))
rising-distinct (e ∷ es) rising = AllPairs-cons (λ a b. place_of a ≡ place_of b → ⊥) e es
    (All-from_recursion (λ (f : Entry). place_of e ≡ place_of f → ⊥) es (all_differ e es rising.0)) (rising-distinct es rising.1)
