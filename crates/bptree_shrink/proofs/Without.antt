-- A list without one of its entries: among others, in order, and what holds of each.
use Rattle.std.proofs.Common.{◌≡◌, ℕ, List, [], ◌∷◌, ◌++◌, sym, ap, subst, ◌∙◌, append_assoc}
use Rattle.std.specs.Prelude.{IsTrue}
use Rattle.std.specs.List.{AllByRecursion}
use Rattle.bptree_node.specs.declared.rows.Entry.{Entry}
use Rattle.bptree_node.specs.Lists.{all-front, all-back, all-append}
use Rattle.bptree_node.specs.Trees.{goes_before, IsRising}
use Rattle.bptree_shrink.specs.Shrinking.{IsWithout}

-- the same with others before and behind
pub without-among : (key id slot : ℕ) (front old new back : List Entry) → IsWithout key id slot old new → IsWithout key id slot (front ++ (old ++ back)) (front ++ (new ++ back))
without-among key id slot front old new back is =
    let e : Entry = record { key = key; id = id; slot = slot } in
    record {
      before = front ++ is.before;
      after = is.after ++ back;
      were = ap (λ (es : List Entry). front ++ (es ++ back)) is.were ∙ ap (λ (es : List Entry). front ++ es) (append_assoc is.before (e ∷ is.after) back)
          ∙ sym (append_assoc front is.before (e ∷ (is.after ++ back)));
      are = ap (λ (es : List Entry). front ++ (es ++ back)) is.are ∙ ap (λ (es : List Entry). front ++ es) (append_assoc is.before is.after back)
          ∙ sym (append_assoc front is.before (is.after ++ back));
    }

all-others : (P : Entry → Type 0) (xs : List Entry) (e : Entry) (ys : List Entry) → AllByRecursion P (xs ++ e ∷ ys) → AllByRecursion P (xs ++ ys)
all-others P xs e ys all = all-append P xs ys (all-front P xs (e ∷ ys) all) (all-back P xs (e ∷ ys) all).1

-- what holds of each holds of the others
pub without-all : (P : Entry → Type 0) (key id slot : ℕ) (old new : List Entry) → IsWithout key id slot old new → AllByRecursion P old → AllByRecursion P new
without-all P key id slot old new is all =
    subst (AllByRecursion P) (sym is.are) (all-others P is.before (record { key = key; id = id; slot = slot }) is.after (subst (AllByRecursion P) is.were all))

rising-others : (xs : List Entry) (e : Entry) (ys : List Entry) → IsRising (xs ++ e ∷ ys) → IsRising (xs ++ ys)
rising-others [] e ys rising = rising.1
rising-others (x ∷ xs) e ys rising = (all-others (λ (f : Entry). IsTrue (goes_before x.key x.id f.key f.id)) xs e ys rising.0, rising-others xs e ys rising.1)

-- the others rise
pub without-rises : (key id slot : ℕ) (old new : List Entry) → IsWithout key id slot old new → IsRising old → IsRising new
without-rises key id slot old new is rising =
    subst IsRising (sym is.are) (rising-others is.before (record { key = key; id = id; slot = slot }) is.after (subst IsRising is.were rising))
