-- An entry at its place: in a part of a list, in a rising list, and where it comes first.
use Rattle.std.proofs.Common.{◌≡◌, ℕ, zero, suc, ◌<◌, ◌≤◌, ◌==◌, true, false, ◌&&◌, List, [], ◌∷◌, ◌++◌, length, take, drop, get_or, refl, sym, ap, ap₂, subst, ◌∙◌, arith, append_assoc}
use Rattle.std.specs.Prelude.{IsTrue, if◌then◌else◌}
use Rattle.std.specs.List.{AllByRecursion, insert as inserted}
use Rattle.std.proofs.lemmas.List.{take-append-drop}
use Rattle.std.proofs.lemmas.Bool.Decides.{nat_tests}
use Rattle.bptree_node.specs.declared.rows.Entry.{Entry}
use Rattle.bptree_node.specs.declared.rows.Branch.{Branch}
use Rattle.bptree_node.specs.Lists.{all-append}
use Rattle.bptree_node.specs.Trees.{goes_before, is_entry, IsRising, HasFirst}
use Rattle.bptree_node.specs.EntryLaws.{AreBefore, AreBehind, AreApart, rising-front, rising-back, rising-apart, rising-append, behind-further}
use Rattle.bptree_insert.specs.Rows.{entry_before, IsPlaced}
use Rattle.bptree_edit.specs.Parts.{before_branch}
use Rattle.bptree_insert.specs.Steps.{earlier}
use Rattle.bptree_edit.proofs.Lists.{all-take, all-drop}

-- between entries that go before it and entries that go behind it
pub placed-within : (e : Entry) (front old new back : List Entry) → IsPlaced e old new → AreBefore e.key e.id front → AreBehind e.key e.id back
    → IsPlaced e (front ++ (old ++ back)) (front ++ (new ++ back))
placed-within e front old new back is lower upper = record {
  before = front ++ is.before;
  after = is.after ++ back;
  were = ap (λ (xs : List Entry). front ++ (xs ++ back)) is.were ∙ ap (λ (xs : List Entry). front ++ xs) (append_assoc is.before is.after back)
      ∙ sym (append_assoc front is.before (is.after ++ back));
  are = ap (λ (xs : List Entry). front ++ (xs ++ back)) is.are ∙ ap (λ (xs : List Entry). front ++ xs) (append_assoc is.before (e ∷ is.after) back)
      ∙ sym (append_assoc front is.before (e ∷ is.after ++ back));
  lower = all-append (λ (f : Entry). IsTrue (entry_before f e)) front is.before lower is.lower;
  upper = all-append (λ (f : Entry). IsTrue (entry_before e f)) is.after back is.upper upper;
}

apart-with : (e : Entry) (xs ys : List Entry) → AreBefore e.key e.id xs → AreApart xs ys → AreApart xs (e ∷ ys)
apart-with e [] ys lower apart = tt
apart-with e (x ∷ xs) ys lower apart = ((lower.0, apart.0), apart-with e xs ys lower.1 apart.1)

-- the new list rises if the old one does
pub placed-rises : (e : Entry) (old new : List Entry) → IsPlaced e old new → IsRising old → IsRising new
placed-rises e old new is rising =
    let parts : IsRising (is.before ++ is.after) = subst IsRising is.were rising in
    subst IsRising (sym is.are) (rising-append is.before (e ∷ is.after) (rising-front is.before is.after parts) (is.upper, rising-back is.before is.after parts)
    (apart-with e is.before is.after is.lower (rising-apart is.before is.after parts)))

-- ---- the first one

not_first : (e f : Entry) (b : Branch) → IsTrue (entry_before f e) → (f.key ≡ b.key) × (f.id ≡ b.id) → before_branch e.key e.id b ≡ false
not_first e f b before first = later e.key e.id f.key f.id b.key b.id before first.0 first.1
  where
    later : (key id key' id' key'' id'' : ℕ) → IsTrue (goes_before key' id' key id) → key' ≡ key'' → id' ≡ id'' → goes_before key id key'' id'' ≡ false
    later key id key' id' key'' id'' before one two = grind (arith, nat_tests)

is_first : (e f : Entry) (b : Branch) → IsTrue (entry_before e f) → (f.key ≡ b.key) × (f.id ≡ b.id) → before_branch e.key e.id b ≡ true
is_first e f b before first = ap₂ (λ (key id : ℕ). goes_before e.key e.id key id) (sym first.0) (sym first.1) ∙ before

earlier-e : (b : Branch) (e : Entry) → before_branch e.key e.id b ≡ true → earlier b e ≡ (e.key, e.id)
earlier-e b e is = (λ i. if is i then (e.key, e.id) else (b.key, b.id))

earlier-b : (b : Branch) (e : Entry) → before_branch e.key e.id b ≡ false → earlier b e ≡ (b.key, b.id)
earlier-b b e is = (λ i. if is i then (e.key, e.id) else (b.key, b.id))

first_of : (e : Entry) (b : Branch) (before after : List Entry) → AreBefore e.key e.id before → AreBehind e.key e.id after → HasFirst b.key b.id (before ++ after)
    → HasFirst (earlier b e).0 (earlier b e).1 (before ++ e ∷ after)
first_of e b [] [] lower upper first = absurd first
first_of e b [] (f ∷ fs) lower upper first =
    let is = earlier-e b e (is_first e f b upper.0 first) in
    (sym (ap (λ (pair : ℕ × ℕ). pair.0) is), sym (ap (λ (pair : ℕ × ℕ). pair.1) is))
first_of e b (f ∷ fs) after lower upper first =
    let is = earlier-b b e (not_first e f b lower.0 first) in
    (first.0 ∙ sym (ap (λ (pair : ℕ × ℕ). pair.0) is), first.1 ∙ sym (ap (λ (pair : ℕ × ℕ). pair.1) is))

-- the new first key and id
pub placed-first : (e : Entry) (b : Branch) (old new : List Entry) → IsPlaced e old new → HasFirst b.key b.id old → HasFirst (earlier b e).0 (earlier b e).1 new
placed-first e b old new is first =
    subst (HasFirst (earlier b e).0 (earlier b e).1) (sym is.are) (first_of e b is.before is.after is.lower is.upper (subst (HasFirst b.key b.id) is.were first))

-- ---- in a leaf

lower_one : (e f : Entry) → entry_before e f ≡ false → is_entry e.key e.id f ≡ false → IsTrue (entry_before f e)
lower_one e f late other = behind e.key e.id f.key f.id late other
  where
    behind : (key id key' id' : ℕ) → goes_before key id key' id' ≡ false → ((key' == key) && (id' == id)) ≡ false → IsTrue (goes_before key' id' key id)
    behind key id key' id' late other = grind (arith, nat_tests)

lower_of : (e : Entry) (es : List Entry) (at : ℕ) → AllByRecursion (λ (f : Entry). is_entry e.key e.id f ≡ false) es
    → ((k : ℕ) (d : Entry) → k < at → entry_before e (get_or es k d) ≡ false) → at ≤ length es → AreBefore e.key e.id (take at es)
lower_of e [] zero absent late few = tt
lower_of e [] (suc at) absent late few = absurd (omega (arith, few))
lower_of e (x ∷ xs) zero absent late few = tt
lower_of e (x ∷ xs) (suc at) absent late few = (
  lower_one e x (late 0 x (omega arith)) absent.0,
  lower_of e xs at absent.1 (λ k d below. late (suc k) d (omega (arith, below))) (omega (arith, few)),
)

upper_of : (e : Entry) (es : List Entry) (at : ℕ) → IsRising es → ((d : Entry) → at < length es → entry_before e (get_or es at d) ≡ true) → at ≤ length es
    → AreBehind e.key e.id (drop at es)
upper_of e [] zero rising early few = tt
upper_of e [] (suc at) rising early few = absurd (omega (arith, few))
upper_of e (x ∷ xs) zero rising early few =
    let here : entry_before e x ≡ true = early x (omega arith) in
    (here, behind-further e.key e.id x.key x.id xs here rising.0)
upper_of e (x ∷ xs) (suc at) rising early few = upper_of e xs at rising.1 (λ d below. early d (omega (arith, below))) (omega (arith, few))

-- behind all that don't go behind it
pub placed-at : (e : Entry) (es : List Entry) (at : ℕ) → IsRising es → AllByRecursion (λ (f : Entry). is_entry e.key e.id f ≡ false) es → at ≤ length es
    → ((k : ℕ) (d : Entry) → k < at → entry_before e (get_or es k d) ≡ false) → ((d : Entry) → at < length es → entry_before e (get_or es at d) ≡ true)
    → IsPlaced e es (inserted es at e)
placed-at e es at rising absent few late early = record {
  before = take at es;
  after = drop at es;
  were = sym (take-append-drop at es);
  are = refl;
  lower = lower_of e es at absent late few;
  upper = upper_of e es at rising early few;
}

-- what holds of all and of the new one
pub all-inserted : (P : Entry → Type 0) (e : Entry) (es : List Entry) (at : ℕ) → AllByRecursion P es → P e → AllByRecursion P (inserted es at e)
all-inserted P e es at all own = all-append P (take at es) (e ∷ drop at es) (all-take P at es all) (own, all-drop P at es all)
