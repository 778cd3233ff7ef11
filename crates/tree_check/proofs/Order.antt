-- Entries in order: the last one of some, and one more behind them.
use Rattle.std.proofs.Common.{◌≡◌, ℕ, zero, suc, ◌+◌, ◌-◌, ◌<◌, ◌==◌, true, false, List, [], ◌∷◌, ◌++◌, length, take, drop, get_or, refl, sym, ap, subst, ◌∙◌, arith}
use Rattle.std.specs.Prelude.{IsTrue, Some}
use Rattle.std.specs.List.{slice_get}
use Rattle.std.proofs.lemmas.Bool.{and_parts, false≢true}
use Rattle.std.proofs.lemmas.Bool.Decides.{nat_tests}
use Rattle.std.proofs.lemmas.List.{take_more, take-append-drop}
use Rattle.std.proofs.lemmas.Option.{slice_get_within}
use Rattle.bptree_node.specs.declared.rows.Entry.{Entry}
use Rattle.bptree_node.specs.EntryLaws.{AreBefore, AreBehind, AreApart, before_before, rising-append, rising-front, rising-apart, behind-further}
use Rattle.bptree_node.specs.Trees.{goes_before, IsRising, HasFirst}
use Rattle.tree_check.specs.Checks.{has_first}
use Rattle.tree_check.specs.Damage.{ends_before}

last_at : (key id : ℕ) (es : List Entry) (e : Entry) (k : ℕ) → length es ≡ suc k → slice_get es k ≡ Some e → goes_before e.key e.id key id ≡ ends_before key id es
last_at key id [] e k long is = absurd (omega (arith, long))
last_at key id (f ∷ []) e zero long is =
    let same : f ≡ e = cc in
    ap (λ (x : Entry). goes_before x.key x.id key id) (sym same)
last_at key id (f ∷ []) e (suc k) long is = absurd (omega (arith, long))
last_at key id (f ∷ g ∷ es) e zero long is = absurd (omega (arith, long))
last_at key id (f ∷ g ∷ es) e (suc k) long is = last_at key id (g ∷ es) e k (omega (arith, long)) is

-- what the last entry says
pub ends-last : (key id : ℕ) (es : List Entry) (e : Entry) → slice_get es (length es - 1) ≡ Some e → goes_before e.key e.id key id ≡ ends_before key id es
ends-last key id es e is =
    let some = slice_get_within es (length es - 1) e is in
    last_at key id es e (length es - 1) (omega (arith, some)) is

-- if the last of rising entries goes before, all do
pub all-before : (key id : ℕ) (es : List Entry) → IsRising es → ends_before key id es ≡ true → AreBefore key id es
all-before key id [] rising ends = tt
all-before key id (e ∷ []) rising ends = (ends, tt)
all-before key id (e ∷ f ∷ es) rising ends =
    let others = all-before key id (f ∷ es) rising.1 ends in
    (before_before e.key e.id f.key f.id key id rising.0.0 others.0, others)

-- and the other way round
pub before-ends : (key id : ℕ) (es : List Entry) → AreBefore key id es → ends_before key id es ≡ true
before-ends key id [] all = refl
before-ends key id (e ∷ []) all = all.0
before-ends key id (e ∷ f ∷ es) all = before-ends key id (f ∷ es) all.1

apart-one : (e : Entry) (es : List Entry) → AreBefore e.key e.id es → AreApart es (e ∷ [])
apart-one e [] before = tt
apart-one e (f ∷ es) before = ((before.0, tt), apart-one e es before.1)

before-one : (e : Entry) (es : List Entry) → AreApart es (e ∷ []) → AreBefore e.key e.id es
before-one e [] apart = tt
before-one e (f ∷ es) apart = (apart.0.0, before-one e es apart.1)

-- one entry more
pub rising-more : (es : List Entry) (i : ℕ) (d : Entry) → i < length es → IsRising (take i es) → ends_before (get_or es i d).key (get_or es i d).id (take i es) ≡ true
    → IsRising (take (i + 1) es)
rising-more es i d below rising ends =
    let e = get_or es i d in
    subst IsRising (sym (take_more es i d below))
    (rising-append (take i es) (e ∷ []) rising (tt, tt) (apart-one e (take i es) (all-before e.key e.id (take i es) rising ends)))

-- which isn't in order
pub rising-never : (es : List Entry) (i : ℕ) (d : Entry) → i < length es → ends_before (get_or es i d).key (get_or es i d).id (take i es) ≡ false → IsRising es → ⊥
rising-never es i d below late rising =
    let e = get_or es i d in
    let front : IsRising (take (i + 1) es) = rising-front (take (i + 1) es) (drop (i + 1) es) (subst IsRising (sym (take-append-drop (i + 1) es)) rising) in
    let parts : IsRising (take i es ++ e ∷ []) = subst IsRising (take_more es i d below) front in
    false≢true (sym late ∙ before-ends e.key e.id (take i es) (before-one e (take i es) (rising-apart (take i es) (e ∷ []) parts)))

-- ---- the first entry

pub first-known : (key id : ℕ) (es : List Entry) → has_first key id es ≡ true → HasFirst key id es
first-known key id [] is = false≢true is
first-known key id (e ∷ es) is =
    let parts = and_parts (e.key == key) (e.id == id) is in
    (grind (arith, nat_tests, parts.0), grind (arith, nat_tests, parts.1))

pub first-never : (key id : ℕ) (es : List Entry) → has_first key id es ≡ false → HasFirst key id es → ⊥
first-never key id [] is first = first
first-never key id (e ∷ es) is first = grind (arith, nat_tests, is, first.0, first.1)

-- what ends before rising entries that begin with this key and id goes on rising with them
pub rising-joined : (key id : ℕ) (xs ys : List Entry) → IsRising xs → IsRising ys → ends_before key id xs ≡ true → HasFirst key id ys → IsRising (xs ++ ys)
rising-joined key id xs ys one two ends first = rising-append xs ys one two (joined xs ys (all-before key id xs one ends) two first)
  where
    behind : (x : Entry) (ys : List Entry) → IsTrue (goes_before x.key x.id key id) → IsRising ys → HasFirst key id ys → AreBehind x.key x.id ys
    behind x [] before two first = tt
    behind x (y ∷ ys) before two first =
        let next : IsTrue (goes_before x.key x.id y.key y.id) = (λ i. goes_before x.key x.id (first.0 i) (first.1 i)) ∙ before in
        (next, behind-further x.key x.id y.key y.id ys next two.0)

    joined : (xs ys : List Entry) → AreBefore key id xs → IsRising ys → HasFirst key id ys → AreApart xs ys
    joined [] ys before two first = tt
    joined (x ∷ xs) ys before two first = (behind x ys before.0 two first, joined xs ys before.1 two first)

-- and where it rises, it ends before
pub joined-ends : (key id : ℕ) (xs ys : List Entry) → IsRising (xs ++ ys) → HasFirst key id ys → ends_before key id xs ≡ true
joined-ends key id xs [] rising first = absurd first
joined-ends key id xs (y ∷ ys) rising first =
    before-ends key id xs (under xs (rising-apart xs (y ∷ ys) rising))
  where
    under : (zs : List Entry) → AreApart zs (y ∷ ys) → AreBefore key id zs
    under [] apart = tt
    under (z ∷ zs) apart = ((λ i. goes_before z.key z.id (sym first.0 i) (sym first.1 i)) ∙ apart.0.0, under zs apart.1)
