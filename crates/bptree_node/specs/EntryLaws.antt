-- Entries in order: parts of a rising list, and what a key and an id find in it.
use Rattle.std.proofs.Common.{◌≡◌, ℕ, Bool, true, false, List, [], ◌∷◌, ◌++◌, refl, ap, ◌∙◌, arith}
use Rattle.std.specs.Prelude.{if◌then◌else◌, IsTrue, Option, Some, None}
use Rattle.std.specs.List.{flat_map, AllByRecursion}
use Rattle.std.specs.Option.{option_or}
use Rattle.std.proofs.lemmas.Bool.Decides.{nat_tests}
use Rattle.bptree_node.specs.declared.rows.Entry.{Entry}
use Rattle.bptree_node.specs.Lists.{all-front, all-back, all-append, all-weaker}
use Rattle.bptree_node.specs.Trees.{is_entry, goes_before, IsRising, slot_of, HasFirst}

-- ---- the order of keys and ids

pub before_itself : (key id : ℕ) → goes_before key id key id ≡ false
before_itself key id = grind (arith, nat_tests)

pub before_before : (key id key' id' key'' id'' : ℕ) → IsTrue (goes_before key id key' id') → IsTrue (goes_before key' id' key'' id'')
    → IsTrue (goes_before key id key'' id'')
before_before key id key' id' key'' id'' one two = grind (arith, nat_tests)

-- neither goes before the other: they are the same
pub before_neither : (key id key' id' : ℕ) → goes_before key id key' id' ≡ false → goes_before key' id' key id ≡ false → (key ≡ key') × (id ≡ id')
before_neither key id key' id' one two = grind (arith, nat_tests)

-- what doesn't go before one goes behind what goes before that
pub before_not_before : (key id key' id' key'' id'' : ℕ) → IsTrue (goes_before key id key' id') → goes_before key'' id'' key' id' ≡ false
    → IsTrue (goes_before key id key'' id'')
before_not_before key id key' id' key'' id'' one two = grind (arith, nat_tests)

-- ---- entries before and behind a key and an id

abbrev pub AreBefore : ℕ → ℕ → List Entry → Type 0
AreBefore key id es = AllByRecursion (λ (e : Entry). IsTrue (goes_before e.key e.id key id)) es

abbrev pub AreBehind : ℕ → ℕ → List Entry → Type 0
AreBehind key id es = AllByRecursion (λ (e : Entry). IsTrue (goes_before key id e.key e.id)) es

-- each of the first goes before each of the others
abbrev pub AreApart : List Entry → List Entry → Type 0
AreApart xs ys = AllByRecursion (λ (x : Entry). AreBehind x.key x.id ys) xs

-- ---- parts of a rising list

pub rising-front : (xs ys : List Entry) → IsRising (xs ++ ys) → IsRising xs
rising-front [] ys rising = tt
rising-front (x ∷ xs) ys rising = (all-front (λ (e : Entry). IsTrue (goes_before x.key x.id e.key e.id)) xs ys rising.0, rising-front xs ys rising.1)

pub rising-back : (xs ys : List Entry) → IsRising (xs ++ ys) → IsRising ys
rising-back [] ys rising = rising
rising-back (x ∷ xs) ys rising = rising-back xs ys rising.1

pub rising-apart : (xs ys : List Entry) → IsRising (xs ++ ys) → AreApart xs ys
rising-apart [] ys rising = tt
rising-apart (x ∷ xs) ys rising = (all-back (λ (e : Entry). IsTrue (goes_before x.key x.id e.key e.id)) xs ys rising.0, rising-apart xs ys rising.1)

pub rising-append : (xs ys : List Entry) → IsRising xs → IsRising ys → AreApart xs ys → IsRising (xs ++ ys)
rising-append [] ys one two apart = two
rising-append (x ∷ xs) ys one two apart = (
  all-append (λ (e : Entry). IsTrue (goes_before x.key x.id e.key e.id)) xs ys one.0 apart.0,
  rising-append xs ys one.1 two apart.1,
)

-- each part of a rising list rises
pub rising-parts : {A : Type 0} (f : A → List Entry) (xs : List A) → IsRising (flat_map f xs) → AllByRecursion (λ (x : A). IsRising (f x)) xs
rising-parts f [] rising = tt
rising-parts f (x ∷ xs) rising = (rising-front (f x) (flat_map f xs) rising, rising-parts f xs (rising-back (f x) (flat_map f xs) rising))

-- what goes before an entry goes before those behind it
pub behind-further : (key id key' id' : ℕ) (es : List Entry) → IsTrue (goes_before key id key' id') → AreBehind key' id' es → AreBehind key id es
behind-further key id key' id' es before behind =
    all-weaker (λ (e : Entry). IsTrue (goes_before key' id' e.key e.id)) (λ (e : Entry). IsTrue (goes_before key id e.key e.id))
    (λ e is. before_before key id key' id' e.key e.id before is) es behind

-- the entries that go before one go before what doesn't go before it
pub before-further : (key id key' id' : ℕ) (es : List Entry) → goes_before key id key' id' ≡ false → AreBefore key' id' es → AreBefore key id es
before-further key id key' id' es late before =
    all-weaker (λ (e : Entry). IsTrue (goes_before e.key e.id key' id')) (λ (e : Entry). IsTrue (goes_before e.key e.id key id))
    (λ e is. before_not_before e.key e.id key' id' key id is late) es before

-- ---- what a key and an id find

found_or : (b : Bool) (slot : ℕ) (whole front back : Option ℕ) → whole ≡ option_or front back
    → (if b then Some slot else whole) ≡ option_or (if b then Some slot else front) back
found_or true slot whole front back is = refl
found_or false slot whole front back is = is

pub slot_of-append : (key id : ℕ) (xs ys : List Entry) → slot_of key id (xs ++ ys) ≡ option_or (slot_of key id xs) (slot_of key id ys)
slot_of-append key id [] ys = refl
slot_of-append key id (x ∷ xs) ys =
    found_or (is_entry key id x) x.slot (slot_of key id (xs ++ ys)) (slot_of key id xs) (slot_of key id ys) (slot_of-append key id xs ys)

pub slot_of-before : (key id : ℕ) (es : List Entry) → AreBefore key id es → slot_of key id es ≡ None
slot_of-before key id [] before = refl
slot_of-before key id (e ∷ es) before =
    let other : is_entry key id e ≡ false = grind (arith, nat_tests, before.0) in
    (λ i. if other i then Some e.slot else slot_of key id es) ∙ slot_of-before key id es before.1

pub slot_of-behind : (key id : ℕ) (es : List Entry) → AreBehind key id es → slot_of key id es ≡ None
slot_of-behind key id [] behind = refl
slot_of-behind key id (e ∷ es) behind =
    let other : is_entry key id e ≡ false = grind (arith, nat_tests, behind.0) in
    (λ i. if other i then Some e.slot else slot_of key id es) ∙ slot_of-behind key id es behind.1

or_none : (o : Option ℕ) → option_or o None ≡ o
or_none None = refl
or_none (Some x) = refl

-- entries that go before and behind find nothing
pub slot_of-between : (key id : ℕ) (xs ys zs : List Entry) → AreBefore key id xs → AreBehind key id zs → slot_of key id (xs ++ (ys ++ zs)) ≡ slot_of key id ys
slot_of-between key id xs ys zs before behind =
    slot_of-append key id xs (ys ++ zs) ∙ (λ i. option_or (slot_of-before key id xs before i) (slot_of-append key id ys zs i))
    ∙ ap (option_or (slot_of key id ys)) (slot_of-behind key id zs behind) ∙ or_none (slot_of key id ys)

-- the first of the entries, if there is one, goes behind
abbrev pub StartsBehind : ℕ → ℕ → List Entry → Type 0
StartsBehind key id [] = Unit {0}
StartsBehind key id (e ∷ es) = IsTrue (goes_before key id e.key e.id)

-- all of them go behind, if they rise
pub starts-behind : (key id : ℕ) (es : List Entry) → IsRising es → StartsBehind key id es → AreBehind key id es
starts-behind key id [] rising starts = tt
starts-behind key id (e ∷ es) rising starts = (starts, behind-further key id e.key e.id es starts rising.0)

-- what is before the first of rising entries goes before what doesn't go before that
pub before-first : (key id first_key first_id : ℕ) (xs ys : List Entry) → IsRising (xs ++ ys) → HasFirst first_key first_id ys
    → goes_before key id first_key first_id ≡ false → AreBefore key id xs
before-first key id first_key first_id xs [] rising first late = absurd first
before-first key id first_key first_id [] (y ∷ ys) rising first late = tt
before-first key id first_key first_id (x ∷ xs) (y ∷ ys) rising first late = (
  before_not_before x.key x.id y.key y.id key id (all-back (λ (e : Entry). IsTrue (goes_before x.key x.id e.key e.id)) xs (y ∷ ys) rising.0).0
      (ap (λ k. goes_before key id k y.id) first.0 ∙ ap (λ k. goes_before key id first_key k) first.1 ∙ late),
  before-first key id first_key first_id xs (y ∷ ys) rising.1 first late,
)

-- A key and an id find what they find in the part that begins at or before them, if the next begins behind them.
pub slot_of-part : (key id first_key first_id : ℕ) (xs ys zs : List Entry) → IsRising (xs ++ (ys ++ zs)) → HasFirst first_key first_id ys
    → goes_before key id first_key first_id ≡ false → StartsBehind key id zs → slot_of key id (xs ++ (ys ++ zs)) ≡ slot_of key id ys
slot_of-part key id first_key first_id xs [] zs rising first late starts = absurd first
slot_of-part key id first_key first_id xs (y ∷ ys) zs rising first late starts =
    slot_of-between key id xs (y ∷ ys) zs (before-first key id first_key first_id xs ((y ∷ ys) ++ zs) rising first late)
    (starts-behind key id zs (rising-back (y ∷ ys) zs (rising-back xs ((y ∷ ys) ++ zs) rising)) starts)
