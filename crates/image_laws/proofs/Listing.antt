-- The entries of a collection's objects, and rising lists with the same entries.
use Rattle.std.proofs.Common.{◌≡◌, ◌⊎◌, inl, inr, ℕ, zero, suc, ◌+◌, ◌<◌, ◌≤◌, ◌==◌, Bool, true, false, List, [], ◌∷◌, map, refl, sym, ap, subst, ◌∙◌, arith}
use Rattle.std.specs.Prelude.{if◌then◌else◌, cond, IsTrue}
use Rattle.std.specs.List.{AllByRecursion, filter_map, range_with_len, cons_option}
use Rattle.std.proofs.lemmas.Bool.{cases_eq}
use Rattle.std.proofs.lemmas.Bool.Decides.{nat_tests}
use Rattle.answer_lists.specs.Order.{with_inserted, sorted_by}
use Rattle.answer_lists.specs.OrderLaws.{all-with_inserted, all-sorted_by}
use Rattle.bptree_node.specs.declared.rows.Entry.{Entry}
use Rattle.bptree_node.specs.Trees.{goes_before, IsRising}
use Rattle.bptree_node.specs.EntryLaws.{AreBehind, before_itself, before_before, behind-further}
use Rattle.bptree_node.specs.Lists.{all-weaker}
use Rattle.object_file.specs.Slots.{Slot, Free, Holds, Broken}
use Rattle.store_check.specs.Stands.{Placed, placed_of, placed_in}
use Rattle.tree_state.specs.TreeEntries.{entry_before, in_collection}

-- ---- entries among others

abbrev pub In : {A : Type 0} → A → List A → Type 0
In x [] = ⊥
In x (y ∷ ys) = (y ≡ x) ⊎ In x ys

pub of-in : {A : Type 0} (P : A → Type 0) (xs : List A) (x : A) → AllByRecursion P xs → In x xs → P x
of-in P [] x all among = absurd among
of-in P (y ∷ ys) x all (inl here) = subst P here all.0
of-in P (y ∷ ys) x all (inr there) = of-in P ys x all.1 there

-- two rising lists with the same entries are the same
behind_in : (x e : Entry) (xs : List Entry) → AreBehind x.key x.id xs → In e xs → IsTrue (goes_before x.key x.id e.key e.id)
behind_in x e xs behind among = of-in (λ (f : Entry). IsTrue (goes_before x.key x.id f.key f.id)) xs e behind among

never_itself : (e : Entry) → IsTrue (goes_before e.key e.id e.key e.id) → ⊥
never_itself e is = let none = before_itself e.key e.id in absurd (cc)

pub rising-same : (xs ys : List Entry) → IsRising xs → IsRising ys → ((e : Entry) → In e xs → In e ys) → ((e : Entry) → In e ys → In e xs) → xs ≡ ys
rising-same [] [] one two forth back = refl
rising-same [] (y ∷ ys) one two forth back = absurd (back y (inl refl))
rising-same (x ∷ xs) [] one two forth back = absurd (forth x (inl refl))
rising-same (x ∷ xs) (y ∷ ys) one two forth back =
    let first : x ≡ y = heads (forth x (inl refl)) (back y (inl refl)) in
    ap (λ (e : Entry). e ∷ xs) first
    ∙ ap (λ (es : List Entry). y ∷ es) (rising-same xs ys one.1 two.1
    (λ e among. later x y e xs ys one.0 first among (forth e (inr among)))
    (λ e among. later y x e ys xs two.0 (sym first) among (back e (inr among))))
  where
    heads : (y ≡ x) ⊎ In x ys → (x ≡ y) ⊎ In y xs → x ≡ y
    heads (inl same) other = sym same
    heads (inr deep) (inl same) = same
    heads (inr deep) (inr high) =
        absurd (never_itself x (before_before x.key x.id y.key y.id x.key x.id (behind_in x y xs one.0 high) (behind_in y x ys two.0 deep)))

    later : (x y e : Entry) (xs ys : List Entry) → AreBehind x.key x.id xs → x ≡ y → In e xs → (y ≡ e) ⊎ In e ys → In e ys
    later x y e xs ys behind same among (inr there) = there
    later x y e xs ys behind same among (inl here) =
        absurd (never_itself e (subst (λ (f : Entry). IsTrue (goes_before f.key f.id e.key e.id)) (same ∙ here) (behind_in x e xs behind among)))

-- ---- lists put in order

-- no two have the same id
abbrev pub HasIds : List Entry → Type 0
HasIds [] = Unit {0}
HasIds (x ∷ xs) = AllByRecursion (λ (y : Entry). x.id ≡ y.id → ⊥) xs × HasIds xs

before_other : (key id key' id' : ℕ) → goes_before key' id' key id ≡ false → (id ≡ id' → ⊥) → IsTrue (goes_before key id key' id')
before_other key id key' id' late other = grind (arith, nat_tests)

inserted-rising : (x : Entry) (ys : List Entry) → IsRising ys → AllByRecursion (λ (y : Entry). x.id ≡ y.id → ⊥) ys → IsRising (with_inserted entry_before x ys)
inserted-rising x [] rising other = (tt, tt)
inserted-rising x (y ∷ ys) rising other = by (entry_before y x) refl (inserted-rising x ys rising.1 other.1)
  where
    by : (b : Bool) → entry_before y x ≡ b → IsRising (with_inserted entry_before x ys) → IsRising (if b then y ∷ with_inserted entry_before x ys else x ∷ y ∷ ys)
    by true is rest = (all-with_inserted entry_before (λ (f : Entry). IsTrue (goes_before y.key y.id f.key f.id)) x ys is rising.0, rest)
    by false is rest =
        let first = before_other x.key x.id y.key y.id is other.0 in
        ((first, behind-further x.key x.id y.key y.id ys first rising.0), rising)

pub sorted-rising : (xs : List Entry) → HasIds xs → IsRising (sorted_by entry_before xs)
unfolding sorted_by
sorted-rising [] ids = tt
sorted-rising (x ∷ xs) ids =
    inserted-rising x (sorted_by entry_before xs) (sorted-rising xs ids.1) (all-sorted_by entry_before (λ (y : Entry). x.id ≡ y.id → ⊥) xs ids.0)

inserted-in : (e x : Entry) (ys : List Entry) → In e (x ∷ ys) → In e (with_inserted entry_before x ys)
inserted-in e x [] among = among
inserted-in e x (y ∷ ys) among = by (entry_before y x) among (inserted-in e x ys)
  where
    by : (b : Bool) → In e (x ∷ y ∷ ys) → (In e (x ∷ ys) → In e (with_inserted entry_before x ys)) → In e (if b then y ∷ with_inserted entry_before x ys else x ∷ y ∷ ys)
    by false among deep = among
    by true (inl own) deep = inr (deep (inl own))
    by true (inr (inl head)) deep = inl head
    by true (inr (inr rest)) deep = inr (deep (inr rest))

in-inserted : (e x : Entry) (ys : List Entry) → In e (with_inserted entry_before x ys) → In e (x ∷ ys)
in-inserted e x [] among = among
in-inserted e x (y ∷ ys) among = by (entry_before y x) among (in-inserted e x ys)
  where
    further : In e (x ∷ ys) → In e (x ∷ y ∷ ys)
    further (inl own) = inl own
    further (inr rest) = inr (inr rest)

    by : (b : Bool) → In e (if b then y ∷ with_inserted entry_before x ys else x ∷ y ∷ ys) → (In e (with_inserted entry_before x ys) → In e (x ∷ ys)) → In e (x ∷ y ∷ ys)
    by false among deep = among
    by true (inl head) deep = inr (inl head)
    by true (inr rest) deep = further (deep rest)

pub in-sorted : (e : Entry) (xs : List Entry) → In e (sorted_by entry_before xs) → In e xs
unfolding sorted_by
in-sorted e [] among = among
in-sorted e (x ∷ xs) among = by (in-inserted e x (sorted_by entry_before xs) among) (in-sorted e xs)
  where
    by : In e (x ∷ sorted_by entry_before xs) → (In e (sorted_by entry_before xs) → In e xs) → In e (x ∷ xs)
    by (inl own) deep = inl own
    by (inr rest) deep = inr (deep rest)

pub sorted-in : (e : Entry) (xs : List Entry) → In e xs → In e (sorted_by entry_before xs)
unfolding sorted_by
sorted-in e [] among = among
sorted-in e (x ∷ xs) (inl own) = inserted-in e x (sorted_by entry_before xs) (inl own)
sorted-in e (x ∷ xs) (inr rest) = inserted-in e x (sorted_by entry_before xs) (inr (sorted-in e xs rest))

-- ---- what is placed

module _ (slots : ℕ → Slot) where
  abbrev from_on : ℕ → ℕ → List Placed
  from_on from n = filter_map (λ slot. placed_of slot (slots slot)) (range_with_len from n)

  -- what a slot of the first ones holds
  pub record IsPlacedOn (most : ℕ) (p : Placed) : Type 0 where
    pub below : p.slot < most
    pub holds : slots p.slot ≡ Holds p.collection p.id p.object

  wider : (a b : ℕ) → a ≡ b → (ps : List Placed) → AllByRecursion (IsPlacedOn a) ps → AllByRecursion (IsPlacedOn b) ps
  wider a b same ps all = subst (λ (n : ℕ). AllByRecursion (IsPlacedOn n) ps) same all

  placed_all_by : (from most : ℕ) (slot : Slot) (rest : List Placed) → slots from ≡ slot → from < most → AllByRecursion (IsPlacedOn most) rest
      → AllByRecursion (IsPlacedOn most) (cons_option (placed_of from slot) rest)
  placed_all_by from most Free rest is below all = all
  placed_all_by from most Broken rest is below all = all
  placed_all_by from most (Holds c id object) rest is below all = (record { below = below; holds = is }, all)

  placed_all_on : (from n most : ℕ) → from + n ≡ most → AllByRecursion (IsPlacedOn most) (from_on from n)
  placed_all_on from zero most end = tt
  placed_all_on from (suc n) most end = placed_all_by from most (slots from) (from_on (from + 1) n) refl (omega (arith, end)) (placed_all_on (from + 1) n most (omega (arith, end)))

  pub placed-all : (cap : ℕ) → AllByRecursion (IsPlacedOn cap) (placed_in cap slots)
  unfolding placed_in
  placed-all cap = placed_all_on 0 cap cap (omega arith)

  abbrev the_placed : ℕ → ℕ → ℕ → List ℕ → Placed
  the_placed slot c id object = record { slot = slot; collection = c; id = id; object = object }

  here_by : (from c id : ℕ) (object : List ℕ) (slot : Slot) (rest : List Placed) → slot ≡ Holds c id object → In (the_placed from c id object) (cons_option (placed_of from slot) rest)
  here_by from c id object slot rest is = subst (λ (s : Slot). In (the_placed from c id object) (cons_option (placed_of from s) rest)) (sym is) (inl refl)

  there_by : (from : ℕ) (slot : Slot) (p : Placed) (rest : List Placed) → In p rest → In p (cons_option (placed_of from slot) rest)
  there_by from Free p rest among = among
  there_by from Broken p rest among = among
  there_by from (Holds c id object) p rest among = inr among

  placed_in_on : (from n slot c id : ℕ) (object : List ℕ) → from ≤ slot → slot < from + n → slots slot ≡ Holds c id object → In (the_placed slot c id object) (from_on from n)
  placed_in_on from zero slot c id object least below is = absurd (omega (arith, least, below))
  placed_in_on from (suc n) slot c id object least below is = elim (cases_eq slot from) [
    | inl here ↦
        subst (λ (k : ℕ). In (the_placed k c id object) (from_on from (suc n))) (sym here)
        (here_by from c id object (slots from) (from_on (from + 1) n) (ap slots (sym here) ∙ is))
    | inr other ↦
        there_by from (slots from) (the_placed slot c id object) (from_on (from + 1) n)
        (placed_in_on (from + 1) n slot c id object (omega (arith, least, other)) (omega (arith, below)) is)
  ]

  pub placed-there : (cap slot c id : ℕ) (object : List ℕ) → slot < cap → slots slot ≡ Holds c id object → In (the_placed slot c id object) (placed_in cap slots)
  unfolding placed_in
  placed-there cap slot c id object below is = placed_in_on 0 cap slot c id object (omega arith) (omega (arith, below)) is

-- ---- those of a collection

module _ (c : ℕ) where
  kept : (b : Bool) (p q : Placed) (ps : List Placed) → q.collection ≡ c → (p.collection == c) ≡ b → In q (p ∷ ps) → (In q ps → In q (in_collection c ps)) → In q (cond b (p ∷ in_collection c ps) (in_collection c ps))
  kept true p q ps own is (inl here) deep = inl here
  kept true p q ps own is (inr there) deep = inr (deep there)
  kept false p q ps own is (inl here) deep =
      let same : p.collection ≡ c = ap (λ (r : Placed). r.collection) here ∙ own in
      absurd (let yes_is : (p.collection == c) ≡ true = grind (arith, nat_tests, same) in cc)
  kept false p q ps own is (inr there) deep = deep there

  pub collected-in : (q : Placed) (ps : List Placed) → q.collection ≡ c → In q ps → In q (in_collection c ps)
  collected-in q [] own among = among
  collected-in q (p ∷ ps) own among = kept (p.collection == c) p q ps own refl among (collected-in q ps own)

  all_kept : (P : Placed → Type 0) (b : Bool) (p : Placed) (ps : List Placed) → (p.collection == c) ≡ b → P p → AllByRecursion (λ (q : Placed). P q × (q.collection ≡ c)) ps
      → AllByRecursion (λ (q : Placed). P q × (q.collection ≡ c)) (cond b (p ∷ ps) ps)
  all_kept P true p ps is own all = ((own, grind (arith, nat_tests, is)), all)
  all_kept P false p ps is own all = all

  pub collected-all : (P : Placed → Type 0) (ps : List Placed) → AllByRecursion P ps → AllByRecursion (λ (q : Placed). P q × (q.collection ≡ c)) (in_collection c ps)
  collected-all P [] all = tt
  collected-all P (p ∷ ps) all = all_kept P (p.collection == c) p (in_collection c ps) refl all.0 (collected-all P ps all.1)

-- entries of what is placed
pub in-map : {A B : Type 0} (f : A → B) (x : A) (xs : List A) → In x xs → In (f x) (map f xs)
in-map f x [] among = among
in-map f x (y ∷ ys) (inl here) = inl (ap f here)
in-map f x (y ∷ ys) (inr there) = inr (in-map f x ys there)

pub of-map : {A B : Type 0} (f : A → B) (b : B) (xs : List A) → In b (map f xs) → (x : A) × (In x xs × (f x ≡ b))
of-map f b [] among = absurd among
of-map f b (y ∷ ys) (inl here) = (y, (inl refl, here))
of-map f b (y ∷ ys) (inr there) = let found = of-map f b ys there in (found.0, (inr found.1.0, found.1.1))

-- ---- pairs

abbrev pub Pairwise : {A : Type 0} → (A → A → Type 0) → List A → Type 0
Pairwise R [] = Unit {0}
Pairwise R (x ∷ xs) = AllByRecursion (R x) xs × Pairwise R xs

module _ {A : Type 0} (K : A → Type 0) (R Q : A → A → Type 0) (moved : (p q : A) → K p → K q → R p q → Q p q) where
  all_moved : (x : A) (xs : List A) → K x → AllByRecursion K xs → AllByRecursion (R x) xs → AllByRecursion (Q x) xs
  all_moved x [] known all are = tt
  all_moved x (y ∷ ys) known all are = (moved x y known all.0 are.0, all_moved x ys known all.1 are.1)

  pub pairs-moved : (xs : List A) → AllByRecursion K xs → Pairwise R xs → Pairwise Q xs
  pairs-moved [] all pairs = tt
  pairs-moved (x ∷ xs) all pairs = (all_moved x xs all.0 all.1 pairs.0, pairs-moved xs all.1 pairs.1)

module _ (slots : ℕ → Slot) where
  abbrev Rises : Placed → Placed → Type 0
  Rises p q = p.slot < q.slot

  least_by : (from most : ℕ) (slot : Slot) (rest : List Placed) → most ≤ from → AllByRecursion (λ (p : Placed). most ≤ p.slot) rest
      → AllByRecursion (λ (p : Placed). most ≤ p.slot) (cons_option (placed_of from slot) rest)
  least_by from most Free rest least all = all
  least_by from most Broken rest least all = all
  least_by from most (Holds c id object) rest least all = (least, all)

  least_on : (from n most : ℕ) → most ≤ from → AllByRecursion (λ (p : Placed). most ≤ p.slot) (filter_map (λ slot. placed_of slot (slots slot)) (range_with_len from n))
  least_on from zero most least = tt
  least_on from (suc n) most least =
      least_by from most (slots from) (filter_map (λ slot. placed_of slot (slots slot)) (range_with_len (from + 1) n)) least (least_on (from + 1) n most (omega (arith, least)))

  rising_by : (from : ℕ) (slot : Slot) (rest : List Placed) → AllByRecursion (λ (p : Placed). from + 1 ≤ p.slot) rest → Pairwise Rises rest
      → Pairwise Rises (cons_option (placed_of from slot) rest)
  rising_by from Free rest least pairs = pairs
  rising_by from Broken rest least pairs = pairs
  rising_by from (Holds c id object) rest least pairs = (all-weaker (λ (p : Placed). from + 1 ≤ p.slot) (λ (p : Placed). from < p.slot) (λ p is. omega (arith, is)) rest least, pairs)

  rising_on : (from n : ℕ) → Pairwise Rises (filter_map (λ slot. placed_of slot (slots slot)) (range_with_len from n))
  rising_on from zero = tt
  rising_on from (suc n) =
      let rest = filter_map (λ slot. placed_of slot (slots slot)) (range_with_len (from + 1) n) in
      rising_by from (slots from) rest (least_on (from + 1) n (from + 1) (omega arith)) (rising_on (from + 1) n)

  pub placed-rising : (cap : ℕ) → Pairwise (λ (p q : Placed). p.slot < q.slot) (placed_in cap slots)
  unfolding placed_in
  placed-rising cap = rising_on 0 cap

-- a collection's part of pairs
module _ (c : ℕ) (R : Placed → Placed → Type 0) where
  part_all : (x : Placed) (ps : List Placed) → AllByRecursion (R x) ps → AllByRecursion (R x) (in_collection c ps)
  part_all x [] all = tt
  part_all x (p ∷ ps) all = by (p.collection == c) (part_all x ps all.1)
    where
      by : (b : Bool) → AllByRecursion (R x) (in_collection c ps) → AllByRecursion (R x) (cond b (p ∷ in_collection c ps) (in_collection c ps))
      by true rest = (all.0, rest)
      by false rest = rest

  pub part-pairs : (ps : List Placed) → Pairwise R ps → Pairwise R (in_collection c ps)
  part-pairs [] pairs = tt
  part-pairs (p ∷ ps) pairs = by (p.collection == c) (part_all p ps pairs.0) (part-pairs ps pairs.1)
    where
      by : (b : Bool) → AllByRecursion (R p) (in_collection c ps) → Pairwise R (in_collection c ps) → Pairwise R (cond b (p ∷ in_collection c ps) (in_collection c ps))
      by true own rest = (own, rest)
      by false own rest = rest

-- ids of entries
module _ (f : Placed → Entry) (shape : (p : Placed) → (f p).id ≡ p.id) where
  ids_all : (p : Placed) (ps : List Placed) → AllByRecursion (λ (q : Placed). p.id ≡ q.id → ⊥) ps → AllByRecursion (λ (y : Entry). (f p).id ≡ y.id → ⊥) (map f ps)
  ids_all p [] all = tt
  ids_all p (q ∷ ps) all = ((λ same. all.0 (sym (shape p) ∙ same ∙ shape q)), ids_all p ps all.1)

  pub ids-of : (ps : List Placed) → Pairwise (λ (p q : Placed). p.id ≡ q.id → ⊥) ps → HasIds (map f ps)
  ids-of [] pairs = tt
  ids-of (p ∷ ps) pairs = (ids_all p ps pairs.0, ids-of ps pairs.1)

-- a rising list has one entry of a key and an id
pub rising-one : (xs : List Entry) → IsRising xs → (e g : Entry) → In e xs → In g xs → e.key ≡ g.key → e.id ≡ g.id → e ≡ g
rising-one [] rising e g one two key id = absurd one
rising-one (x ∷ xs) rising e g (inl a) (inl b) key id = sym a ∙ b
rising-one (x ∷ xs) rising e g (inl a) (inr b) key id =
    absurd (never_itself g (subst (λ (k : ℕ). IsTrue (goes_before k g.id g.key g.id)) (ap (λ (f : Entry). f.key) a ∙ key)
    (subst (λ (k : ℕ). IsTrue (goes_before x.key k g.key g.id)) (ap (λ (f : Entry). f.id) a ∙ id) (behind_in x g xs rising.0 b))))
rising-one (x ∷ xs) rising e g (inr a) (inl b) key id =
    absurd (never_itself e (subst (λ (k : ℕ). IsTrue (goes_before k e.id e.key e.id)) (ap (λ (f : Entry). f.key) b ∙ sym key)
    (subst (λ (k : ℕ). IsTrue (goes_before x.key k e.key e.id)) (ap (λ (f : Entry). f.id) b ∙ sym id) (behind_in x e xs rising.0 a))))
rising-one (x ∷ xs) rising e g (inr a) (inr b) key id = rising-one xs rising.1 e g a b key id
