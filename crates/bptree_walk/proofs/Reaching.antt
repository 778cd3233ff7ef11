-- The branch that leads to a key and an id.
use Rattle.std.proofs.Common.{◌≡◌, inl, inr, ℕ, suc, ◌+◌, ◌<◌, Bool, true, false, cond, not, List, [], ◌∷◌, ◌++◌, length, take, drop, get_or, refl, sym, ap, subst, ◌∙◌, arith}
use Rattle.std.specs.Prelude.{IsTrue, Contains, None}
use Rattle.std.specs.List.{flat_map, AllByRecursion, prefix_len}
use Rattle.std.proofs.Math.Seq.{drop-cons}
use Rattle.std.proofs.lemmas.Bool.{cases_lt}
use Rattle.std.proofs.lemmas.List.{take-append-drop}
use Rattle.std.proofs.lemmas.List.Concat.{flat_map-append}
use Rattle.std.proofs.lemmas.List.Sums.{prefix_len-le-length, prefix_len_passes, prefix_len_stops, prefix_len-drop_all, prefix_len-drop_no}
use Rattle.bptree_node.specs.declared.rows.Entry.{Entry}
use Rattle.bptree_node.specs.declared.rows.Branch.{Branch}
use Rattle.bptree_node.specs.EntryLaws.{StartsBehind, starts-behind, slot_of-behind, slot_of-part}
use Rattle.bptree_node.specs.Lists.{all-back}
use Rattle.bptree_node.specs.Trees.{goes_before, IsRising, slot_of, HasFirst}
use Rattle.bptree_walk.specs.Routes.{reaches}
use Rattle.bptree_walk.proofs.Lists.{of_one}

starts_with : (key id first_key first_id : ℕ) (xs ys : List Entry) → HasFirst first_key first_id xs → IsTrue (goes_before key id first_key first_id) → StartsBehind key id (xs ++ ys)
starts_with key id first_key first_id [] ys first before = absurd first
starts_with key id first_key first_id (x ∷ xs) ys first before =
    ap (λ n. goes_before key id n x.id) first.0 ∙ ap (λ n. goes_before key id first_key n) first.1 ∙ before

not_reached : (b : Bool) (n : ℕ) → cond (not b) (1 + n) 0 ≡ 0 → b ≡ true
not_reached true n is = refl
not_reached false n is = absurd (omega (arith, is))

is_false : (b : Bool) → not b ≡ true → b ≡ false
is_false true is = sym is
is_false false is = refl

is_true : (b : Bool) → not b ≡ false → b ≡ true
is_true true is = refl
is_true false is = sym is

module _ (key id : ℕ) (inside : Branch → List Entry) where
  abbrev pub HaveFirst : List Branch → Type 0
  HaveFirst bs = AllByRecursion (λ (b : Branch). HasFirst b.key b.id (inside b)) bs

  starts_after : (bs : List Branch) → HaveFirst bs → prefix_len (reaches key id) bs ≡ 0 → StartsBehind key id (flat_map inside bs)
  starts_after [] firsts none = tt
  starts_after (b ∷ bs) firsts none =
      starts_with key id b.key b.id (inside b) (flat_map inside bs) firsts.0 (not_reached (goes_before key id b.key b.id) (prefix_len (reaches key id) bs) none)

  -- if the first branch is after the key and the id, no entry has them
  pub none_reached : (bs : List Branch) → HaveFirst bs → IsRising (flat_map inside bs) → prefix_len (reaches key id) bs ≡ 0 → slot_of key id (flat_map inside bs) ≡ None
  none_reached bs firsts rising none = slot_of-behind key id (flat_map inside bs) (starts-behind key id (flat_map inside bs) rising (starts_after bs firsts none))

  -- those after the last one that isn't are after them
  stops : (bs : List Branch) (d : Branch) (n : ℕ) → prefix_len (reaches key id) bs ≡ n → prefix_len (reaches key id) (drop n bs) ≡ 0
  stops bs d n is = elim (cases_lt n (length bs)) [
    | inl below ↦ prefix_len-drop_no (reaches key id) bs n d below
        (ap (λ m. reaches key id (get_or bs m d)) (sym is) ∙ prefix_len_stops (reaches key id) bs d (omega (arith, is, below)))
    | inr past ↦ prefix_len-drop_all (reaches key id) bs n past
  ]

  -- and if there are others, an entry that has them is under the last one of these
  pub last_reached : (bs : List Branch) (k : ℕ) (b : Branch) → HaveFirst bs → IsRising (flat_map inside bs) → prefix_len (reaches key id) bs ≡ suc k → get_or bs k b ≡ b
      → slot_of key id (flat_map inside bs) ≡ slot_of key id (inside b)
  last_reached bs k b firsts rising reach is =
      let below : k < length bs = omega (arith, reach, prefix_len-le-length (reaches key id) bs) in
      let among : Contains bs b = (k, below, is) in
      let after : List Branch = drop (suc k) bs in
      let tail : drop k bs ≡ b ∷ after = drop-cons bs k b below ∙ ap (λ (c : Branch). c ∷ after) is in
      let split : take k bs ++ (b ∷ after) ≡ bs = ap (λ (cs : List Branch). take k bs ++ cs) (sym tail) ∙ take-append-drop k bs in
      let whole : flat_map inside bs ≡ flat_map inside (take k bs) ++ (inside b ++ flat_map inside after) =
      ap (flat_map inside) (sym split) ∙ flat_map-append inside (take k bs) (b ∷ after)
      in
      let rest : HaveFirst (b ∷ after) = all-back (λ (c : Branch). HasFirst c.key c.id (inside c)) (take k bs) (b ∷ after) (subst HaveFirst (sym split) firsts) in
      let passes : reaches key id b ≡ true = ap (reaches key id) (sym is) ∙ prefix_len_passes (reaches key id) bs k b (omega (arith, reach)) in
      ap (slot_of key id) whole
      ∙ slot_of-part key id b.key b.id (flat_map inside (take k bs)) (inside b) (flat_map inside after) (subst IsRising whole rising)
      (of_one (λ (c : Branch). HasFirst c.key c.id (inside c)) bs b firsts among) (is_false (goes_before key id b.key b.id) passes)
      (starts_after after rest.1 (stops bs b (suc k) reach))
