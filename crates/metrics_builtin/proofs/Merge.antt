-- A step of the merge as the code makes it: past the lesser number, and past both if they are equal.
use Rattle.std.proofs.Common.{◌≡◌, ℕ, ◌+◌, ◌*◌, ◌<◌, ◌≤◌, ◌==◌, inl, inr, nat_le, List, length, get_or, drop, arith}
use Rattle.std.specs.Int.{from_bool}
use Rattle.std.proofs.lemmas.Bool.{cases_eq, cases_lt}
use Rattle.std.proofs.lemmas.Bool.Decides.{nat_tests}
use Rattle.metrics_builtin.specs.Sets.{IsRisingWithin, set_dist}
use Rattle.metrics_builtin.specs.SetLaws.{merges}

-- what three tests of two numbers count
pub record Steps (x y passed others common : ℕ) : Type 0 where
  pub less : x < y → (passed ≡ 1) × (others ≡ 0) × (common ≡ 0)
  pub greater : y < x → (passed ≡ 0) × (others ≡ 1) × (common ≡ 0)
  pub equal : x ≡ y → (passed ≡ 1) × (others ≡ 1) × (common ≡ 1)

pub steps : (x y passed others common : ℕ) → passed ≡ from_bool (nat_le x y) → others ≡ from_bool (nat_le y x) → common ≡ from_bool (x == y)
    → Steps x y passed others common
steps x y passed others common p o e = record {
  less = λ h. (grind (arith, nat_tests), grind (arith, nat_tests), grind (arith, nat_tests));
  greater = λ h. (grind (arith, nat_tests), grind (arith, nat_tests), grind (arith, nat_tests));
  equal = λ h. (grind (arith, nat_tests), grind (arith, nat_tests), grind (arith, nat_tests));
}

-- each advances by one at most, and both do if the numbers are common
pub record Counted (passed others common : ℕ) : Type 0 where
  pub one : passed ≤ 1
  pub one_other : others ≤ 1
  pub within : common ≤ passed
  pub within_others : common ≤ others
  pub some : 1 ≤ passed + others

pub counted : (x y passed others common : ℕ) → Steps x y passed others common → Counted passed others common
counted x y passed others common s = elim (cases_eq x y) [
  | inl same ↦ let e = s.equal same in record {
    one = omega arith;
    one_other = omega arith;
    within = omega arith;
    within_others = omega arith;
    some = omega arith;
  }
  | inr other ↦ elim (cases_lt x y) [
    | inl low ↦ let e = s.less low in record {
      one = omega arith;
      one_other = omega arith;
      within = omega arith;
      within_others = omega arith;
      some = omega arith;
    }
    | inr high ↦ let e = s.greater (grind arith) in
        record { one = omega arith; one_other = omega arith; within = omega arith; within_others = omega arith; some = omega arith }
  ]
]

pub merge_step : (universe most i j total done passed others common : ℕ) (xs ys : List ℕ) →
    IsRisingWithin universe most xs → IsRisingWithin universe most ys → i < length xs → j < length ys →
    Steps (get_or xs i 0) (get_or ys j 0) passed others common →
    set_dist universe (drop i xs) (drop j ys) + i + j ≡ total + 2 * done →
    set_dist universe (drop (i + passed) xs) (drop (j + others) ys) + (i + passed) + (j + others) ≡ total + 2 * (done + common)
merge_step universe most i j total done passed others common xs ys v w h k s e =
    let m = merges universe i j xs ys v.rising w.rising v.within w.within h k in
    elim (cases_eq (get_or xs i 0) (get_or ys j 0)) [
      | inl same ↦
          let p : passed ≡ 1 = (s.equal same).0 in
          let o : others ≡ 1 = (s.equal same).1 in
          let c : common ≡ 1 = (s.equal same).2 in
          let at : set_dist universe (drop (i + passed) xs) (drop (j + others) ys) ≡ set_dist universe (drop (i + 1) xs) (drop (j + 1) ys) = cc in
          omega (arith, m.equal same)
      | inr other ↦ elim (cases_lt (get_or xs i 0) (get_or ys j 0)) [
        | inl low ↦
            let p : passed ≡ 1 = (s.less low).0 in
            let o : others ≡ 0 = (s.less low).1 in
            let c : common ≡ 0 = (s.less low).2 in
            let stay : j + others ≡ j = omega arith in
            let at : set_dist universe (drop (i + passed) xs) (drop (j + others) ys) ≡ set_dist universe (drop (i + 1) xs) (drop j ys) = cc in
            omega (arith, m.less low)
        | inr high ↦
            let low : get_or ys j 0 < get_or xs i 0 = grind arith in
            let p : passed ≡ 0 = (s.greater low).0 in
            let o : others ≡ 1 = (s.greater low).1 in
            let c : common ≡ 0 = (s.greater low).2 in
            let stay : i + passed ≡ i = omega arith in
            let at : set_dist universe (drop (i + passed) xs) (drop (j + others) ys) ≡ set_dist universe (drop i xs) (drop (j + 1) ys) = cc in
            omega (arith, m.greater low)
      ]
    ]
