use Rattle.std.proofs.Common.{◌≡◌, ℕ, zero, suc, List, refl, ap, ◌+◌, ◌/◌, ◌<◌, ◌≤◌, length, get_or, arith}
use Rattle.std.specs.List.Sorted.{IsStrictlyIncreasing}
use Rattle.std.proofs.lemmas.List.Elements.{All-from_get_or}
use Rattle.metrics_builtin.specs.Vectors.{components}
use Rattle.metrics_builtin.specs.VectorLaws.{length-components-div}
use Rattle.metrics_builtin.specs.SetLaws.{elements-IsSubset, length-IsSubset, IsSubset-components}
use Rattle.metrics_builtin.proofs.Answered.{refuted, confirmed}
use Rattle.metrics_builtin.proofs.sets.is_subset.Goals as goal

-- an element below the least that it may be
falls : (xs : List ℕ) (place least : ℕ) → IsStrictlyIncreasing xs → place < length xs → (place ≡ 0 → least ≡ 0)
    → ((k : ℕ) → k + 1 ≡ place → least ≡ get_or xs k 0 + 1) → get_or xs place 0 < least → ⊥
falls xs zero least rising inside first last low = let none : least ≡ 0 = first refl in omega arith
falls xs (suc k) least rising inside first last low =
    let same : k + 1 ≡ suc k = omega arith in
    let past : least ≡ get_or xs k 0 + 1 = last k same in
    let up : get_or xs k 0 < get_or xs (k + 1) 0 = rising k (omega arith) in
    let at : get_or xs (k + 1) 0 ≡ get_or xs (suc k) 0 = ap (λ j. get_or xs j 0) same in
    omega arith

pub returns-then-object-many : goal.returns-then-object-many
returns-then-object-many c =
    refuted _ (λ v. omega (arith, length-IsSubset c.args.universe c.args.most c.args.object.now v))

pub returns-then-many-most : goal.returns-then-many-most
returns-then-many-most c =
    refuted _ (λ v.
    let set = elements-IsSubset c.args.universe c.args.most c.args.object.now (omega arith) v in
    omega (arith, set.few, length-components-div c.args.object.now))

pub returns-then-element-least : goal.returns-then-element-least
returns-then-element-least c =
    refuted _ (λ v.
    let set = elements-IsSubset c.args.universe c.args.most c.args.object.now (omega arith) v in
    falls (components c.args.object.now) c.loop-place.place c.loop-place.least (set.rising) (omega (arith, length-components-div c.args.object.now))
    c.loop-place.invariant.first c.loop-place.invariant.last (omega arith))

pub returns-then-element-universe : goal.returns-then-element-universe
returns-then-element-universe c =
    refuted _ (λ v.
    let set = elements-IsSubset c.args.universe c.args.most c.args.object.now (omega arith) v in
    let inside : get_or (components c.args.object.now) c.loop-place.place 0 < c.args.universe =
    set.within c.loop-place.place 0 (omega (arith, length-components-div c.args.object.now)) in
    omega arith)

pub returns : goal.returns
returns c =
    let many = length-components-div c.args.object.now in
    let ended : length (components c.args.object.now) ≤ c.loop-place.place = omega arith in
    let few : length (components c.args.object.now) ≤ c.args.most = omega arith in
    confirmed _ (IsSubset-components c.args.universe c.args.most c.args.object.now (length c.args.object.now / 4) (omega arith)
    (λ k. (c.type_inv.object k).fits) (record {
      rising = λ k h. c.loop-place.invariant.rising k (omega arith);
      within = All-from_get_or (λ x. x < c.args.universe) (components c.args.object.now) 0 (λ k h. c.loop-place.invariant.within k (omega arith));
      few = few;
    }))
