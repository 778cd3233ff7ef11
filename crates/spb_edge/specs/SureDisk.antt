-- A disk in memory that never fails.
use Rattle.std.proofs.Common.{◌≡◌, inl, ℕ, List, length, true, false, refl, ap, arith}
use Rattle.spb_edge.specs.Quiet.{IsQuiet}

-- its bytes, and how many reads were made
pub record Image : Type 0 where
  pub bytes : List ℕ
  pub reads : ℕ

-- if the bytes stay, nothing visible happens
pub quiet_is : (old new : Image) → new.bytes ≡ old.bytes
    → IsQuiet (λ (d : Image). true) (λ (d : Image). false) (λ (d : Image). length d.bytes) (λ (d : Image). d.bytes) (λ d c. Unit {0}) (λ d. 0)
    (λ d t c. Unit {0}) old new
quiet_is old new same = record {
  tells = refl;
  tells_crashes_too = refl;
  length_is = ap length same;
  image_is = λ _. same;
  no_more = λ c left. left;
  no_fewer = λ c left. left;
  since = λ c left. left;
  time = record { later = omega arith; nothing_else = λ t c le left. inl left; keeps = λ t c le left. left };
}
