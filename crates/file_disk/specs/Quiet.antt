-- Quiet stretches of a disk of which only the length is known.
use Rattle.std.proofs.Common.{◌≡◌, ℕ, false, [], inl, refl, arith}
use Rattle.spb_edge.specs.Quiet.{IsQuiet}

-- states of one length are quiet
pub quiet_is : {D : Type 0} (size_of : D → ℕ) (old new : D) → size_of new ≡ size_of old
    → IsQuiet (λ (d : D). false) (λ (d : D). false) size_of (λ (d : D). []) (λ (d : D) c. Unit {0}) (λ (d : D). 0) (λ (d : D) t c. Unit {0}) old new
quiet_is size_of old new same = record {
  tells = refl;
  tells_crashes_too = refl;
  length_is = same;
  image_is = λ _. refl;
  no_more = λ c left. tt;
  no_fewer = λ c left. tt;
  since = λ c left. tt;
  time = record { later = omega arith; nothing_else = λ t c le left. inl tt; keeps = λ t c le left. tt };
}
