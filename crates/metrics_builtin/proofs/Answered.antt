-- What a test's answer shows.
use Rattle.std.proofs.Common.{◌≡◌, ℕ, ◌↔◌, Bool, true, false, cond, refl}
use Rattle.std.specs.Prelude.{IsTrue}
use Rattle.std.specs.Int.{from_bool}

pub refuted : (P : Type 0) → (P → ⊥) → IsTrue false ↔ P
refuted P none = (λ answer. cc, λ p. absurd (none p))

pub confirmed : (P : Type 0) → P → IsTrue true ↔ P
confirmed P holds = (λ answer. holds, λ p. refl)

-- a test as a number
pub from_bool-cond : (b : Bool) → ◌≡◌ {A = ℕ} (from_bool b) (cond b 1 0)
from_bool-cond true = refl
from_bool-cond false = refl
