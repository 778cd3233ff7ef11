-- The runs of device calls that make a file.
use Rattle.std.proofs.Common.{◌≡◌, ◌⊎◌, ⊎_elim, ℕ, ◌≤◌, Bool, List, length, sym, ◌∙◌, ap, subst, arith}
use Rattle.spb_edge.specs.Crash.{IsTornWrite, IsDurable, Includes, CrashesLeaveOnly}
use Rattle.spb_edge.specs.Moments.{started, weaker, joined}
use Rattle.spb_edge.specs.Quiet.{IsQuiet, calmly}
use Rattle.store_format.specs.declared.new_file.NewFile.{NewFile}
use Rattle.store_format.specs.NewFile.{zero_page, HasPages, IsUnsigned, IsUnderWay, IsShort, Lacks, Fills}
use Rattle.store_format.proofs.Pieces.{zero_page-unsigned}
use Rattle.store_format.proofs.Filled.{filled}

-- the first page, which a sync kept, begins with a zero byte
pub first_unsigned : (image : List ℕ) (crash_states : List ℕ → Type 0) → IsDurable image crash_states → image ≡ zero_page
    → (c : List ℕ) → crash_states c → IsUnsigned c
first_unsigned image crash_states only is c left = subst IsUnsigned (sym (only c left ∙ is)) zero_page-unsigned

module _ {D : Type 0} (moment : D → ℕ) (crash_states_since : D → ℕ → List ℕ → Type 0) (file : NewFile) where
  -- the first page, and then the others
  pub filling : (start room now : D) → CrashesLeaveOnly moment crash_states_since start room (λ c. length c ≤ 512)
      → CrashesLeaveOnly moment crash_states_since room now IsUnsigned
      → CrashesLeaveOnly moment crash_states_since start now (IsUnderWay file)
  filling start room now first others =
      joined moment crash_states_since start room now (IsUnderWay file)
      (weaker moment crash_states_since start room (λ c. length c ≤ 512) (IsUnderWay file) (λ c short. IsShort short) first)
      (weaker moment crash_states_since room now IsUnsigned (IsUnderWay file) (λ c unsigned. Lacks unsigned) others)

  -- and then the magic
  pub signing : (start pages now : D) (image : List ℕ) → 1 ≤ file.total → HasPages file.total file image
      → CrashesLeaveOnly moment crash_states_since start pages (IsUnderWay file)
      → CrashesLeaveOnly moment crash_states_since pages now (λ c. IsUnsigned c ⊎ IsTornWrite 0 8 image c)
      → CrashesLeaveOnly moment crash_states_since start now (IsUnderWay file)
  signing start pages now image some there so_far last =
      joined moment crash_states_since start pages now (IsUnderWay file) so_far
      (weaker moment crash_states_since pages now (λ c. IsUnsigned c ⊎ IsTornWrite 0 8 image c) (IsUnderWay file)
      (λ c. ⊎_elim (λ unsigned. Lacks unsigned) (λ torn. Fills (filled file image c some there torn))) last)

  -- the size was asked for
  pub asking : (start asked : D) (is_known knows_crashes : D → Bool) (size_of : D → ℕ) (image : D → List ℕ) (crash_states : D → List ℕ → Type 0)
      → IsQuiet is_known knows_crashes size_of image crash_states moment crash_states_since start asked
      → Includes (crash_states start) (crash_states_since start (moment start)) → IsDurable (image start) (crash_states start)
      → length (image start) ≡ 0 → CrashesLeaveOnly moment crash_states_since start asked (IsUnderWay file)
  asking start asked is_known knows_crashes size_of image crash_states quiet only_now only none =
      let here : (c : List ℕ) → crash_states start c → IsUnderWay file c =
      λ c left. IsShort (omega (arith, ap length (only c left), none)) in
      calmly is_known knows_crashes size_of image crash_states moment crash_states_since start start asked (IsUnderWay file)
      (started moment crash_states_since start (IsUnderWay file) (λ c left. here c (only_now c left))) quiet here
