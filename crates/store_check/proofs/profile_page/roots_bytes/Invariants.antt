use Rattle.std.proofs.Common.{◌≡◌, ℕ, ◌+◌, ◌*◌, ◌<◌, ◌++◌, List, length, take, drop, Some}
use Rattle.std.specs.Prelude.{slice_index_or}
use Rattle.store_check.specs.Profile.{no_root, trees_in}
use Rattle.store_check.proofs.profile_page.roots_bytes.Given as goal

-- the bytes so far read as the roots of so many collections, whatever follows them
abbrev pub invariant-loop-c : goal.invariant-loop-c
invariant-loop-c l = (length l.bytes ≡ 64) × ((d : ℕ) (rest : List ℕ) → d < l.c
    → trees_in (drop (16 * d) (take (16 * l.c) l.bytes ++ rest)) ≡ Some (slice_index_or l.roots d no_root, slice_index_or l.roots (4 + d) no_root))
