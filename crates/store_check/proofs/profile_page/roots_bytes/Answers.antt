use Rattle.std.proofs.Common.{◌+◌, ◌++◌, ap, ◌∙◌, Some, arith}
use Rattle.std.specs.Prelude.{slice_index_or}
use Rattle.store_check.specs.Profile.{trees_in, no_root}
use Rattle.store_check.proofs.Writing.{reads_on, reads_all}
use Rattle.store_check.proofs.profile_page.roots_bytes.Goals as goal

pub loop-c-preserved : goal.loop-c-preserved
loop-c-preserved c =
    reads_on (λ d. Some (slice_index_or c.args.roots.now d no_root, slice_index_or c.args.roots.now (4 + d) no_root)) c.loop-c.c
    _ c.loop-c.bytes c.copy_from_slice.new.self (omega (arith, c.loop-c-test)) (omega arith) (omega (arith, c.copy_from_slice.ensures)) c.loop-c.invariant
    (λ rest. ap (λ xs. trees_in (xs ++ rest)) c.copy_from_slice.ensures.after ∙ c.trees_bytes.ensures rest)

pub returns : goal.returns
returns c = reads_all (λ d. Some (slice_index_or c.args.roots.now d no_root, slice_index_or c.args.roots.now (4 + d) no_root)) c.loop-c.c c.loop-c.bytes
    (omega (arith, c.loop-c-test)) c.loop-c.invariant
