use Rattle.std.proofs.Common.{◌∙◌, ◌+◌, ◌*◌, ◌-◌, refl, arith}
use Rattle.std.proofs.lemmas.List.Elements.{All-more}
use Rattle.bptree_node.specs.Nodes.{branch_bytes, FitsBranch}
use Rattle.bptree_node.proofs.Spelling.{length-branch_bytes}
use Rattle.bptree_node.proofs.NodePages.{rows_more, inner_written}
use Rattle.bptree_node.proofs.writers.write_inner.Goals as goal

pub loop-i-preserved : goal.loop-i-preserved
loop-i-preserved c = record {
  written = rows_more branch_bytes 2 32 14 length-branch_bytes (omega arith) c.args.branches.now c.loop-i.i (32 + 32 * c.loop-i.i)
      (32 + 32 * c.loop-i.i + 32 - (32 + 32 * c.loop-i.i)) _ c.loop-i.page c.copy_from_slice.new.self
      c.loop-i-test.true c.requires.few refl (omega arith) c.loop-i.invariant.written
      (c.copy_from_slice.ensures.after ∙ c.branch_bytes.ensures.bytes);
  fit = All-more FitsBranch c.args.branches.now c.loop-i.i _ c.loop-i-test.true c.loop-i.invariant.fit c.branch_bytes.ensures.fits;
}

pub returns : goal.returns
returns c =
    let done = inner_written c.args.branches.now c.loop-i.i c.loop-i.page c.requires.some c.requires.few c.loop-i-test.false c.loop-i.invariant.written
    c.loop-i.invariant.fit in
    record { page = done.0; node = done.1; branches = done.2 }
