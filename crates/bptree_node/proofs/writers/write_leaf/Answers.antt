use Rattle.std.proofs.Common.{◌∙◌, ◌+◌, ◌*◌, ◌-◌, refl, arith}
use Rattle.std.proofs.lemmas.List.Elements.{All-more}
use Rattle.bptree_node.specs.Nodes.{entry_bytes, FitsEntry}
use Rattle.bptree_node.proofs.Spelling.{length-entry_bytes}
use Rattle.bptree_node.proofs.NodePages.{rows_more, leaf_written}
use Rattle.bptree_node.proofs.writers.write_leaf.Goals as goal

pub loop-i-preserved : goal.loop-i-preserved
loop-i-preserved c = record {
  written = rows_more entry_bytes 1 16 30 length-entry_bytes (omega arith) c.args.entries.now c.loop-i.i (32 + 16 * c.loop-i.i)
      (32 + 16 * c.loop-i.i + 16 - (32 + 16 * c.loop-i.i)) _ c.loop-i.page c.copy_from_slice.new.self
      c.loop-i-test.true c.requires.few refl (omega arith) c.loop-i.invariant.written
      (c.copy_from_slice.ensures.after ∙ c.entry_bytes.ensures.bytes);
  fit = All-more FitsEntry c.args.entries.now c.loop-i.i _ c.loop-i-test.true c.loop-i.invariant.fit c.entry_bytes.ensures.fits;
}

pub returns : goal.returns
returns c =
    let done = leaf_written c.args.entries.now c.loop-i.i c.loop-i.page c.requires.some c.requires.few c.loop-i-test.false c.loop-i.invariant.written
    c.loop-i.invariant.fit in
    record { page = done.0; node = done.1; entries = done.2 }
