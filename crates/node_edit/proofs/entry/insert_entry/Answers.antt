use Rattle.std.proofs.Common.{◌∙◌, arith}
use Rattle.node_edit.specs.Rows.{entries_on}
use Rattle.node_edit.proofs.Placing.{page-known, entry-put}
use Rattle.node_edit.proofs.entry.insert_entry.Goals as goal

pub returns : goal.returns
returns c =
    entry-put c.args.page.now (page-known c.args.page.now c.told-page c.fits-page) (entries_on c.args.page.now) c.args.entry.now c.args.at c.entry_count-count.result _ _
    c.copy_from_slice.new.self c.copy_from_slice-2.new.self c.requires.leaf c.requires.place c.requires.room c.entry_bytes.ensures.fits c.entry_count-count.ensures (omega arith) (omega arith)
    c.copy_from_slice.ensures.after (c.copy_from_slice-2.ensures.after ∙ c.entry_bytes.ensures.bytes)
