use Rattle.redo_journal.proofs.Headers.{header_written, are_bytes, are_all_bytes}
use Rattle.redo_journal.proofs.header.header_of.Goals as goal

pub returns : goal.returns
returns c = header_written c.args.numbers.now c.write_u32.new.buf c.write_u32_into.new.dst c.requires (are_bytes _ _ _ c.write_u32.ensures)
    (are_all_bytes _ _ c.write_u32_into.ensures)
