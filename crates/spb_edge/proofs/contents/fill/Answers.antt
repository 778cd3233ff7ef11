use Rattle.std.proofs.Common.{◌≡◌, replicate, ◌++◌, ◌-◌, ◌∙◌, ap, arith}
use Rattle.spb_edge.specs.Disk.{overwritten_at}
use Rattle.spb_edge.proofs.Ranges.{grown-overwritten_at, resized}
use Rattle.spb_edge.proofs.contents.fill.Goals as goal

pub returns : goal.returns
returns c =
    let grown : c.resize.new.self.items ≡ c.args.image.now.items ++ replicate (c.args.count - c.min.result) c.args.byte =
    resized c.args.image.now.items c.reserve.new.self.items c.resize.new.self.items c.len-2.result (c.args.count - c.min.result) c.args.byte _
    c.in_ok-reserve.ensures.items (omega (arith, c.len-2.ensures)) (omega arith) c.in_ok-resize.ensures.items in
    grown-overwritten_at c.args.image.now.items c.resize.new.self.items c.fill_within.new.image c.args.at c.args.count (c.args.count - c.min.result)
    c.args.byte c.resize.new.self.len
    c.requires (omega (arith, c.min.ensures, c.len.ensures)) grown (omega arith) (c.fill_within.ensures
    ∙ ap (λ i. overwritten_at i c.args.at (replicate c.args.count c.args.byte)) c.deref_mut.ensures.value)
