use Rattle.std.proofs.Common.{◌≡◌, ◌≤◌, ◌+◌, ◌-◌, ◌*◌, length, ◌∙◌, arith}
use Rattle.store_format.proofs.Pieces.{laid}
use Rattle.store_format.proofs.new_file.lay_pages.Goals as goal

pub loop-i-preserved : goal.loop-i-preserved
loop-i-preserved c =
    let i = c.loop-i.i in
    let within : 512 * i + 512 ≤ length c.loop-i.bytes = omega (arith, c.requires.room, c.loop-i.invariant.long, c.loop-i-test.true) in
    let long : length c.lay_page.new.bytes ≡ 512 * i + 512 - 512 * i = omega (arith, c.lay_page.ensures.len) in
    let held = laid c.args.file.now c.args.first i (512 * i + 512 - 512 * i) c.loop-i.bytes c.lay_page.new.bytes within (omega arith) long c.lay_page.ensures.page
    c.loop-i.invariant.placed in record {
      placed = held.0;
      long = held.1 ∙ c.loop-i.invariant.long;
    }
