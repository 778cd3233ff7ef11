use Rattle.std.proofs.Common.{◌-◌, ◌++◌, length, replicate, ◌∙◌, refl, arith}
use Rattle.object_file.proofs.SlotBytes.{sets_filled}
use Rattle.object_file.proofs.slots.fill_slot.Goals as goal

pub returns : goal.returns
returns c = sets_filled c.args.page.now c.lay.new.slot c.args.place c.args.head.collection c.args.head.id c.args.object.now
    (120 - length c.args.object.now) _ c.told-page c.requires.place (omega arith) c.requires.collection c.head_bytes.ensures.fits c.requires.short refl
    (c.lay.ensures ∙ (λ i. c.head_bytes.ensures.bytes i ++ (c.args.object.now ++ replicate (120 - length c.args.object.now) 0)))
