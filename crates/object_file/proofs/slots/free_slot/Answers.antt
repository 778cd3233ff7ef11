use Rattle.object_file.proofs.SlotBytes.{sets_free}
use Rattle.object_file.proofs.slots.free_slot.Goals as goal

pub returns : goal.returns
returns c = sets_free c.args.page.now c.args.place c.told-page c.requires
