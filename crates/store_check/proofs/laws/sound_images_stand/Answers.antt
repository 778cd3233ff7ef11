use Rattle.store_check.proofs.Opening.{stands_for}
use Rattle.store_check.proofs.laws.sound_images_stand.Goals as goal

pub returns : goal.returns
returns c = stands_for
