use Rattle.store_format.proofs.Slots.{free_page}
use Rattle.store_format.proofs.new_file.free_page.Goals as goal

pub returns : goal.returns
returns c = free_page
