use Rattle.std.proofs.Common.{[], sym}
use Rattle.page_cache.proofs.Histories.{first_part, none_twice, none_of_none}
use Rattle.page_cache.proofs.laws.less_room_holds_the_first.Goals as goal

pub returns : goal.returns
returns c = λ room more asked less. first_part room more [] [] asked less (sym (none_of_none room)) none_twice
