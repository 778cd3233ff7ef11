use Rattle.image_laws.proofs.Naming.{filled-named, free-unnamed}
use Rattle.image_laws.proofs.laws.held_slots_are_named.Goals as goal

pub returns-clause-filled : goal.returns-clause-filled
returns-clause-filled c = filled-named

pub returns-clause-free : goal.returns-clause-free
returns-clause-free c = free-unnamed
