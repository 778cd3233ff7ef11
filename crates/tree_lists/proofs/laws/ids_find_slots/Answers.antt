use Rattle.tree_lists.proofs.Finding.{found-held, none-absent, absent-none, held-found}
use Rattle.tree_lists.proofs.laws.ids_find_slots.Goals as goal

pub returns-clause-found : goal.returns-clause-found
returns-clause-found c = λ space cap d key id slot home members key_of holds found. found-held space cap home members holds key_of d key id slot found

pub returns-clause-none : goal.returns-clause-none
returns-clause-none c = λ space cap d id home members holds none. none-absent space cap home members holds d id none

pub returns-clause-absent : goal.returns-clause-absent
returns-clause-absent c = λ space cap d key id home members key_of holds absent. absent-none space cap home members holds key_of d key id absent

pub returns-clause-held : goal.returns-clause-held
returns-clause-held c = λ space cap slot d id object home members key_of holds below is. held-found space cap home members holds key_of slot d id object below is
