use Rattle.curve_laws.specs.Vectors.{up_to_itself, up_to_through, up_to_both_ways, length-IsUpTo, up_to-low_corner, high_corner-up_to}
use Rattle.curve_laws.proofs.vect.vectors_are_ordered.Goals as goal

pub returns-clause-reflexive : goal.returns-clause-reflexive
returns-clause-reflexive c = up_to_itself

pub returns-clause-transitive : goal.returns-clause-transitive
returns-clause-transitive c = up_to_through

pub returns-clause-antisymmetric : goal.returns-clause-antisymmetric
returns-clause-antisymmetric c = up_to_both_ways

pub returns-clause-one_length : goal.returns-clause-one_length
returns-clause-one_length c = length-IsUpTo

pub returns-clause-low : goal.returns-clause-low
returns-clause-low c = up_to-low_corner

pub returns-clause-high : goal.returns-clause-high
returns-clause-high c = high_corner-up_to
