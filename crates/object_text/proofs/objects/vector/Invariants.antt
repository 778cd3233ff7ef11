use Rattle.spb_defs.specs.ObjectText.{vector_of_text}
use Rattle.object_text.proofs.Components.{IsBegun}
use Rattle.object_text.proofs.objects.vector.Given as goal

abbrev pub invariant-loop : goal.invariant-loop
invariant-loop l = IsBegun l.dim l.most l.counter l.object.items l.rest (vector_of_text l.dim l.most l.text)
