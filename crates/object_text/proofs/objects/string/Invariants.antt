use Rattle.object_text.proofs.StringReading.{IsBegun}
use Rattle.object_text.proofs.objects.string.Given as goal

abbrev pub invariant-loop-place : goal.invariant-loop-place
invariant-loop-place l = IsBegun l.place l.object.items l.text
