use Rattle.std.proofs.Common.{length}
use Rattle.object_text.proofs.SetReading.{IsBegun}
use Rattle.object_text.proofs.objects.set.Given as goal

abbrev pub invariant-loop-word : goal.invariant-loop-word
invariant-loop-word l = IsBegun l.universe l.most (length l.yielded) l.least l.object.items l.fn.text
