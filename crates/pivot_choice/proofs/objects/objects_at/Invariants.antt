use Rattle.std.proofs.Common.{◌≡◌, map, take}
use Rattle.spb_defs.specs.Choice.{sample_at}
use Rattle.pivot_choice.proofs.objects.objects_at.Given as goal

-- the objects so far are those at the places so far
abbrev pub invariant-loop-place : goal.invariant-loop-place
invariant-loop-place l = l.objects.items ≡ map (sample_at l.samples) (take l.place-index l.places)
