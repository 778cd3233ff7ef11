use Rattle.std.proofs.Common.{map, All, subst, sym, ap, ◌∙◌}
use Rattle.metrics_builtin.specs.Space.{IsValid}
use Rattle.spb_defs.specs.Choice.{sample_at}
use Rattle.pivot_choice.proofs.SamplesAt.{All-sample_at}
use Rattle.pivot_choice.proofs.objects.choose_objects.Goals as goal

pub returns-clause-valid : goal.returns-clause-valid
returns-clause-valid g c = λ space valid.
    subst (All (IsValid space)) (sym (c.in_ok-pivots.ensures ∙ ap (map (sample_at c.args.samples.now)) c.as_slice.ensures))
    (All-sample_at (IsValid space) c.args.samples.now c.in_ok-places.places valid c.in_ok-places.ensures.within)
