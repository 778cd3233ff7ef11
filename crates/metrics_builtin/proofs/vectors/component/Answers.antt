use Rattle.metrics_builtin.specs.VectorLaws.{get_or-components}
use Rattle.metrics_builtin.proofs.vectors.component.Goals as goal

pub returns : goal.returns
returns c = cc (get_or-components c.args.object.now c.args.i c.requires)
