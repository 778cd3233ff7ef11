use Rattle.std.proofs.Common.{◌≡◌, max, length, arith}
use Rattle.std.proofs.lemmas.Bool.Decides.{nat_tests}
use Rattle.metrics_builtin.specs.Vectors.{components}
use Rattle.metrics_builtin.specs.LInfLaws.{linf_dist-drop, linf_dist-end}
use Rattle.metrics_builtin.specs.VectorLaws.{length-components}
use Rattle.metrics_builtin.proofs.vectors.greatest_difference.Goals as goal

pub loop-i-preserved : goal.loop-i-preserved
loop-i-preserved c =
    let many : length (components c.args.a.now) ≡ c.args.dim = length-components c.args.a.now c.args.dim c.requires.first in
    let as_many : length (components c.args.b.now) ≡ c.args.dim = length-components c.args.b.now c.args.dim c.requires.second in
    let both : c.max-greatest.result ≡ max c.loop-i.greatest c.abs_diff.result = grind (arith, nat_tests) in
    omega (arith, linf_dist-drop (components c.args.a.now) (components c.args.b.now) c.loop-i.i (omega arith) (omega arith))

pub returns : goal.returns
returns c =
    let many : length (components c.args.a.now) ≡ c.args.dim = length-components c.args.a.now c.args.dim c.requires.first in
    omega (arith, linf_dist-end (components c.args.a.now) (components c.args.b.now) c.loop-i.i (omega arith))
