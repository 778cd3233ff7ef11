use Rattle.std.proofs.Common.{◌≡◌, length, arith}
use Rattle.metrics_builtin.specs.Vectors.{components}
use Rattle.metrics_builtin.specs.L1Laws.{l1_dist-drop, l1_dist-end}
use Rattle.metrics_builtin.specs.VectorLaws.{length-components}
use Rattle.metrics_builtin.proofs.vectors.sum_of_differences.Goals as goal

pub overflow_add-total : goal.overflow_add-total
overflow_add-total c =
    let many : length (components c.args.a.now) ≡ c.args.dim = length-components c.args.a.now c.args.dim c.requires.first in
    let as_many : length (components c.args.b.now) ≡ c.args.dim = length-components c.args.b.now c.args.dim c.requires.second in
    omega (arith, l1_dist-drop (components c.args.a.now) (components c.args.b.now) c.loop-i.i (omega arith) (omega arith))

pub loop-i-preserved : goal.loop-i-preserved
loop-i-preserved c =
    let many : length (components c.args.a.now) ≡ c.args.dim = length-components c.args.a.now c.args.dim c.requires.first in
    let as_many : length (components c.args.b.now) ≡ c.args.dim = length-components c.args.b.now c.args.dim c.requires.second in
    omega (arith, l1_dist-drop (components c.args.a.now) (components c.args.b.now) c.loop-i.i (omega arith) (omega arith))

pub returns : goal.returns
returns c =
    let many : length (components c.args.a.now) ≡ c.args.dim = length-components c.args.a.now c.args.dim c.requires.first in
    omega (arith, l1_dist-end (components c.args.a.now) (components c.args.b.now) c.loop-i.i (omega arith))
