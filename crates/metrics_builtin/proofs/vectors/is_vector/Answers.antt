use Rattle.std.proofs.Common.{◌≡◌, ◌*◌, ◌≤◌, length, get_or, arith}
use Rattle.metrics_builtin.specs.Vectors.{components}
use Rattle.metrics_builtin.specs.VectorLaws.{length-IsVector, length-components-IsVector, All-components-IsVector, IsVector-components}
use Rattle.metrics_builtin.proofs.Answered.{refuted, confirmed}
use Rattle.metrics_builtin.proofs.vectors.is_vector.Goals as goal

pub returns-then-object-dim : goal.returns-then-object-dim
returns-then-object-dim c =
    refuted _ (λ v. omega (arith, length-IsVector c.args.dim c.args.most c.args.object.now v))

pub returns-then-component-most : goal.returns-then-component-most
returns-then-component-most c =
    refuted _ (λ v.
    let many : length (components c.args.object.now) ≡ c.args.dim = length-components-IsVector c.args.dim c.args.most c.args.object.now v in
    let low : get_or (components c.args.object.now) c.loop-place.place 0 ≤ c.args.most =
    All-components-IsVector c.args.dim c.args.most c.args.object.now (omega arith) v c.loop-place.place 0 (omega arith) in
    omega arith)

pub returns : goal.returns
returns c =
    let whole : length c.args.object.now ≡ 4 * c.args.dim = omega arith in
    let ended : c.args.dim ≤ c.loop-place.place = omega arith in
    confirmed _ (IsVector-components c.args.dim c.args.most c.args.object.now whole
    (λ k. (c.type_inv.object k).fits) (λ k h. c.loop-place.invariant k (omega arith)))
