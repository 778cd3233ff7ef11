use Rattle.std.proofs.Common.{◌≡◌, ℕ, ◌<◌, length, get_or, arith, subst}
use Rattle.metrics_builtin.specs.Vectors.{components}
use Rattle.metrics_builtin.specs.VectorLaws.{length-components-div}
use Rattle.metrics_builtin.specs.Sets.{set_dist}
use Rattle.metrics_builtin.specs.SetLaws.{merges_end}
use Rattle.metrics_builtin.proofs.Merge.{Steps, steps, counted, merge_step}
use Rattle.metrics_builtin.proofs.sets.count_of_one_sided.Goals as goal
use Rattle.metrics_builtin.proofs.sets.count_of_one_sided.Goals.{then-loop-i-test+else-j-others, else-loop-i-test}

pub loop-i-preserved : goal.loop-i-preserved
loop-i-preserved c =
    let many = length-components-div c.args.a.now in
    let others = length-components-div c.args.b.now in
    let s : Steps c.component-x.result c.component-y.result c.from-i.result c.from-j.result c.from-common.result =
    steps c.component-x.result c.component-y.result c.from-i.result c.from-j.result c.from-common.result c.from-i.ensures c.from-j.ensures
    c.from-common.ensures in
    let few = counted c.component-x.result c.component-y.result c.from-i.result c.from-j.result c.from-common.result s in
    let x : c.component-x.result ≡ get_or (components c.args.a.now) c.loop-i.i 0 = c.component-x.ensures in
    let y : c.component-y.result ≡ get_or (components c.args.b.now) c.loop-i.j 0 = c.component-y.ensures in
    let t : Steps (get_or (components c.args.a.now) c.loop-i.i 0) (get_or (components c.args.b.now) c.loop-i.j 0)
    c.from-i.result c.from-j.result c.from-common.result =
    subst (λ (z : ℕ). Steps (get_or (components c.args.a.now) c.loop-i.i 0) z c.from-i.result c.from-j.result c.from-common.result) y
    (subst (λ (z : ℕ). Steps z c.component-y.result c.from-i.result c.from-j.result c.from-common.result) x s) in
    record {
      left = omega arith;
      right = omega arith;
      few = omega arith;
      few_others = omega arith;
      counted = λ universe most v w. merge_step universe most c.loop-i.i c.loop-i.j (set_dist universe (components c.args.a.now) (components c.args.b.now))
          c.loop-i.common c.from-i.result c.from-j.result c.from-common.result (components c.args.a.now) (components c.args.b.now) v w (omega arith)
          (omega arith) t (c.loop-i.invariant.counted universe most v w);
    }

pub returns : goal.returns
returns c = λ universe most v w.
    let xs = components c.args.a.now in
    let ys = components c.args.b.now in
    let many = length-components-div c.args.a.now in
    let others = length-components-div c.args.b.now in
    let end : c.loop-i.i < length xs → c.loop-i.j < length ys → ⊥ =
    λ h k. elim c.loop-i-test.branch [
      | then-loop-i-test+else-j-others b ↦ omega arith
      | else-loop-i-test b ↦ omega arith
    ] in
    let counted = c.loop-i.invariant.counted universe most v w in
    omega (arith, merges_end universe c.loop-i.i c.loop-i.j xs ys v.rising w.rising v.within w.within (omega arith) (omega arith) end)
