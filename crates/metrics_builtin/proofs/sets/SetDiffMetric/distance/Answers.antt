use Rattle.std.proofs.Common.{◌≡◌, ◌<◌, ◌^◌, arith}
use Rattle.metrics_builtin.specs.declared.Space.TheVariants.{Sets}
use Rattle.metrics_builtin.specs.Vectors.{components}
use Rattle.metrics_builtin.specs.Sets.{set_dist}
use Rattle.metrics_builtin.specs.SetLaws.{elements-IsSubset}
use Rattle.metrics_builtin.specs.SpaceLaws.{dist-below, sets_small}
use Rattle.metrics_builtin.proofs.sets.SetDiffMetric.distance.Goals as goal

pub overflow_cast-result : goal.overflow_cast-result
overflow_cast-result c =
    let universe = c.args.self.now.universe in
    let most = c.args.self.now.most in
    let small : universe < 2 ^ 32 = sets_small universe most c.args.self.now.in_range in
    let same : c.count_of_one_sided.result ≡ set_dist universe (components c.args.a.now) (components c.args.b.now) =
    c.count_of_one_sided.ensures universe most (elements-IsSubset universe most c.args.a.now small c.requires.first)
    (elements-IsSubset universe most c.args.b.now small c.requires.second) in
    let below : set_dist universe (components c.args.a.now) (components c.args.b.now) < 2 ^ 32 =
    dist-below (Sets universe most) c.args.a.now c.args.b.now c.args.self.now.in_range c.requires.first c.requires.second in
    omega arith

pub returns : goal.returns
returns c =
    let universe = c.args.self.now.universe in
    let most = c.args.self.now.most in
    let small : universe < 2 ^ 32 = sets_small universe most c.args.self.now.in_range in
    c.count_of_one_sided.ensures universe most (elements-IsSubset universe most c.args.a.now small c.requires.first)
    (elements-IsSubset universe most c.args.b.now small c.requires.second)
