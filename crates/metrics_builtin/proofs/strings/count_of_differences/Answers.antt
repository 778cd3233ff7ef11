use Rattle.std.proofs.Common.{◌≡◌, ◌==◌, not, get_or, ◌∙◌, arith}
use Rattle.metrics_builtin.specs.HammingLaws.{differs, hamming_dist-drop, hamming_dist-end, hamming_dist-le}
use Rattle.metrics_builtin.proofs.Answered.{from_bool-cond}
use Rattle.metrics_builtin.proofs.strings.count_of_differences.Goals as goal

pub overflow_add-count : goal.overflow_add-count
overflow_add-count c =
    let one : c.from-count.result ≡ differs (get_or c.args.a.now c.loop-i.i 0) (get_or c.args.b.now c.loop-i.i 0) = c.from-count.ensures
    ∙ from_bool-cond (not (get_or c.args.a.now c.loop-i.i 0 == get_or c.args.b.now c.loop-i.i 0)) in
    omega (
      arith,
      hamming_dist-drop c.args.a.now c.args.b.now c.loop-i.i (omega arith) (omega arith),
      hamming_dist-le c.args.a.now c.args.b.now c.requires.alike,
    )

pub loop-i-preserved : goal.loop-i-preserved
loop-i-preserved c =
    let one : c.from-count.result ≡ differs (get_or c.args.a.now c.loop-i.i 0) (get_or c.args.b.now c.loop-i.i 0) = c.from-count.ensures
    ∙ from_bool-cond (not (get_or c.args.a.now c.loop-i.i 0 == get_or c.args.b.now c.loop-i.i 0)) in
    omega (arith, hamming_dist-drop c.args.a.now c.args.b.now c.loop-i.i (omega arith) (omega arith))

pub returns : goal.returns
returns c = omega (arith, hamming_dist-end c.args.a.now c.args.b.now c.loop-i.i (omega arith))
