use Rattle.std.proofs.Common.{◌≡◌, ℕ, suc, ◌+◌, ◌*◌, ◌/◌, ◌^◌, ◌<◌, get_or, sym, ap, subst, ◌∙◌, add-one, arith}
use Rattle.hilbert_curve.specs.Curve.{lanes}
use Rattle.hilbert_curve.proofs.Words.{lane_shift, lanes-lt_word}
use Rattle.hilbert_curve.proofs.lanes.packed.Goals as goal

pub overflow_add-all : goal.overflow_add-all
overflow_add-all g c =
    let f : (ℕ → ℕ) = λ i. get_or c.args.coordinates.now i 0 in
    let inside : c.loop-j.j < g.row.N = omega (arith, c.requires.length) in
    let small : (i : ℕ) → i < suc c.loop-j.j → f i < 2 ^ (64 / g.row.N) = λ i l. c.requires.below i 0 (omega (arith, c.requires.length)) in
    let here : c.from.result < 2 ^ (64 / g.row.N) = subst (λ x. x < 2 ^ (64 / g.row.N)) (sym c.from.ensures) (small c.loop-j.j (omega arith)) in
    let next : c.loop-j.all + c.from.result * 2 ^ (64 / g.row.N * c.loop-j.j) ≡ lanes (64 / g.row.N) (suc c.loop-j.j) f =
    ap (λ x. c.loop-j.all + x * 2 ^ (64 / g.row.N * c.loop-j.j)) c.from.ensures ∙ omega (arith, c.loop-j.invariant) in
    omega (
      arith,
      next,
      lane_shift g.row.N c.loop-j.j c.from.result c.requires.axes.0 inside here,
      lanes-lt_word g.row.N c.loop-j.j f c.requires.axes.0 inside small,
    )

pub loop-j-preserved : goal.loop-j-preserved
loop-j-preserved g c =
    let f : (ℕ → ℕ) = λ i. get_or c.args.coordinates.now i 0 in
    let inside : c.loop-j.j < g.row.N = omega (arith, c.requires.length) in
    let here : c.from.result < 2 ^ (64 / g.row.N) =
    subst (λ x. x < 2 ^ (64 / g.row.N)) (sym c.from.ensures) (c.requires.below c.loop-j.j 0 c.loop-j-test.true) in
    let next : c.loop-j.all + c.from.result * 2 ^ (64 / g.row.N * c.loop-j.j) ≡ lanes (64 / g.row.N) (suc c.loop-j.j) f =
    ap (λ x. c.loop-j.all + x * 2 ^ (64 / g.row.N * c.loop-j.j)) c.from.ensures ∙ omega (arith, c.loop-j.invariant) in
    ap (λ x. c.loop-j.all + x) (lane_shift g.row.N c.loop-j.j c.from.result c.requires.axes.0 inside here)
    ∙ next ∙ ap (λ j. lanes (64 / g.row.N) j f) (sym (add-one c.loop-j.j))
