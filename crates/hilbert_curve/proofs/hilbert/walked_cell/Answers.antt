use Rattle.std.proofs.Common.{◌≡◌, suc, ◌+◌, ◌-◌, ◌*◌, ◌/◌, ◌%◌, ◌^◌, ◌≤◌, refl, ap, subst, ◌∙◌, arith}
use Rattle.std.specs.Int.{bit_at}
use Rattle.std.proofs.lemmas.Nat.{pow_pos}
use Rattle.hilbert_curve.specs.Curve.{lanes, next_entry, next_direction}
use Rattle.hilbert_curve.specs.Rotation.{small_mod}
use Rattle.hilbert_curve.proofs.Walking.{cell_lanes, cell_next, at_most, cell_lanes-lt, cell_lanes_done, cell_read}
use Rattle.hilbert_curve.proofs.hilbert.walked_cell.Goals as goal

pub loop-t-init : goal.loop-t-init
loop-t-init g c = (
  pow_pos g.row.N,
  c.requires.axes.0,
  ap (λ k. 0 * 2 ^ c.args.b + cell_lanes g.row.N c.args.b 0 0 k) (small_mod c.args.key (2 ^ (g.row.N * c.args.b)) c.requires.key) ∙ omega arith,
)

pub overflow_mul-all : goal.overflow_mul-all
overflow_mul-all g c =
    let n = g.row.N in
    let u = c.loop-t.t - 1 in
    let up : c.loop-t.t ≡ suc u = omega (arith, c.loop-t-test.true) in
    let s = lanes (64 / n) n (bit_at c.walk_state-bits.result.0) in
    let w = c.group_in.result in
    let total = cell_lanes n c.args.b 0 0 c.args.key in
    let next = cell_next n u c.loop-t.entry c.loop-t.turn c.args.key c.loop-t.all total w c.walk_state-bits.result.0 s
    (next_entry n c.loop-t.entry c.loop-t.turn w) (next_direction n c.loop-t.turn w)
    c.group_in.ensures.group c.walk_state-bits.ensures.bits refl refl refl
    (subst (λ t. c.loop-t.all * 2 ^ t + cell_lanes n t c.loop-t.entry c.loop-t.turn (c.args.key % 2 ^ (n * t)) ≡ total) up c.loop-t.invariant.2) in
    let small : 2 * c.loop-t.all + s ≤ total = at_most (2 * c.loop-t.all + s) (2 ^ u) _ total (pow_pos u) next in
    omega (arith, small, cell_lanes-lt n c.args.b c.args.key c.requires.axes.0 c.requires.bits.1)

pub overflow_add-all : goal.overflow_add-all
overflow_add-all g c =
    let n = g.row.N in
    let u = c.loop-t.t - 1 in
    let up : c.loop-t.t ≡ suc u = omega (arith, c.loop-t-test.true) in
    let w = c.group_in.result in
    let total = cell_lanes n c.args.b 0 0 c.args.key in
    let next = cell_next n u c.loop-t.entry c.loop-t.turn c.args.key c.loop-t.all total w c.walk_state-bits.result.0 c.spread.result
    (next_entry n c.loop-t.entry c.loop-t.turn w) (next_direction n c.loop-t.turn w)
    c.group_in.ensures.group c.walk_state-bits.ensures.bits c.spread.ensures refl refl
    (subst (λ t. c.loop-t.all * 2 ^ t + cell_lanes n t c.loop-t.entry c.loop-t.turn (c.args.key % 2 ^ (n * t)) ≡ total) up c.loop-t.invariant.2) in
    let small : 2 * c.loop-t.all + c.spread.result ≤ total = at_most (2 * c.loop-t.all + c.spread.result) (2 ^ u) _ total (pow_pos u) next in
    omega (arith, small, cell_lanes-lt n c.args.b c.args.key c.requires.axes.0 c.requires.bits.1)

pub loop-t-preserved : goal.loop-t-preserved
loop-t-preserved g c =
    let n = g.row.N in
    let u = c.loop-t.t - 1 in
    let up : c.loop-t.t ≡ suc u = omega (arith, c.loop-t-test.true) in
    let total = cell_lanes n c.args.b 0 0 c.args.key in (
      c.walk_state-bits.ensures.within.1,
      c.walk_state-bits.ensures.within.2,
      cell_next n u c.loop-t.entry c.loop-t.turn c.args.key c.loop-t.all total c.group_in.result c.walk_state-bits.result.0 c.spread.result
          c.walk_state-bits.result.1 c.walk_state-bits.result.2
          c.group_in.ensures.group c.walk_state-bits.ensures.bits c.spread.ensures c.walk_state-bits.ensures.next_entry c.walk_state-bits.ensures.next_turn
          (subst (λ t. c.loop-t.all * 2 ^ t + cell_lanes n t c.loop-t.entry c.loop-t.turn (c.args.key % 2 ^ (n * t)) ≡ total) up c.loop-t.invariant.2),
    )

pub returns : goal.returns
returns g c =
    let n = g.row.N in
    let total = cell_lanes n c.args.b 0 0 c.args.key in
    let end : c.loop-t.t ≡ 0 = omega (arith, c.loop-t-test.false) in
    let last : c.loop-t.all * 2 ^ 0 + cell_lanes n 0 c.loop-t.entry c.loop-t.turn (c.args.key % 2 ^ (n * 0)) ≡ total =
    subst (λ t. c.loop-t.all * 2 ^ t + cell_lanes n t c.loop-t.entry c.loop-t.turn (c.args.key % 2 ^ (n * t)) ≡ total) end c.loop-t.invariant.2 in
    c.unpacked.ensures
    ∙ cell_read n c.args.b c.args.key c.loop-t.all c.requires.axes.0 c.requires.bits.1
    (omega (arith, last, cell_lanes_done n c.loop-t.entry c.loop-t.turn (c.args.key % 2 ^ (n * 0))))
