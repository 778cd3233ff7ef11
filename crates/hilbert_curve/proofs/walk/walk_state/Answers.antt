use Rattle.std.proofs.Common.{◌<◌, ◌+◌, ◌^◌, ◌%◌, sym, ap, subst, ◌∙◌, arith}
use Rattle.std.specs.Int.Bits.{bit_xor, xor_lt}
use Rattle.std.proofs.lemmas.Nat.{mod_below}
use Rattle.hilbert_curve.specs.Curve.{rotated, cell_bits, next_entry, next_direction}
use Rattle.hilbert_curve.specs.RowLaws.{gray-lt, entry-lt, direction-lt}
use Rattle.hilbert_curve.proofs.walk.walk_state.Goals as goal

pub turned_left-requires-clause-bits : goal.turned_left-requires-clause-bits
turned_left-requires-clause-bits g c =
    subst (λ x. x < 2 ^ g.row.N) (sym c.row_of-row.ensures.gray) (gray-lt g.row.N c.args.group c.requires.group)

pub turned_left-requires-2-clause-bits : goal.turned_left-requires-2-clause-bits
turned_left-requires-2-clause-bits g c =
    subst (λ x. x < 2 ^ g.row.N) (sym c.row_of-row.ensures.entry) (entry-lt g.row.N c.args.group c.requires.group)

pub overflow_add-result : goal.overflow_add-result
overflow_add-result g c =
    let small : c.row_of-row.result.direction < g.row.N =
    subst (λ x. x < g.row.N) (sym c.row_of-row.ensures.direction) (direction-lt g.row.N c.args.group c.requires.axes.0) in
    omega (arith, small, c.requires.axes, c.requires.state)

pub overflow_add-result-2 : goal.overflow_add-result-2
overflow_add-result-2 g c =
    let small : c.row_of-row.result.direction < g.row.N =
    subst (λ x. x < g.row.N) (sym c.row_of-row.ensures.direction) (direction-lt g.row.N c.args.group c.requires.axes.0) in
    omega (arith, small, c.requires.axes, c.requires.state)

pub returns-clause-bits : goal.returns-clause-bits
unfolding cell_bits
returns-clause-bits g c =
    ap (λ x. bit_xor x c.args.entry) (c.turned_left.ensures.turned ∙ ap (λ x. rotated g.row.N x (c.args.turn + 1)) c.row_of-row.ensures.gray)

pub returns-clause-next_entry : goal.returns-clause-next_entry
unfolding next_entry
returns-clause-next_entry g c =
    ap (bit_xor c.args.entry) (c.turned_left-2.ensures.turned ∙ ap (λ x. rotated g.row.N x (c.args.turn + 1)) c.row_of-row.ensures.entry)

pub returns-clause-next_turn : goal.returns-clause-next_turn
unfolding next_direction
returns-clause-next_turn g c =
    ap (λ x. (c.args.turn + x + 1) % g.row.N) c.row_of-row.ensures.direction

pub returns-clause-within : goal.returns-clause-within
returns-clause-within g c = (
  xor_lt g.row.N c.turned_left.result c.args.entry c.turned_left.ensures.within c.requires.state.0,
  xor_lt g.row.N c.args.entry c.turned_left-2.result c.requires.state.0 c.turned_left-2.ensures.within,
  mod_below (c.args.turn + c.row_of-row.result.direction + 1) g.row.N c.requires.axes.0,
)

pub returns-clause-row : goal.returns-clause-row
returns-clause-row g c = c.row_of-row.ensures.facts
