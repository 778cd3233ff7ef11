use Rattle.std.proofs.Common.{◌≡◌, suc, ◌+◌, ◌-◌, ◌*◌, ◌/◌, ◌%◌, ◌^◌, ◌<◌, ◌≤◌, bit_or, get_or, ap, subst, ◌∙◌, arith}
use Rattle.std.specs.Int.{bit_at}
use Rattle.std.specs.Int.Bits.{or_shifted}
use Rattle.std.proofs.Math.Pow.{pow_mono}
use Rattle.std.proofs.lemmas.Nat.{pow_pos, le-div}
use Rattle.hilbert_curve.specs.Curve.{lanes}
use Rattle.hilbert_curve.specs.Rotation.{small_mod}
use Rattle.hilbert_curve.proofs.Walking.{key_left, key_next, key_left-lt, at_most, left_is_key}
use Rattle.hilbert_curve.proofs.hilbert.walked_key.Goals as goal

pub packed-all-requires-clause-below : goal.packed-all-requires-clause-below
packed-all-requires-clause-below g c = λ k d l.
    let narrow : c.args.b ≤ 64 / g.row.N = le-div c.args.b 64 g.row.N c.requires.axes.0 (omega (arith, c.requires.bits.1)) in
    let lane : 2 ^ c.args.b ≤ 2 ^ (64 / g.row.N) = pow_mono narrow in
    omega (arith, lane, c.requires.below k d l)

pub loop-t-preserved : goal.loop-t-preserved
loop-t-preserved g c =
    let n = g.row.N in
    let u = c.loop-t.t - 1 in
    let v = c.args.coordinates.now in
    let up : c.loop-t.t ≡ suc u = omega (arith, c.loop-t-test.true) in
    let total = key_left n v c.args.b 0 0 in
    let narrow : c.args.b ≤ 64 / n = le-div c.args.b 64 n c.requires.axes.0 (omega (arith, c.requires.bits.1)) in
    let lane : 2 ^ c.args.b ≤ 2 ^ (64 / n) = pow_mono narrow in
    let bits : c.bits_at.result ≡ lanes 1 n (λ j. bit_at (get_or v j 0) u) =
    c.bits_at.ensures.bits (λ j. get_or v j 0) (λ j l. omega (arith, lane, c.requires.below j 0 (omega (arith, l, c.requires.length)))) c.packed-all.ensures in
    let next : (c.loop-t.key * 2 ^ n + c.group_to-group.result) * 2 ^ (n * u)
    + key_left n v u c.walk_state-next_entry.result.1 c.walk_state-next_entry.result.2 ≡ total =
    key_next n u c.loop-t.entry c.loop-t.turn c.loop-t.key total c.bits_at.result c.group_to-group.result
    c.walk_state-next_entry.result.1 c.walk_state-next_entry.result.2 v
    bits c.group_to-group.ensures.group c.walk_state-next_entry.ensures.next_entry c.walk_state-next_entry.ensures.next_turn
    (subst (λ t. c.loop-t.key * 2 ^ (n * t) + key_left n v t c.loop-t.entry c.loop-t.turn ≡ total) up c.loop-t.invariant.2) in
    let small : c.loop-t.key * 2 ^ n + c.group_to-group.result ≤ total =
    at_most (c.loop-t.key * 2 ^ n + c.group_to-group.result) (2 ^ (n * u)) _ total (pow_pos (n * u)) next in
    let fits : c.loop-t.key * 2 ^ n < 18446744073709551616 =
    omega (arith, small, key_left-lt n c.args.b v c.requires.axes.0 c.requires.axes.1 c.requires.bits.1) in
    let joined : bit_or (c.loop-t.key * 2 ^ n % 18446744073709551616) c.from.result ≡ c.loop-t.key * 2 ^ n + c.group_to-group.result =
    ap (λ a. bit_or a c.from.result) (small_mod (c.loop-t.key * 2 ^ n) 18446744073709551616 fits)
    ∙ ap (bit_or (c.loop-t.key * 2 ^ n)) c.from.ensures
    ∙ or_shifted c.loop-t.key n c.group_to-group.result c.group_to-group.ensures.within in (
      c.walk_state-next_entry.ensures.within.1,
      c.walk_state-next_entry.ensures.within.2,
      ap (λ a. a * 2 ^ (n * u) + key_left n v u c.walk_state-next_entry.result.1 c.walk_state-next_entry.result.2) joined ∙ next,
    )

pub returns : goal.returns
returns g c =
    let n = g.row.N in
    let v = c.args.coordinates.now in
    let total = key_left n v c.args.b 0 0 in
    let end : c.loop-t.t ≡ 0 = omega (arith, c.loop-t-test.false) in
    let last : c.loop-t.key * 2 ^ (n * 0) + key_left n v 0 c.loop-t.entry c.loop-t.turn ≡ total =
    subst (λ t. c.loop-t.key * 2 ^ (n * t) + key_left n v t c.loop-t.entry c.loop-t.turn ≡ total) end c.loop-t.invariant.2 in
    left_is_key n v c.args.b c.loop-t.entry c.loop-t.turn c.loop-t.key last
