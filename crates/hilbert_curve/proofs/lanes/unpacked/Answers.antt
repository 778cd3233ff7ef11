use Rattle.std.proofs.Common.{◌≡◌, ℕ, ◌+◌, ◌-◌, ◌*◌, ◌/◌, ◌%◌, ◌^◌, ◌<◌, bit_and, get_or, set, sym, ap, subst, ◌∙◌, arith}
use Rattle.std.proofs.lemmas.Nat.{one_shl, and_mask}
use Rattle.std.proofs.lemmas.List.{length-set}
use Rattle.std.proofs.lemmas.List.Edits.{fill_by_more}
use Rattle.std.proofs.lemmas.List.FromFn.{fill_by_all}
use Rattle.hilbert_curve.proofs.lanes.unpacked.Goals as goal

pub loop-j-preserved : goal.loop-j-preserved
loop-j-preserved g c =
    let f : (ℕ → ℕ) = λ j. c.args.packed / 2 ^ (64 / g.row.N * j) % 2 ^ c.args.b in
    let j = c.loop-j.j in
    let x = bit_and (c.args.packed / 2 ^ (64 / g.row.N * j)) (1 * 2 ^ c.args.b % 18446744073709551616 - 1) in
    let is : x ≡ f j =
    ap (λ m. bit_and (c.args.packed / 2 ^ (64 / g.row.N * j)) (m - 1)) (one_shl c.args.b 64 (omega (arith, c.requires.bits)))
    ∙ and_mask (c.args.packed / 2 ^ (64 / g.row.N * j)) c.args.b in (
      length-set c.loop-j.x-items j x ∙ c.loop-j.invariant.0,
      subst (λ y. (k : ℕ) → k < j + 1 → get_or (set c.loop-j.x-items j y) k 0 ≡ f k) (sym is)
          (fill_by_more f c.loop-j.x-items j 0 (omega (arith, c.loop-j-test.true, c.loop-j.invariant.0)) c.loop-j.invariant.1),
    )

pub returns : goal.returns
returns g c =
    c.of.ensures
    ∙ fill_by_all (λ j. c.args.packed / 2 ^ (64 / g.row.N * j) % 2 ^ c.args.b) c.loop-j.x-items g.row.N 0 c.loop-j.invariant.0
    (λ k l. c.loop-j.invariant.1 k (omega (arith, c.loop-j-test.false)))
