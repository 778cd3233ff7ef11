use Rattle.std.proofs.Common.{◌≡◌, ◌*◌, ◌+◌, length, arith}
use Rattle.object_text.proofs.StringReading.{other_length, no_digit, begins, goes_on, ends}
use Rattle.object_text.proofs.objects.string.Goals as goal

pub returns-then-text-len : goal.returns-then-text-len
returns-then-text-len c = other_length c.args.len c.args.text.now c.if-text-len.true

pub loop-place-init : goal.loop-place-init
loop-place-init c = begins c.new-object.result.items c.args.text.now c.new-object.ensures

pub returns-in_err-high : goal.returns-in_err-high
returns-in_err-high c =
    let long : length c.args.text.now ≡ 2 * c.args.len = grind arith in
    rw c.from_residual.ensures (no_digit c.args.len c.args.text.now (2 * c.loop-place.place) (omega arith) c.in_err-high.ensures)

pub returns-in_err-low : goal.returns-in_err-low
returns-in_err-low c =
    let long : length c.args.text.now ≡ 2 * c.args.len = grind arith in
    rw c.from_residual-in_err-low.ensures (no_digit c.args.len c.args.text.now (2 * c.loop-place.place + 1) (omega arith) c.in_err-low.ensures)

pub loop-place-preserved : goal.loop-place-preserved
loop-place-preserved c =
    let long : length c.args.text.now ≡ 2 * c.args.len = grind arith in
    goes_on c.args.text.now c.loop-place.object.items c.push.new.self.items c.loop-place.place c.in_ok-high.high c.in_ok-low.low c.loop-place.invariant
    (omega arith)
    c.in_ok-high.ensures.0 c.in_ok-low.ensures.0 c.in_ok-high.ensures.1 c.in_ok-low.ensures.1 c.push.ensures.items

pub returns : goal.returns
returns c =
    let long : length c.args.text.now ≡ 2 * c.args.len = grind arith in
    ends c.args.len c.loop-place.place c.args.text.now c.loop-place.object.items c.loop-place.invariant (omega arith) long
