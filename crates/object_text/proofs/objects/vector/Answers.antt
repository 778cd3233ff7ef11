use Rattle.std.proofs.Common.{◌≡◌, ◌+◌, ◌*◌, length, sym, arith}
use Rattle.std.specs.Prelude.{◌==◌}
use Rattle.std.specs.List.{slice_split}
use Rattle.spb_defs.specs.ObjectText.{vector_of_text}
use Rattle.object_text.proofs.Components.{begins, room, ends_early, fails, goes_on, last_fails, ends}
use Rattle.object_text.proofs.objects.vector.Goals as goal

pub loop-init : goal.loop-init
loop-init c = begins c.args.dim c.args.most c.new-object.result.items c.args.text.now c.new-object.ensures

pub returns-in_err-word : goal.returns-in_err-word
returns-in_err-word c =
    rw c.from_residual.ensures
    (ends_early c.args.dim c.args.most c.loop.counter c.loop.object.items c.loop.rest.now (vector_of_text c.args.dim c.args.most c.args.text.now)
    c.loop.invariant c.loop-test.true c.in_err-word.ensures)

pub returns-in_err-component : goal.returns-in_err-component
returns-in_err-component c =
    rw c.from_residual-in_err-component.ensures
    (fails c.args.dim c.args.most c.loop.counter c.loop.object.items c.loop.rest.now (vector_of_text c.args.dim c.args.most c.args.text.now)
    c.in_ok-word.word.now (slice_split (λ b. b == 44) c.in_ok-word.behind.now) c.loop.invariant c.in_ok-word.ensures (sym c.in_err-component.ensures))

pub push_component-requires : goal.push_component-requires
push_component-requires c =
    let long : length c.loop.object.items + 4 ≡ 4 * c.loop.counter =
    room c.args.dim c.args.most c.loop.counter c.loop.object.items c.loop.rest.now (vector_of_text c.args.dim c.args.most c.args.text.now)
    c.loop.invariant in
    omega arith

pub loop-preserved : goal.loop-preserved
loop-preserved c =
    goes_on c.args.dim c.args.most c.loop.counter c.in_ok-component.field-0 c.loop.object.items c.push_component.new.object.items c.loop.rest.now
    c.in_ok-word.word.now c.in_ok-word.behind.now (vector_of_text c.args.dim c.args.most c.args.text.now)
    c.loop.invariant c.in_ok-word.ensures (sym c.in_ok-component.ensures) c.push_component.ensures

pub returns-in_err-component-2 : goal.returns-in_err-component-2
returns-in_err-component-2 c =
    let last : c.loop.counter ≡ c.args.dim = omega arith in
    rw c.from_residual-in_err-component-2.ensures
    (last_fails c.args.dim c.args.most c.loop.counter c.loop.object.items c.loop.rest.now (vector_of_text c.args.dim c.args.most c.args.text.now)
    c.loop.invariant last (sym c.in_err-component-2.ensures))

pub push_component-requires-2 : goal.push_component-requires-2
push_component-requires-2 c =
    let long : length c.loop.object.items + 4 ≡ 4 * c.loop.counter =
    room c.args.dim c.args.most c.loop.counter c.loop.object.items c.loop.rest.now (vector_of_text c.args.dim c.args.most c.args.text.now)
    c.loop.invariant in
    omega arith

pub returns : goal.returns
returns c =
    let last : c.loop.counter ≡ c.args.dim = omega arith in
    ends c.args.dim c.args.most c.loop.counter c.in_ok-component-2.field-0 c.loop.object.items c.push_component-2.new.object.items c.loop.rest.now
    (vector_of_text c.args.dim c.args.most c.args.text.now)
    c.loop.invariant last (sym c.in_ok-component-2.ensures) c.push_component-2.ensures
