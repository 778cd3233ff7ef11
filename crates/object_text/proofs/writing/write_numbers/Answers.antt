use Rattle.std.proofs.Common.{◌≡◌, ◌++◌, List, ℕ, get_or, take, ap, sym, ◌∙◌, arith, rules}
use Rattle.std.specs.Fmt.{decimal}
use Rattle.std.proofs.lemmas.List.{take_all}
use Rattle.metrics_builtin.specs.Vectors.{components}
use Rattle.metrics_builtin.specs.VectorLaws.{length-components-div}
use Rattle.spb_defs.specs.ObjectText.{numbers_text}
use Rattle.object_text.proofs.NumbersWritten.{first_text, goes_on}
use Rattle.object_text.proofs.writing.write_numbers.Goals as goal

pub loop-place-init : goal.loop-place-init
loop-place-init c =
    let ns = components c.args.object.now in
    let many = length-components-div c.args.object.now in
    let first : numbers_text (take 1 ns) ≡ decimal (get_or ns 0 0) = first_text ns (omega arith) in
    let digits : decimal c.component.result ≡ decimal (get_or ns 0 0) = ap decimal c.component.ensures in
    simp (first, sym digits) (search rules)

pub loop-place-preserved : goal.loop-place-preserved
loop-place-preserved c =
    let many = length-components-div c.args.object.now in
    goes_on c.args.text.now c.loop-place.text c.write_number-in-loop-place.new.text (components c.args.object.now)
    c.loop-place.place c.component-in-loop-place.result
    c.loop-place.invariant c.in_ok-write_number-2.ensures c.component-in-loop-place.ensures (omega arith) (omega arith)

pub returns : goal.returns
returns c =
    let ns = components c.args.object.now in
    let many = length-components-div c.args.object.now in
    let all : take c.loop-place.place ns ≡ ns = take_all c.loop-place.place ns (omega arith) in
    c.loop-place.invariant ∙ ap (λ (front : List ℕ). c.args.text.now ++ numbers_text front) all
