use Rattle.std.proofs.Common.{◌≡◌, ◌==◌, ◌<◌, false, true, length, get_or, sym, arith, rules, tests, map}
use Rattle.std.specs.Prelude.{codes}
use Rattle.std.specs.Str.{bytes_eq}
use Rattle.std.proofs.lemmas.Iterator.Consumers.{YieldsList-turn, YieldsList-end}
use Rattle.std.proofs.lemmas.Iterator.Splits.{YieldsList-from_slice_split}
use Rattle.std.proofs.lemmas.List.{length_push}
use Rattle.object_text.proofs.SetReading.{words_of, begins, of_dash, too_many, no_number, not_rising, room, goes_on, ends}
use Rattle.object_text.proofs.objects.set.Goals as goal

pub returns-then-eq : goal.returns-then-eq
returns-then-eq c =
    let dash : bytes_eq c.args.text.now (codes "-") ≡ true = cc in
    of_dash c.args.universe c.args.most c.args.text.now c.new-object.result.items dash c.new-object.ensures

pub loop-word-init : goal.loop-word-init
loop-word-init c = begins c.args.universe c.args.most c.new-object.result.items c.args.text.now c.new-object.ensures

pub returns-then-len-most : goal.returns-then-len-most
returns-then-len-most c =
    let t : (length c.loop-word.yielded < length (words_of c.args.text.now))
    × (c.in-Some.word.now ≡ get_or (words_of c.args.text.now) (length c.loop-word.yielded) c.in-Some.word.now) =
    YieldsList-turn (YieldsList-from_slice_split _ (λ b. b == 44) c.args.text.now (cc) (cc) (cc) (λ x r q k. search (rules, tests)))
    c.loop-word.yielded _ c.loop-word.yielded_by _ _ c.in-Some.word c.in-Some.is c.next.ensures.steps in
    let dash : bytes_eq c.args.text.now (codes "-") ≡ false = cc in
    too_many c.args.universe c.args.most (length c.loop-word.yielded) c.loop-word.least c.loop-word.object.items c.args.text.now dash c.loop-word.invariant t.0
    (omega arith)

pub returns-in_err-element : goal.returns-in_err-element
returns-in_err-element c =
    let t : (length c.loop-word.yielded < length (words_of c.args.text.now))
    × (c.in-Some.word.now ≡ get_or (words_of c.args.text.now) (length c.loop-word.yielded) c.in-Some.word.now) =
    YieldsList-turn (YieldsList-from_slice_split _ (λ b. b == 44) c.args.text.now (cc) (cc) (cc) (λ x r q k. search (rules, tests)))
    c.loop-word.yielded _ c.loop-word.yielded_by _ _ c.in-Some.word c.in-Some.is c.next.ensures.steps in
    let dash : bytes_eq c.args.text.now (codes "-") ≡ false = cc in
    rw c.from_residual.ensures (no_number c.args.universe c.args.most (length c.loop-word.yielded) c.args.text.now c.in-Some.word.now dash t.0 t.1
    (sym c.in_err-element.ensures))

pub returns-then-element-least : goal.returns-then-element-least
returns-then-element-least c =
    let t : (length c.loop-word.yielded < length (words_of c.args.text.now))
    × (c.in-Some.word.now ≡ get_or (words_of c.args.text.now) (length c.loop-word.yielded) c.in-Some.word.now) =
    YieldsList-turn (YieldsList-from_slice_split _ (λ b. b == 44) c.args.text.now (cc) (cc) (cc) (λ x r q k. search (rules, tests)))
    c.loop-word.yielded _ c.loop-word.yielded_by _ _ c.in-Some.word c.in-Some.is c.next.ensures.steps in
    let dash : bytes_eq c.args.text.now (codes "-") ≡ false = cc in
    not_rising c.args.universe c.args.most (length c.loop-word.yielded)
    c.loop-word.least c.in_ok-element.element c.loop-word.object.items c.args.text.now c.in-Some.word.now dash c.loop-word.invariant t.0 t.1
    (sym c.in_ok-element.ensures) (omega arith)

pub push_component-requires : goal.push_component-requires
push_component-requires c =
    room c.args.universe c.args.most (length c.loop-word.yielded) c.loop-word.least c.loop-word.object.items c.args.text.now c.loop-word.invariant
    (λ e. c.if-len-most.false (omega arith)) (omega arith)

pub loop-word-preserved : goal.loop-word-preserved
loop-word-preserved c =
    let t : (length c.loop-word.yielded < length (words_of c.args.text.now))
    × (c.in-Some.word.now ≡ get_or (words_of c.args.text.now) (length c.loop-word.yielded) c.in-Some.word.now) =
    YieldsList-turn (YieldsList-from_slice_split _ (λ b. b == 44) c.args.text.now (cc) (cc) (cc) (λ x r q k. search (rules, tests)))
    c.loop-word.yielded _ c.loop-word.yielded_by _ _ c.in-Some.word c.in-Some.is c.next.ensures.steps in
    let dash : bytes_eq c.args.text.now (codes "-") ≡ false = cc in
    goes_on c.args.universe c.args.most (length c.loop-word.yielded)
    _ c.loop-word.least c.in_ok-element.element c.loop-word.object.items c.push_component.new.object.items c.args.text.now c.in-Some.word.now
    c.loop-word.invariant t.0 t.1
    (sym c.in_ok-element.ensures) (λ low. omega arith) (λ e. c.if-len-most.false (omega arith)) c.push_component.ensures
    (length_push c.loop-word.yielded c.in-Some.word)

pub returns : goal.returns
returns c =
    let t : (map (λ x. x.now) c.loop-word.yielded ≡ words_of c.args.text.now) × (length c.loop-word.yielded ≡ length (words_of c.args.text.now)) =
    YieldsList-end (YieldsList-from_slice_split _ (λ b. b == 44) c.args.text.now (cc) (cc) (cc) (λ x r q k. search (rules, tests)))
    c.loop-word.yielded _ c.loop-word.yielded_by _ _ c.in-None.is c.next.ensures.steps in
    let dash : bytes_eq c.args.text.now (codes "-") ≡ false = cc in
    ends c.args.universe c.args.most (length c.loop-word.yielded) c.loop-word.least c.loop-word.object.items c.args.text.now dash c.loop-word.invariant t.1
