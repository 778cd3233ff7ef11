use Rattle.std.proofs.Common.{length, sym, ap, arith}
use Rattle.bptree_node.specs.declared.rows.Entry.{Entry}
use Rattle.bptree_shrink.proofs.Taking.{slot-none, taken-out, place-here}
use Rattle.bptree_shrink.proofs.leaf.take_entry.Goals as goal

pub returns-then-at-len-clause-slot : goal.returns-then-at-len-clause-slot
returns-then-at-len-clause-slot c =
    let es = c.args.entries.now.items in
    let blank : Entry = record { key = 0; id = 0; slot = 0 } in
    let there = place-here c.args.key c.args.id es c.as_slice.result.now c.place_of-at.result c.as_slice.ensures.value c.place_of-at.ensures.before c.place_of-at.ensures.here in
    sym (slot-none c.args.key c.args.id es blank (λ k under. there.0 k blank (omega (arith, under, c.if-at-len.true, c.len.ensures.value))))

pub returns-clause-slot : goal.returns-clause-slot
returns-clause-slot c =
    let es = c.args.entries.now.items in
    let there = place-here c.args.key c.args.id es c.as_slice.result.now c.place_of-at.result c.as_slice.ensures.value c.place_of-at.ensures.before c.place_of-at.ensures.here in
    (taken-out c.args.key c.args.id es c.remove-entry.new.self.items c.place_of-at.result c.remove-entry.result (omega (arith, c.remove-entry.ensures.len, c.if-at-len.false, c.len.ensures.value, c.place_of-at.ensures.place, ap length c.as_slice.ensures.value))
    there.0 there.1 c.remove-entry.ensures.value c.remove-entry.ensures.items).0

pub returns-clause-entries : goal.returns-clause-entries
returns-clause-entries c =
    let es = c.args.entries.now.items in
    let there = place-here c.args.key c.args.id es c.as_slice.result.now c.place_of-at.result c.as_slice.ensures.value c.place_of-at.ensures.before c.place_of-at.ensures.here in
    (taken-out c.args.key c.args.id es c.remove-entry.new.self.items c.place_of-at.result c.remove-entry.result (omega (arith, c.remove-entry.ensures.len, c.if-at-len.false, c.len.ensures.value, c.place_of-at.ensures.place, ap length c.as_slice.ensures.value))
    there.0 there.1 c.remove-entry.ensures.value c.remove-entry.ensures.items).1
