use Rattle.std.proofs.Common.{rules, ◌≡◌}
use Rattle.store_tests.proofs.ThreeSlots.{one_free, three_slots}
use Rattle.store_tests.proofs.slots.a_slot_is_cleared.Goals as goal

pub new-requires-2-clause-free : goal.new-requires-2-clause-free
new-requires-2-clause-free g c = one_free

pub slot_get-requires-clause-there : goal.slot_get-requires-clause-there
slot_get-requires-clause-there g c =
    let three : c.slot_clear.new.self.cap ≡ 3 = search rules in
    three_slots c.in_ok-pages.pages c.slot_clear.new.pages c.slot_clear.new.self.cap c.in_ok-pages.ensures c.slot_clear.ensures.continues.map three
