use Rattle.std.proofs.Common.{rules, ◌≡◌}
use Rattle.store_tests.proofs.ThreeSlots.{two_free, three_slots}
use Rattle.store_tests.proofs.slots.an_object_is_put_and_given.Goals as goal

pub new-requires-2-clause-free : goal.new-requires-2-clause-free
new-requires-2-clause-free g c = two_free

pub slot_get-requires-clause-there : goal.slot_get-requires-clause-there
slot_get-requires-clause-there g c =
    let three : c.slot_put.new.self.cap ≡ 3 = search rules in
    three_slots c.in_ok-pages.pages c.slot_put.new.pages c.slot_put.new.self.cap c.in_ok-pages.ensures c.slot_put.ensures.continues.map three
