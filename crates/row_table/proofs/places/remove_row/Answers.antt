use Rattle.std.proofs.Common.{◌≡◌, length, is_some, None, sym, ap, rules, arith}
use Rattle.std.specs.BTreeMap.{get}
use Rattle.std.specs.Ordering.{nat_cmp}
use Rattle.row_table.proofs.Indexing.{in_range, missing, puts, same_entries, all_remaining, more_after, Goes, within, found_there, there_was, one_fewer, last_gone, last_remaining, moved_known, another_gone, another_remaining}
use Rattle.row_table.proofs.places.remove_row.Goals as goal

pub returns-in_default-clause-found : goal.returns-in_default-clause-found
returns-in_default-clause-found c =
    sym (ap is_some (missing c.args.rows.now.items (get nat_cmp c.args.index.now) c.requires c.args.id (sym c.in_default.ensures.value)))

pub returns-in_default-clause-others : goal.returns-in_default-clause-others
returns-in_default-clause-others c =
    all_remaining c.args.rows.now.items c.args.id
    (missing c.args.rows.now.items (get nat_cmp c.args.index.now) c.requires c.args.id (sym c.in_default.ensures.value))

pub returns-in_default-clause-indexed : goal.returns-in_default-clause-indexed
returns-in_default-clause-indexed c =
    same_entries c.args.index.now c.remove.new.self _ c.in_default.ensures.unchanged c.requires

pub swap_remove-removed-requires : goal.swap_remove-removed-requires
swap_remove-removed-requires c =
    let below = in_range c.args.rows.now.items (get nat_cmp c.args.index.now) c.requires c.args.id _ (sym c.in-Some.ensures.value) in
    search (rules, below)

pub returns-then-place-len-clause-found : goal.returns-then-place-len-clause-found
returns-then-place-len-clause-found c =
    let goes : Goes c.args.rows.now.items c.swap_remove-removed.new.self.items c.in-Some.place c.swap_remove-removed.result c.args.id
    (get nat_cmp c.args.index.now) (get nat_cmp c.remove.new.self) =
    record {
      indexed = c.requires;
      there = sym c.in-Some.ensures.value;
      at = c.swap_remove-removed.ensures.value;
      cut = puts c.args.index.now c.remove.new.self c.args.id None c.in-Some.ensures.updates;
      items = c.swap_remove-removed.ensures.items;
    } in
    sym (ap is_some (found_there goes))

pub returns-then-place-len-clause-others : goal.returns-then-place-len-clause-others
returns-then-place-len-clause-others c =
    let goes : Goes c.args.rows.now.items c.swap_remove-removed.new.self.items c.in-Some.place c.swap_remove-removed.result c.args.id
    (get nat_cmp c.args.index.now) (get nat_cmp c.remove.new.self) =
    record {
      indexed = c.requires;
      there = sym c.in-Some.ensures.value;
      at = c.swap_remove-removed.ensures.value;
      cut = puts c.args.index.now c.remove.new.self c.args.id None c.in-Some.ensures.updates;
      items = c.swap_remove-removed.ensures.items;
    } in
    let len : c.len.result ≡ length c.swap_remove-removed.new.self.items = search rules in
    let at = c.if-place-len.true in
    let count = one_fewer goes in
    last_remaining goes (omega (arith, len, at, count))

pub returns-then-place-len-clause-absent : goal.returns-then-place-len-clause-absent
returns-then-place-len-clause-absent c =
    let goes : Goes c.args.rows.now.items c.swap_remove-removed.new.self.items c.in-Some.place c.swap_remove-removed.result c.args.id
    (get nat_cmp c.args.index.now) (get nat_cmp c.remove.new.self) =
    record {
      indexed = c.requires;
      there = sym c.in-Some.ensures.value;
      at = c.swap_remove-removed.ensures.value;
      cut = puts c.args.index.now c.remove.new.self c.args.id None c.in-Some.ensures.updates;
      items = c.swap_remove-removed.ensures.items;
    } in
    there_was goes

pub returns-then-place-len-clause-indexed : goal.returns-then-place-len-clause-indexed
returns-then-place-len-clause-indexed c =
    let goes : Goes c.args.rows.now.items c.swap_remove-removed.new.self.items c.in-Some.place c.swap_remove-removed.result c.args.id
    (get nat_cmp c.args.index.now) (get nat_cmp c.remove.new.self) =
    record {
      indexed = c.requires;
      there = sym c.in-Some.ensures.value;
      at = c.swap_remove-removed.ensures.value;
      cut = puts c.args.index.now c.remove.new.self c.args.id None c.in-Some.ensures.updates;
      items = c.swap_remove-removed.ensures.items;
    } in
    let len : c.len.result ≡ length c.swap_remove-removed.new.self.items = search rules in
    let at = c.if-place-len.true in
    let count = one_fewer goes in
    last_gone goes (omega (arith, len, at, count))

pub index-requires : goal.index-requires
index-requires c =
    let goes : Goes c.args.rows.now.items c.swap_remove-removed.new.self.items c.in-Some.place c.swap_remove-removed.result c.args.id
    (get nat_cmp c.args.index.now) (get nat_cmp c.remove.new.self) =
    record {
      indexed = c.requires;
      there = sym c.in-Some.ensures.value;
      at = c.swap_remove-removed.ensures.value;
      cut = puts c.args.index.now c.remove.new.self c.args.id None c.in-Some.ensures.updates;
      items = c.swap_remove-removed.ensures.items;
    } in
    let len : c.len.result ≡ length c.swap_remove-removed.new.self.items = search rules in
    let count = one_fewer goes in
    let more = more_after c.in-Some.place (length c.args.rows.now.items) c.len.result (within goes) (omega (arith, len, count)) c.if-place-len.false in
    let size = c.len.ensures in
    omega (arith, len, count, more, size)

pub set_place-requires : goal.set_place-requires
set_place-requires c =
    let goes : Goes c.args.rows.now.items c.swap_remove-removed.new.self.items c.in-Some.place c.swap_remove-removed.result c.args.id
    (get nat_cmp c.args.index.now) (get nat_cmp c.remove.new.self) =
    record {
      indexed = c.requires;
      there = sym c.in-Some.ensures.value;
      at = c.swap_remove-removed.ensures.value;
      cut = puts c.args.index.now c.remove.new.self c.args.id None c.in-Some.ensures.updates;
      items = c.swap_remove-removed.ensures.items;
    } in
    let len : c.len.result ≡ length c.swap_remove-removed.new.self.items = search rules in
    let count = one_fewer goes in
    let more = more_after c.in-Some.place (length c.args.rows.now.items) c.len.result (within goes) (omega (arith, len, count)) c.if-place-len.false in
    moved_known goes more c.index.result.now c.index.ensures

pub returns-clause-found : goal.returns-clause-found
returns-clause-found c =
    let goes : Goes c.args.rows.now.items c.swap_remove-removed.new.self.items c.in-Some.place c.swap_remove-removed.result c.args.id
    (get nat_cmp c.args.index.now) (get nat_cmp c.remove.new.self) =
    record {
      indexed = c.requires;
      there = sym c.in-Some.ensures.value;
      at = c.swap_remove-removed.ensures.value;
      cut = puts c.args.index.now c.remove.new.self c.args.id None c.in-Some.ensures.updates;
      items = c.swap_remove-removed.ensures.items;
    } in
    sym (ap is_some (found_there goes))

pub returns-clause-others : goal.returns-clause-others
returns-clause-others c =
    let goes : Goes c.args.rows.now.items c.swap_remove-removed.new.self.items c.in-Some.place c.swap_remove-removed.result c.args.id
    (get nat_cmp c.args.index.now) (get nat_cmp c.remove.new.self) =
    record {
      indexed = c.requires;
      there = sym c.in-Some.ensures.value;
      at = c.swap_remove-removed.ensures.value;
      cut = puts c.args.index.now c.remove.new.self c.args.id None c.in-Some.ensures.updates;
      items = c.swap_remove-removed.ensures.items;
    } in
    let len : c.len.result ≡ length c.swap_remove-removed.new.self.items = search rules in
    let count = one_fewer goes in
    let more = more_after c.in-Some.place (length c.args.rows.now.items) c.len.result (within goes) (omega (arith, len, count)) c.if-place-len.false in
    another_remaining goes more c.index.result.now c.index.ensures (get nat_cmp c.set_place.new.index)
    (record { here = c.set_place.ensures.here; others = c.set_place.ensures.others })

pub returns-clause-absent : goal.returns-clause-absent
returns-clause-absent c =
    let goes : Goes c.args.rows.now.items c.swap_remove-removed.new.self.items c.in-Some.place c.swap_remove-removed.result c.args.id
    (get nat_cmp c.args.index.now) (get nat_cmp c.remove.new.self) =
    record {
      indexed = c.requires;
      there = sym c.in-Some.ensures.value;
      at = c.swap_remove-removed.ensures.value;
      cut = puts c.args.index.now c.remove.new.self c.args.id None c.in-Some.ensures.updates;
      items = c.swap_remove-removed.ensures.items;
    } in
    there_was goes

pub returns-clause-indexed : goal.returns-clause-indexed
returns-clause-indexed c =
    let goes : Goes c.args.rows.now.items c.swap_remove-removed.new.self.items c.in-Some.place c.swap_remove-removed.result c.args.id
    (get nat_cmp c.args.index.now) (get nat_cmp c.remove.new.self) =
    record {
      indexed = c.requires;
      there = sym c.in-Some.ensures.value;
      at = c.swap_remove-removed.ensures.value;
      cut = puts c.args.index.now c.remove.new.self c.args.id None c.in-Some.ensures.updates;
      items = c.swap_remove-removed.ensures.items;
    } in
    let len : c.len.result ≡ length c.swap_remove-removed.new.self.items = search rules in
    let count = one_fewer goes in
    let more = more_after c.in-Some.place (length c.args.rows.now.items) c.len.result (within goes) (omega (arith, len, count)) c.if-place-len.false in
    another_gone goes more c.index.result.now c.index.ensures (get nat_cmp c.set_place.new.index)
    (record { here = c.set_place.ensures.here; others = c.set_place.ensures.others })
