use Rattle.std.proofs.Common.{ℕ, ◌≡◌, ◌<◌, ◌==◌, None, vec_capacity, List, Ok, length, drop, sym, subst, arith, rules, refl}
use Rattle.std.specs.Map.{lookup}
use Rattle.std.specs.List.{insert}
use Rattle.std.proofs.lemmas.Grind.{common_steps}
use Rattle.redo_journal.specs.Pages.{IsHome}
use Rattle.redo_journal.specs.Change.{page_entries, Stages, IsPlaceOf, IsBetween, IsNonDecreasing, IsStaged}
use Rattle.redo_journal.proofs.Pairs.{stage_replaces, stage_joins, stage_refuses, joins_staged, rises, length-page_entries, is_sound}
use Rattle.redo_journal.proofs.staged.Staged.stage.Goals as goal

pub place_of-requires : goal.place_of-requires
place_of-requires c = subst IsNonDecreasing (sym c.as_slice.ensures.value) (rises c.self.inside.total 0 c.self.inside.numbers.items c.self.invariant.homes)

pub returns-then-is_full-clause-stages : goal.returns-then-is_full-clause-stages
returns-then-is_full-clause-stages c =
    let full : length c.self.inside.numbers.items ≡ 80 = search rules in
    let whole : length c.args.page.now ≡ 512 = search rules in
    let between = subst (λ (ns : List ℕ). IsBetween ns c.args.n c.in-Err.place) c.as_slice.ensures.value c.in-Err.ensures in
    let refuses = stage_refuses c.self.inside.total _ c.args.n c.in-Err.place c.self.inside.numbers.items c.self.inside.body.items c.args.page.now
    c.self.invariant whole between full in (
      refl,
      subst (λ s. length s.pages ≡ 80) c.self.view_is refuses.0,
      subst (λ s. lookup (λ m. m == c.args.n) s.pages ≡ None) c.self.view_is refuses.1,
    )

pub invariant_of-self-in-Err : goal.invariant_of-self-in-Err
invariant_of-self-in-Err c =
    let room : length c.self.inside.numbers.items < 80 = grind (arith, common_steps) in
    let whole : length c.args.page.now ≡ 512 = search rules in
    let between = subst (λ (ns : List ℕ). IsBetween ns c.args.n c.in-Err.place) c.as_slice.ensures.value c.in-Err.ensures in
    subst (λ (ns : List ℕ). IsStaged c.self.inside.total ns c.insert_page.new.pages.items (vec_capacity c.insert_page.new.pages)) (sym c.insert.ensures.items)
    (subst (λ (xs : List ℕ). IsStaged c.self.inside.total (insert c.self.inside.numbers.items c.in-Err.place c.args.n) xs
    (vec_capacity c.insert_page.new.pages)) (sym c.insert_page.ensures.items)
    (joins_staged c.self.inside.total _ c.args.n c.in-Err.place c.self.inside.numbers.items c.self.inside.body.items c.args.page.now c.self.invariant whole _
    (subst (λ s. IsHome s.total c.args.n) (sym c.self.view_is) c.requires) between room c.insert_page.ensures.capacity))

pub returns-in-Ok-clause-stages : goal.returns-in-Ok-clause-stages
returns-in-Ok-clause-stages c =
    let whole : length c.args.page.now ≡ 512 = search rules in
    let at = subst (λ (ns : List ℕ). IsPlaceOf ns c.args.n c.in-Ok.place) c.as_slice.ensures.value c.in-Ok.ensures in
    let stages = stage_replaces c.self.inside.total _ c.args.n c.in-Ok.place c.self.inside.numbers.items c.self.inside.body.items c.args.page.now
    c.self.invariant whole at in
    subst (λ s. Stages (Ok tt) s.pages c.args.n c.args.page.now (page_entries 512 c.self.inside.numbers.items (drop 512 c.replace_page.new.pages.items)))
    c.self.view_is
    (subst (λ (xs : List ℕ). Stages (Ok tt) (page_entries 512 c.self.inside.numbers.items (drop 512 c.self.inside.body.items)) c.args.n c.args.page.now
    (page_entries 512 c.self.inside.numbers.items (drop 512 xs)))
    (sym c.replace_page.ensures.items) stages)

pub returns-else-is_full-clause-stages : goal.returns-else-is_full-clause-stages
returns-else-is_full-clause-stages c =
    let room : length c.self.inside.numbers.items < 80 = grind (arith, common_steps) in
    let whole : length c.args.page.now ≡ 512 = search rules in
    let between = subst (λ (ns : List ℕ). IsBetween ns c.args.n c.in-Err.place) c.as_slice.ensures.value c.in-Err.ensures in
    let stages = stage_joins c.self.inside.total _ c.args.n c.in-Err.place c.self.inside.numbers.items c.self.inside.body.items c.args.page.now
    c.self.invariant whole between room in
    subst (λ s. Stages (Ok tt) s.pages c.args.n c.args.page.now (page_entries 512 c.insert.new.self.items (drop 512 c.insert_page.new.pages.items)))
    c.self.view_is
    (subst (λ (ns : List ℕ). Stages (Ok tt) (page_entries 512 c.self.inside.numbers.items (drop 512 c.self.inside.body.items)) c.args.n c.args.page.now
    (page_entries 512 ns (drop 512 c.insert_page.new.pages.items)))
    (sym c.insert.ensures.items)
    (subst (λ (xs : List ℕ). Stages (Ok tt) (page_entries 512 c.self.inside.numbers.items (drop 512 c.self.inside.body.items)) c.args.n c.args.page.now
    (page_entries 512 (insert c.self.inside.numbers.items c.in-Err.place c.args.n) (drop 512 xs)))
    (sym c.insert_page.ensures.items) stages))

pub returns-then-is_full-clause-few : goal.returns-then-is_full-clause-few
returns-then-is_full-clause-few c = (is_sound _ _ _ _ _ c.self.invariant c.self.view_is).few

pub returns-in-Ok-clause-few : goal.returns-in-Ok-clause-few
returns-in-Ok-clause-few c = omega (arith, c.self.invariant.few, length-page_entries 512 c.self.inside.numbers.items (drop 512 c.replace_page.new.pages.items))

pub returns-else-is_full-clause-few : goal.returns-else-is_full-clause-few
returns-else-is_full-clause-few c = omega (
  arith,
  (invariant_of-self-in-Err c).few,
  length-page_entries 512 c.insert.new.self.items (drop 512 c.insert_page.new.pages.items),
)
