use Rattle.std.proofs.Common.{ℕ, ◌≡◌, ◌+◌, ◌-◌, ◌*◌, rules, ◌<◌, ◌≤◌, List, length, drop, take, get_or, ap, ◌∙◌, sym, subst, arith}
use Rattle.std.proofs.lemmas.List.{drop-drop, length-take-le, length-drop}
use Rattle.std.specs.Map.{keys_of}
use Rattle.redo_journal.specs.Pages.{IsHome}
use Rattle.redo_journal.proofs.Pairs.{entry-page_entries, keys-page_entries, length-page_entries, is_at, home_at}
use Rattle.redo_journal.proofs.staged.Staged.entry.Goals as goal

pub overflow_add-at : goal.overflow_add-at
overflow_add-at c =
    let below : c.args.place < length c.self.inside.numbers.items =
    omega (arith, c.requires, ap (λ s. length s.pages) c.self.view_is, length-page_entries 512 c.self.inside.numbers.items (drop 512 c.self.inside.body.items))
    in
    omega (arith, below, c.self.invariant.few)

pub overflow_mul-at : goal.overflow_mul-at
overflow_mul-at c =
    let below : c.args.place < length c.self.inside.numbers.items =
    omega (arith, c.requires, ap (λ s. length s.pages) c.self.view_is, length-page_entries 512 c.self.inside.numbers.items (drop 512 c.self.inside.body.items))
    in
    omega (arith, below, c.self.invariant.few)

pub offset_bounds-numbers-place : goal.offset_bounds-numbers-place
offset_bounds-numbers-place c =
    let below : c.args.place < length c.self.inside.numbers.items =
    omega (arith, c.requires, ap (λ s. length s.pages) c.self.view_is, length-page_entries 512 c.self.inside.numbers.items (drop 512 c.self.inside.body.items))
    in
    omega (arith, below, c.self.invariant.few)

pub bounds-numbers-place : goal.bounds-numbers-place
bounds-numbers-place c =
    let below : c.args.place < length c.self.inside.numbers.items =
    omega (arith, c.requires, ap (λ s. length s.pages) c.self.view_is, length-page_entries 512 c.self.inside.numbers.items (drop 512 c.self.inside.body.items))
    in
    omega (arith, below, ap length c.as_slice-numbers.ensures.value)

pub overflow_add-result : goal.overflow_add-result
overflow_add-result c =
    let below : c.args.place < length c.self.inside.numbers.items =
    omega (arith, c.requires, ap (λ s. length s.pages) c.self.view_is, length-page_entries 512 c.self.inside.numbers.items (drop 512 c.self.inside.body.items))
    in
    omega (arith, below, c.self.invariant.few)

pub slice_bounds-result-end : goal.slice_bounds-result-end
slice_bounds-result-end c =
    let below : c.args.place < length c.self.inside.numbers.items =
    omega (arith, c.requires, ap (λ s. length s.pages) c.self.view_is, length-page_entries 512 c.self.inside.numbers.items (drop 512 c.self.inside.body.items))
    in
    let within : (c.args.place + 1) * 512 + 512 ≤ length c.deref.result.now = omega (arith, below, c.self.invariant.long, ap length c.deref.ensures.value) in
    search rules

pub returns-clause-entry : goal.returns-clause-entry
returns-clause-entry c =
    let ns = c.self.inside.numbers.items in
    let images = drop 512 c.self.inside.body.items in
    let below : c.args.place < length ns = omega (arith, c.requires, ap (λ s. length s.pages) c.self.view_is, length-page_entries 512 ns images) in
    let size : (c.args.place + 1) * 512 + 512 - (c.args.place + 1) * 512 ≡ 512 = omega arith in
    let on : (c.args.place + 1) * 512 ≡ 512 + 512 * c.args.place = omega arith in
    let page : take ((c.args.place + 1) * 512 + 512 - (c.args.place + 1) * 512) (drop ((c.args.place + 1) * 512) c.deref.result.now)
    ≡ take 512 (drop (512 * c.args.place) images) =
    ap (λ m. take m (drop ((c.args.place + 1) * 512) c.deref.result.now)) size ∙ ap (λ xs. take 512 (drop ((c.args.place + 1) * 512) xs)) c.deref.ensures.value
    ∙ ap (λ m. take 512 (drop m c.self.inside.body.items)) on ∙ ap (take 512) (sym (drop-drop (512 * c.args.place) 512 c.self.inside.body.items)) in
    let number : get_or c.as_slice-numbers.result.now c.args.place 0 ≡ get_or ns c.args.place 0 =
    ap (λ xs. get_or xs c.args.place 0) c.as_slice-numbers.ensures.value in
    is_at c.args.place _ _ _ _ _ _ (ap (λ s. s.pages) c.self.view_is) number page (entry-page_entries c.args.place ns images below)

pub returns-clause-number : goal.returns-clause-number
returns-clause-number c =
    ap (λ xs. get_or xs c.args.place 0) (c.as_slice-numbers.ensures.value
    ∙ sym (keys-page_entries 512 c.self.inside.numbers.items (drop 512 c.self.inside.body.items)))
    ∙ ap (λ s. get_or (keys_of s.pages) c.args.place 0) c.self.view_is

pub returns-clause-home : goal.returns-clause-home
returns-clause-home c =
    let below : c.args.place < length c.self.inside.numbers.items =
    omega (arith, c.requires, ap (λ s. length s.pages) c.self.view_is, length-page_entries 512 c.self.inside.numbers.items (drop 512 c.self.inside.body.items))
    in
    subst (λ s. IsHome s.total (get_or c.as_slice-numbers.result.now c.args.place 0)) c.self.view_is
    (subst (λ (ns : List ℕ). IsHome c.self.inside.total (get_or ns c.args.place 0)) (sym c.as_slice-numbers.ensures.value)
    (home_at c.self.inside.total 0 c.args.place c.self.inside.numbers.items c.self.invariant.homes below))

pub returns-clause-page : goal.returns-clause-page
returns-clause-page c =
    let below : c.args.place < length c.self.inside.numbers.items =
    omega (arith, c.requires, ap (λ s. length s.pages) c.self.view_is, length-page_entries 512 c.self.inside.numbers.items (drop 512 c.self.inside.body.items))
    in
    let within : (c.args.place + 1) * 512 + 512 ≤ length c.deref.result.now = omega (arith, below, c.self.invariant.long, ap length c.deref.ensures.value) in
    let size : (c.args.place + 1) * 512 + 512 - (c.args.place + 1) * 512 ≡ 512 = omega arith in
    ap (λ m. length (take m (drop ((c.args.place + 1) * 512) c.deref.result.now))) size
    ∙ length-take-le 512 (drop ((c.args.place + 1) * 512) c.deref.result.now) (omega (arith, within, length-drop ((c.args.place + 1) * 512) c.deref.result.now))
