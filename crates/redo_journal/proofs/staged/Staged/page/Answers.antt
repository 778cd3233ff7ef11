use Rattle.std.proofs.Common.{ℕ, ◌≡◌, ◌<◌, ◌==◌, None, List, length, drop, get_or, ap, sym, ◌∙◌, subst, arith}
use Rattle.std.specs.Map.{keys_of, lookup}
use Rattle.redo_journal.specs.Change.{IsPlaceOf, IsBetween, IsNonDecreasing}
use Rattle.redo_journal.proofs.Pairs.{length-page_entries, keys-page_entries, absent_between, rises, is_sound}
use Rattle.redo_journal.proofs.Staging.{found_at}
use Rattle.redo_journal.proofs.staged.Staged.page.Goals as goal

pub place_of-requires : goal.place_of-requires
place_of-requires c = subst IsNonDecreasing (sym c.as_slice.ensures.value) (rises c.self.inside.total 0 c.self.inside.numbers.items c.self.invariant.homes)

pub entry-requires : goal.entry-requires
entry-requires c =
    let at = subst (λ (ns : List ℕ). IsPlaceOf ns c.args.n c.in-Ok.place) c.as_slice.ensures.value c.in-Ok.ensures in
    omega (arith, at.0, ap (λ s. length s.pages) c.self.view_is, length-page_entries 512 c.self.inside.numbers.items (drop 512 c.self.inside.body.items))

pub returns-in-Ok-clause-page : goal.returns-in-Ok-clause-page
returns-in-Ok-clause-page c =
    let ns = c.self.inside.numbers.items in
    let at = subst (λ (xs : List ℕ). IsPlaceOf xs c.args.n c.in-Ok.place) c.as_slice.ensures.value c.in-Ok.ensures in
    let number = c.entry.ensures.number ∙ ap (λ s. get_or (keys_of s.pages) c.in-Ok.place 0) (sym c.self.view_is)
    ∙ ap (λ xs. get_or xs c.in-Ok.place 0) (keys-page_entries 512 ns (drop 512 c.self.inside.body.items)) ∙ at.1 in
    found_at c.args.self.now.total c.args.n _ c.in-Ok.place _ c.args.self.now.pages
    (is_sound _ _ _ _ _ c.self.invariant c.self.view_is).homes c.entry.ensures.entry number

pub returns-in-Err-clause-page : goal.returns-in-Err-clause-page
returns-in-Err-clause-page c =
    let between = subst (λ (ns : List ℕ). IsBetween ns c.args.n c.in-Err.field-0) c.as_slice.ensures.value c.in-Err.ensures in
    subst (λ s. lookup (λ m. m == c.args.n) s.pages ≡ None) c.self.view_is
    (absent_between c.args.n _ c.self.inside.numbers.items (drop 512 c.self.inside.body.items) between)
