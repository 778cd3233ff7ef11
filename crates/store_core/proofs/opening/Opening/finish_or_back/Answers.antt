use Rattle.std.proofs.Common.{◌≡◌, ◌∙◌, false, sym, ap, subst}
use Rattle.store_check.specs.Stands.{are_empty}
use Rattle.store_core.specs.Parts.{disk_in, profile_of, pivots_of}
use Rattle.store_core.specs.Finish.{RefusesOpened}
use Rattle.store_core.proofs.OpenedImages.{has_tree}
use Rattle.store_core.proofs.Loading.{none_are_free}
use Rattle.store_core.proofs.opening.Opening.finish_or_back.Goals as goal

pub returns-then-not-are_empty-clause-refuses : goal.returns-then-not-are_empty-clause-refuses
returns-then-not-are_empty-clause-refuses g c = λ known opened.
    let filled : are_empty (profile_of c.args.self).roots ≡ false =
    sym (c.if-not-are_empty.ensures ∙ ap (λ p. are_empty p.roots) c.into_parts-journal.ensures.content.0) in
    subst (λ e. RefusesOpened e (g.D.Disk.image (disk_in c.args.self))) (sym c.has_tree.ensures)
    (has_tree (g.D.Disk.image (disk_in c.args.self)) (profile_of c.args.self) (pivots_of c.args.self) opened c.requires.ready.sound.in_range filled)

pub new_or_back-requires-clause-free : goal.new_or_back-requires-clause-free
new_or_back-requires-clause-free g c = none_are_free _
