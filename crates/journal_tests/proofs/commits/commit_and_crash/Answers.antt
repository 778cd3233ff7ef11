use Rattle.std.proofs.Common.{◌≡◌, inl, List, ℕ, refl, sym, ◌∙◌, ap, subst}
use Rattle.std.proofs.lemmas.Result.{IfOk-weaker}
use Rattle.redo_journal.specs.Redo.{RecoversTo, has_open_gate}
use Rattle.journal_tests.proofs.Worked.{nothing_pending}
use Rattle.journal_tests.proofs.commits.commit_and_crash.Goals as goal

pub returns : goal.returns
returns c = record {
  either = λ marks home stands closed.
      let same : c.in_ok-disk.disk.held.image ≡ c.args.image.now = ap (λ d. d.held.image) c.in_ok-disk.ensures in
      let run = c.commit_page.ensures.any_moment refl refl (nothing_pending c.in_ok-disk.disk c.args.image.now c.args.failing.now 16 8192 c.in_ok-disk.ensures)
      marks home
      (subst (λ (i : List ℕ). RecoversTo 90 i marks home) (sym same) stands) (ap has_open_gate same ∙ closed) in
      IfOk-weaker c.after_crash.result _ _ (λ bytes left. run.each bytes (inl left)) c.after_crash.ensures.may_leave;
}
