use Rattle.std.proofs.Common.{◌≡◌, ◌∙◌, ℕ, IsTrue, subst, sym, ap, rules}
use Rattle.redo_journal.specs.Pages.{page}
use Rattle.redo_journal.specs.Header.{IsHeader}
use Rattle.redo_journal.specs.Redo.{entries_from}
use Rattle.redo_journal.proofs.Load.{journal_by}
use Rattle.redo_journal.proofs.recovery.find_change.Goals as goal

pub returns-in_ok-load-in-Ok-clause-finds : goal.returns-in_ok-load-in-Ok-clause-finds
returns-in_ok-load-in-Ok-clause-finds g c = λ tells.
    let image = g.D.Disk.image c.args.disk.now in
    let tells_gate : IsTrue (g.D.Disk.is_known c.gate_is_open.new.disk) = subst IsTrue (sym c.gate_is_open.ensures.disk.0.0.0) tells in
    let tells_page : IsTrue (g.D.Disk.is_known c.read_page.new.disk) = subst IsTrue (sym c.read_page.ensures.disk.0.0.0) tells_gate in
    let header : c.read_page.new.into ≡ page image 4 = c.in_ok-read_page.ensures.data tells_gate ∙ ap (λ i. page i 4) (c.gate_is_open.ensures.image tells) in
    let same : g.D.Disk.image c.read_page.new.disk ≡ image = c.read_page.ensures.image tells_gate ∙ c.gate_is_open.ensures.image tells in (
      search rules,
      subst (λ (t : ℕ). IsHeader t (page image 4)) c.total.ensures (subst (IsHeader c.total.result) header c.in-Ok.ensures.good.1),
      c.in_ok-load-in-Ok.ensures.images tells_page ∙ ap (λ i. entries_from i 5 c.in-Ok.numbers.items) same
          ∙ journal_by image c.read_page.new.into c.in-Ok.numbers.items header c.in-Ok.ensures.good.0,
    )
