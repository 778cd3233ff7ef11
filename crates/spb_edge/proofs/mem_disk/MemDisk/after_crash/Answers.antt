use Rattle.std.proofs.Common.{List, ℕ, inr, sym, ◌∙◌, ap, subst}
use Rattle.std.proofs.lemmas.Result.{IfOk-weaker}
use Rattle.spb_edge.specs.Contents.{AreTornOver}
use Rattle.spb_edge.specs.MemDisk.{DiskState}
use Rattle.spb_edge.proofs.Ranges.{leaves-kept}
use Rattle.spb_edge.proofs.mem_disk.MemDisk.after_crash.Goals as goal

pub returns-in-DropAll-clause-may_leave : goal.returns-in-DropAll-clause-may_leave
returns-in-DropAll-clause-may_leave c =
    let held = c.args.self.now.held in
    IfOk-weaker _ _ _ (λ bytes is. inr (subst (λ (b : List ℕ). AreTornOver held.kept held.unsynced b)
    (sym (is ∙ c.kept.ensures ∙ ap (λ (d : DiskState). d.held.kept) c.self.view_is)) (leaves-kept held.kept held.unsynced))) c.of-in-DropAll.ensures
