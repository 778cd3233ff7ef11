use Rattle.std.proofs.Common.{◌≡◌, ◌∷◌, [], ap, ◌∙◌, rules}
use Rattle.spb_edge.specs.Crash.{CrashesLeaveOnly}
use Rattle.redo_journal.specs.Journal.{disk_of, total_of, staged_of}
use Rattle.redo_journal.specs.Change.{with_page, IsBeforeOrAfter}
use Rattle.journal_tests.proofs.Worked.{from_start}
use Rattle.journal_tests.proofs.commits.commit_page.Goals as goal

pub returns : goal.returns
returns g c = record {
  any_moment = λ tells crashes only marks home stands closed.
      let K = g.D.Disk in
      let pages = (86, c.args.page.now) ∷ [] in
      let of_disk : disk_of c.stage.new.self ≡ c.args.disk.now = c.stage.ensures.disk ∙ c.in-Ok.ensures.at in
      let of_total : total_of c.stage.new.self ≡ 90 = c.stage.ensures.total ∙ c.in-Ok.ensures.total in
      let of_pages : staged_of c.stage.new.self ≡ pages = c.in-Ok-stage.ensures.stages.0 ∙ ap (λ old. with_page old 86 c.args.page.now) c.in-Ok.ensures.none in
      let run : CrashesLeaveOnly K.moment K.crash_states_since c.args.disk.now c.into_inner-disk.result.now (IsBeforeOrAfter 90 pages marks home) =
      from_start K.is_known K.knows_crashes K.image K.crash_states K.moment K.crash_states_since c.args.disk.now (disk_of c.stage.new.self)
      (disk_of c.commit.new.self) c.into_inner-disk.result.now
      90 (total_of c.stage.new.self) pages (staged_of c.stage.new.self) of_disk of_total of_pages c.into_inner-disk.ensures.disk c.commit.ensures.any_moment
      tells crashes only marks home stands closed in
      search (rules, run);
}
