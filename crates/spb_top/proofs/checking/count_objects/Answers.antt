use Rattle.std.proofs.Common.{Ok, Err, rules}
use Rattle.store_check.specs.Stands.{Stands}
use Rattle.store_core.specs.Parts.{disk_in}
use Rattle.spb_top.specs.Counted.{CountsObjects}
use Rattle.spb_top.proofs.OpenedFiles.{Leaves, quietly_on, IsBegun, is_read, counts_all, counts_none}
use Rattle.spb_top.proofs.checking.count_objects.Goals as goal

-- ---- the profile or the pivots aren't read

pub returns-in-Err-clause-any_moment : goal.returns-in-Err-clause-any_moment
returns-in-Err-clause-any_moment g c = λ known tells durable s stands.
    let run : Leaves g.D.Disk c.args.disk.now c.in-Err.back.1.now (λ c'. Stands c' s) = c.in-Err.ensures.any_moment known tells durable s stands in
    search (rules, run)

-- ---- the objects are counted

pub count_opened-requires-clause-read : goal.count_opened-requires-clause-read
count_opened-requires-clause-read g c =
    let begun : IsBegun g.D.Disk c.args.disk.now c.in-Ok.opening =
    record { started = c.in-Ok.ensures.opens; told = c.in-Ok.ensures.told; durable = c.in-Ok.ensures.kept; faults = c.in-Ok.ensures.fault } in
    is_read g.D.Disk c.args.disk.now c.in-Ok.opening begun

pub returns-in-Ok-count_opened-clause-answer : goal.returns-in-Ok-count_opened-clause-answer
returns-in-Ok-count_opened-clause-answer g c =
    let E = g.D.Disk in
    let old = c.args.disk.now in
    let counted = c.in-Ok-count_opened.counted in
    let answer = c.in-Ok-count_opened.ensures.answer in
    let begun : IsBegun E old c.in-Ok.opening =
    record { started = c.in-Ok.ensures.opens; told = c.in-Ok.ensures.told; durable = c.in-Ok.ensures.kept; faults = c.in-Ok.ensures.fault } in
    let all : CountsObjects E old counted.1.now (Ok counted.0) =
    counts_all E old c.in-Ok.opening begun counted.0 counted.1.now (g.met.D.Disk.quiet_is (disk_in c.in-Ok.opening) counted.1.now answer.quiet) answer in
    search (rules, all)

pub returns-in-Ok-count_opened-clause-any_moment : goal.returns-in-Ok-count_opened-clause-any_moment
returns-in-Ok-count_opened-clause-any_moment g c = λ known tells durable s stands.
    let E = g.D.Disk in
    let old = c.args.disk.now in
    let mid = disk_in c.in-Ok.opening in
    let back = c.in-Ok-count_opened.counted.1.now in
    let run : Leaves E old back (λ c'. Stands c' s) =
    quietly_on E old mid back (λ c'. Stands c' s) (g.met.D.Disk.counts_now mid) (c.in-Ok.ensures.any_moment known tells durable s stands)
    (g.met.D.Disk.quiet_is mid back c.in-Ok-count_opened.ensures.answer.quiet) in
    search (rules, run)

-- ---- the store is refused

pub returns-in-Err-count_opened-clause-answer : goal.returns-in-Err-count_opened-clause-answer
returns-in-Err-count_opened-clause-answer g c =
    let E = g.D.Disk in
    let old = c.args.disk.now in
    let back = c.in-Err-count_opened.back in
    let begun : IsBegun E old c.in-Ok.opening =
    record { started = c.in-Ok.ensures.opens; told = c.in-Ok.ensures.told; durable = c.in-Ok.ensures.kept; faults = c.in-Ok.ensures.fault } in
    let none : CountsObjects E old back.1.now (Err back.0) = counts_none E old c.in-Ok.opening begun back.0 back.1.now c.in-Err-count_opened.ensures.answer in
    search (rules, none)

pub returns-in-Err-count_opened-clause-any_moment : goal.returns-in-Err-count_opened-clause-any_moment
returns-in-Err-count_opened-clause-any_moment g c = λ known tells durable s stands.
    let E = g.D.Disk in
    let old = c.args.disk.now in
    let mid = disk_in c.in-Ok.opening in
    let back = c.in-Err-count_opened.back.1.now in
    let run : Leaves E old back (λ c'. Stands c' s) =
    quietly_on E old mid back (λ c'. Stands c' s) (g.met.D.Disk.counts_now mid) (c.in-Ok.ensures.any_moment known tells durable s stands)
    (g.met.D.Disk.quiet_is mid back c.in-Err-count_opened.ensures.answer.quiet) in
    search (rules, run)
