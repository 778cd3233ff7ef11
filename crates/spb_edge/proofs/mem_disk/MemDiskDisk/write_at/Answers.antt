use Rattle.std.proofs.Common.{◌≡◌, ◌≤◌, inl, inr, true, false, if◌then◌else◌, length, refl, sym, ◌∙◌, ap, subst, arith}
use Rattle.spb_edge.specs.declared.call_log.DiskCall.TheVariants.{Write}
use Rattle.spb_edge.specs.CallLog.{is_made, fails_next}
use Rattle.spb_edge.specs.Contents.{Contents, IsCrashState, with_range}
use Rattle.spb_edge.specs.Crash.{IsTornWrite, FollowsBy}
use Rattle.spb_edge.specs.Disk.{overwritten_at}
use Rattle.spb_edge.specs.MemDisk.{DiskState}
use Rattle.spb_edge.proofs.Ranges.{follows-range}
use Rattle.spb_edge.proofs.Replays.{reached-call, elapses-call, log_after-made, held-made}
use Rattle.spb_edge.proofs.mem_disk.MemDiskDisk.write_at.Goals as goal

pub invariant_of-self-then-fails_next : goal.invariant_of-self-then-fails_next
invariant_of-self-then-fails_next c =
    let inside = c.self.inside in
    let bytes = c.args.bytes.now in
    let accepted : is_made inside.log (length bytes) ≡ true = sym c.accepts.ensures ∙ c.if-not-accepts.false in
    let fails : fails_next inside.log ≡ true = sym c.fails_next.ensures ∙ c.if-fails_next.true in
    let logs = c.note.ensures.state ∙ log_after-made (is_made inside.log (length bytes)) (Write c.args.at (length bytes)) bytes inside.log accepted in
    let holds = held-made (is_made inside.log (length bytes)) (fails_next inside.log) inside.held c.tear.new.self c.args.at bytes (inside.held.image)
    accepted c.tear.ensures
    (ap (λ b. if b then inside.held.image else overwritten_at inside.held.image c.args.at bytes) (sym fails)) in
    reached-call inside.first.items inside.log inside.held c.self.invariant (Write c.args.at (length bytes))
    bytes refl c.note.new.self c.tear.new.self logs holds

pub returns-then-fails_next-clause-time : goal.returns-then-fails_next-clause-time
returns-then-fails_next-clause-time c =
    let inside = c.self.inside in
    let bytes = c.args.bytes.now in
    let accepted : is_made inside.log (length bytes) ≡ true = sym c.accepts.ensures ∙ c.if-not-accepts.false in
    let fails : fails_next inside.log ≡ true = sym c.fails_next.ensures ∙ c.if-fails_next.true in
    let logs = c.note.ensures.state ∙ log_after-made (is_made inside.log (length bytes)) (Write c.args.at (length bytes)) bytes inside.log accepted in
    let holds = held-made (is_made inside.log (length bytes)) (fails_next inside.log) inside.held c.tear.new.self c.args.at bytes (inside.held.image)
    accepted c.tear.ensures
    (ap (λ b. if b then inside.held.image else overwritten_at inside.held.image c.args.at bytes) (sym fails)) in
    let new : DiskState = record { first = inside.first.items; log = c.note.new.self; held = c.tear.new.self; reads = inside.reads } in
    elapses-call _ c.args.self.now new c.self.view_is c.self.invariant (Write c.args.at (length bytes)) bytes refl refl logs holds

pub returns-then-fails_next-clause-crash : goal.returns-then-fails_next-clause-crash
returns-then-fails_next-clause-crash c =
    let inside = c.self.inside in
    let bytes = c.args.bytes.now in
    let held = ap (λ (d : DiskState). d.held) c.self.view_is in
    let within : c.args.at ≤ length inside.held.image = omega (arith, c.requires, ap (λ (h : Contents). length h.image) held) in
    let follows = follows-range inside.held c.args.at bytes (inside.held.image) within (inl refl) in
    subst (λ (h : Contents). FollowsBy (IsTornWrite c.args.at (length bytes)) (IsCrashState c.args.self.now.held) (IsCrashState h)) (sym c.tear.ensures)
    (subst (λ (h : Contents). FollowsBy (IsTornWrite c.args.at (length bytes)) (IsCrashState h)
    (IsCrashState (with_range c.args.at (length bytes) (inside.held.image) inside.held))) held follows)

pub invariant_of-self-2 : goal.invariant_of-self-2
invariant_of-self-2 c =
    let inside = c.self.inside in
    let bytes = c.args.bytes.now in
    let accepted : is_made inside.log (length bytes) ≡ true = sym c.accepts.ensures ∙ c.if-not-accepts.false in
    let fails : fails_next inside.log ≡ false = sym c.fails_next.ensures ∙ c.if-fails_next.false in
    let logs = c.note-2.ensures.state ∙ log_after-made (is_made inside.log (length bytes)) (Write c.args.at (length bytes)) bytes inside.log accepted in
    let holds = held-made (is_made inside.log (length bytes)) (fails_next inside.log) inside.held c.write.new.self c.args.at bytes
    (overwritten_at inside.held.image c.args.at bytes) accepted c.in_default.ensures.ok
    (ap (λ b. if b then inside.held.image else overwritten_at inside.held.image c.args.at bytes) (sym fails)) in
    reached-call inside.first.items inside.log inside.held c.self.invariant (Write c.args.at (length bytes))
    bytes refl c.note-2.new.self c.write.new.self logs holds

pub returns-clause-time : goal.returns-clause-time
returns-clause-time c =
    let inside = c.self.inside in
    let bytes = c.args.bytes.now in
    let accepted : is_made inside.log (length bytes) ≡ true = sym c.accepts.ensures ∙ c.if-not-accepts.false in
    let fails : fails_next inside.log ≡ false = sym c.fails_next.ensures ∙ c.if-fails_next.false in
    let logs = c.note-2.ensures.state ∙ log_after-made (is_made inside.log (length bytes)) (Write c.args.at (length bytes)) bytes inside.log accepted in
    let holds = held-made (is_made inside.log (length bytes)) (fails_next inside.log) inside.held c.write.new.self c.args.at bytes
    (overwritten_at inside.held.image c.args.at bytes) accepted c.in_default.ensures.ok
    (ap (λ b. if b then inside.held.image else overwritten_at inside.held.image c.args.at bytes) (sym fails)) in
    let new : DiskState = record { first = inside.first.items; log = c.note-2.new.self; held = c.write.new.self; reads = inside.reads } in
    elapses-call _ c.args.self.now new c.self.view_is c.self.invariant (Write c.args.at (length bytes)) bytes refl refl logs holds

pub returns-clause-crash : goal.returns-clause-crash
returns-clause-crash c =
    let inside = c.self.inside in
    let bytes = c.args.bytes.now in
    let held = ap (λ (d : DiskState). d.held) c.self.view_is in
    let within : c.args.at ≤ length inside.held.image = omega (arith, c.requires, ap (λ (h : Contents). length h.image) held) in
    let follows = follows-range inside.held c.args.at bytes (overwritten_at inside.held.image c.args.at bytes) within (inr refl) in
    subst (λ (h : Contents). FollowsBy (IsTornWrite c.args.at (length bytes)) (IsCrashState c.args.self.now.held) (IsCrashState h))
    (sym c.in_default.ensures.ok)
    (subst (λ (h : Contents). FollowsBy (IsTornWrite c.args.at (length bytes)) (IsCrashState h)
    (IsCrashState (with_range c.args.at (length bytes) (overwritten_at inside.held.image c.args.at bytes) inside.held))) held follows)
