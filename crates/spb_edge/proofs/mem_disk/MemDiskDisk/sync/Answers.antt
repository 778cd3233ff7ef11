use Rattle.std.proofs.Common.{[], refl, ◌∙◌}
use Rattle.spb_edge.specs.declared.call_log.DiskCall.TheVariants.{Sync}
use Rattle.spb_edge.specs.CallLog.{is_made, fails_next}
use Rattle.spb_edge.specs.MemDisk.{DiskState}
use Rattle.spb_edge.proofs.Replays.{reached-call, elapses-call, sync-failed, sync-kept}
use Rattle.spb_edge.proofs.mem_disk.MemDiskDisk.sync.Goals as goal

pub invariant_of-self : goal.invariant_of-self
invariant_of-self c =
    let inside = c.self.inside in
    reached-call inside.first.items inside.log inside.held c.self.invariant Sync [] refl c.call.new.self inside.held c.call.ensures.state
    (sync-failed (is_made inside.log 0) (fails_next inside.log) inside.held _ _ c.call.ensures.answer c.in_err-call.was)

pub invariant_of-self-2 : goal.invariant_of-self-2
invariant_of-self-2 c =
    let inside = c.self.inside in
    reached-call inside.first.items inside.log inside.held c.self.invariant Sync [] refl c.call.new.self _ c.call.ensures.state
    (c.keep.ensures ∙ sync-kept (is_made inside.log 0) (fails_next inside.log) inside.held _ _ c.call.ensures.answer c.in_ok-call.was)

pub returns-in_err-call-clause-time : goal.returns-in_err-call-clause-time
returns-in_err-call-clause-time c =
    let inside = c.self.inside in
    let new : DiskState = record { first = inside.first.items; log = c.call.new.self; held = inside.held; reads = inside.reads } in
    elapses-call _ c.args.self.now new c.self.view_is c.self.invariant Sync [] refl refl c.call.ensures.state
    (sync-failed (is_made inside.log 0) (fails_next inside.log) inside.held _ _ c.call.ensures.answer c.in_err-call.was)

pub returns-clause-time : goal.returns-clause-time
returns-clause-time c =
    let inside = c.self.inside in
    let new : DiskState = record { first = inside.first.items; log = c.call.new.self; held = c.keep.new.self; reads = inside.reads } in
    elapses-call _ c.args.self.now new c.self.view_is c.self.invariant Sync [] refl refl c.call.ensures.state
    (c.keep.ensures ∙ sync-kept (is_made inside.log 0) (fails_next inside.log) inside.held _ _ c.call.ensures.answer c.in_ok-call.was)
