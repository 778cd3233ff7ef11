use Rattle.std.proofs.Common.{[], refl}
use Rattle.spb_edge.specs.declared.call_log.DiskCall.TheVariants.{Size}
use Rattle.spb_edge.specs.CallLog.{is_made}
use Rattle.spb_edge.proofs.Replays.{reached-call, quiet-call, either}
use Rattle.spb_edge.proofs.mem_disk.MemDiskDisk.size.Goals as goal

pub invariant_of-self : goal.invariant_of-self
invariant_of-self c =
    let inside = c.self.inside in
    reached-call inside.first.items inside.log inside.held c.self.invariant Size [] refl c.call.new.self inside.held c.call.ensures.state
    (either (is_made inside.log 0) inside.held)

pub invariant_of-self-2 : goal.invariant_of-self-2
invariant_of-self-2 c =
    let inside = c.self.inside in
    reached-call inside.first.items inside.log inside.held c.self.invariant Size [] refl c.call.new.self inside.held c.call.ensures.state
    (either (is_made inside.log 0) inside.held)

pub returns-in_err-call-clause-quiet : goal.returns-in_err-call-clause-quiet
returns-in_err-call-clause-quiet c =
    let inside = c.self.inside in
    quiet-call _ c.args.self.now _ c.self.view_is c.self.invariant Size refl refl c.call.ensures.state refl (either (is_made inside.log 0) inside.held)

pub returns-clause-quiet : goal.returns-clause-quiet
returns-clause-quiet c =
    let inside = c.self.inside in
    quiet-call _ c.args.self.now _ c.self.view_is c.self.invariant Size refl refl c.call.ensures.state refl (either (is_made inside.log 0) inside.held)
