-- A file whose objects were counted.
use Rattle.std.proofs.Common.{ℕ, Err, refl, subst}
use Rattle.spb_edge.specs.declared.sink.Sink as sink
use Rattle.spb_edge.specs.declared.disk.Disk as disk
use Rattle.spb_edge.specs.Moments.{weaker}
use Rattle.spb_defs.specs.State.{State}
use Rattle.spb_defs.specs.declared.Asked.TheVariants.{Check}
use Rattle.store_check.specs.Stands.{Stands, IsNoStore}
use Rattle.store_check.specs.Damage.{Breaks}
use Rattle.store_check.proofs.Standing.{one}
use Rattle.store_core.specs.declared.errors.OpenError.{OpenError}
use Rattle.store_core.specs.declared.errors.OpenError.TheVariants as refusal
use Rattle.spb_top.specs.Outside.{known_image, unread_outside}
use Rattle.spb_top.specs.Causes.{IsWhole, CauseOf, refused_by}
use Rattle.spb_top.specs.Files.{EndsAs, MayLeave}
use Rattle.spb_top.specs.Counted.{IsFound, CountsObjects}
use Rattle.spb_top.proofs.KnownImages.{if_known, known_store, known_whole}
use Rattle.spb_top.proofs.OpenedFiles.{Leaves}

module _ {K D : Type 0} (H : sink.Ghosts K) (E : disk.Ghosts D) (out out' : K) (old new : D) where
  -- what a crash leaves stands for the one state of the image
  pub may_leave : IsWhole (known_image E.is_known E.image old) → ((first : State) → Stands (E.image old) first → Leaves E old new (λ c. Stands c first))
      → Leaves E old new (MayLeave Check (unread_outside H E out out' old new))
  may_leave whole run =
      let (known, (first, stands)) = known_whole E.is_known E.image old whole in
      weaker E.moment E.crash_states_since old new (λ c. Stands c first) (MayLeave Check (unread_outside H E out out' old new))
      (λ c has s is. subst (Stands c) (one (E.image old) first s stands (known_store E.is_known E.image old s is).1) has) (run first stands)

  -- the image stands for the state that it stood for
  pub ends_as : (objects : ℕ) → IsFound E old new objects → EndsAs Check (unread_outside H E out out' old new) (E.image new)
  ends_as objects found = λ s is. subst (Stands (E.image new)) (one (E.image old) found.state s found.stood (known_store E.is_known E.image old s is).1) found.stands

  -- why there is nothing to count
  pub refused_cause : (e : OpenError) → CountsObjects E old new (Err e) → CauseOf Check (refused_by e) (unread_outside H E out out' old new)
  refused_cause refusal.NotStore counts = if_known E.is_known E.image old IsNoStore counts.0
  refused_cause (refusal.Damaged page rule) counts = if_known E.is_known E.image old (λ image. Breaks image page rule) counts.0
  refused_cause refusal.DiskFault counts = (refl, tt, counts.1)
  refused_cause refusal.Memory counts = tt
