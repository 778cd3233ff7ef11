use Rattle.spb_top.proofs.NewStores.{leaves_new}
use Rattle.spb_top.proofs.making.make_store.Goals as goal

pub returns-in-Ok-format-clause-any_moment : goal.returns-in-Ok-format-clause-any_moment
returns-in-Ok-format-clause-any_moment g c = λ tells crashes only.
    leaves_new g.D.Disk.moment g.D.Disk.crash_states_since c.args.plan c.args.disk.now c.format.new.disk _ c.profile_of.result
    c.as_slice-pivots.result.now c.args.choice.now.pivots.items c.profile_of.ensures c.as_slice-pivots.ensures.value
    (c.format.ensures.any_moment tells crashes only c.requires.empty)

pub returns-clause-any_moment : goal.returns-clause-any_moment
returns-clause-any_moment g c = λ tells crashes only.
    leaves_new g.D.Disk.moment g.D.Disk.crash_states_since c.args.plan c.args.disk.now c.format.new.disk _ c.profile_of.result
    c.as_slice-pivots.result.now c.args.choice.now.pivots.items c.profile_of.ensures c.as_slice-pivots.ensures.value
    (c.format.ensures.any_moment tells crashes only c.requires.empty)
