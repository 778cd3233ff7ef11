use Rattle.store_core.proofs.Sizes.{counts_no_fault}
use Rattle.store_core.proofs.steps.read_profile_page.Goals as goal

pub returns-clause-fault : goal.returns-clause-fault
returns-clause-fault g c = counts_no_fault c.profile_of.result _ _ c.profile_of.ensures.no_fault c.in_ok-read_page.ensures.fault
