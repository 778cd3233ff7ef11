use Rattle.std.proofs.Common.{◌∙◌, ap}
use Rattle.store_check.specs.Profile.{profile_in}
use Rattle.store_check.proofs.Reading.{read_in_range}
use Rattle.store_core.proofs.PivotRecords.{profile_fits}
use Rattle.store_core.proofs.content.profile_of.Goals as goal

pub fitting-requires : goal.fitting-requires
fitting-requires c = read_in_range c.args.page.now c.in-Ok.profile c.in-Ok.ensures

pub returns-in-Ok-clause-exact : goal.returns-in-Ok-clause-exact
returns-in-Ok-clause-exact c = λ pages is. profile_fits c.args.total pages c.in-Ok.profile c.fitting.result (ap profile_in is ∙ c.in-Ok.ensures) c.fitting.ensures.exact
