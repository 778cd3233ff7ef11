use Rattle.std.proofs.Common.{rules}
use Rattle.scan_laws.specs.Members.{members_of-none}
use Rattle.session.proofs.store.Store.new.Goals as goal

pub returns-clause-empty : goal.returns-clause-empty
returns-clause-empty c = search (rules, members_of-none)
