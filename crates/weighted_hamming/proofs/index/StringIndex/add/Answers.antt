use Rattle.std.proofs.Common.{rules, refl, arith}
use Rattle.weighted_hamming.proofs.Adding.{taken, addable, entries-append}
use Rattle.weighted_hamming.proofs.index.StringIndex.add.Goals as goal

pub returns-then-not-is_new-clause-ok : goal.returns-then-not-is_new-clause-ok
returns-then-not-is_new-clause-ok c = (
  λ fits. taken c.is_new.result c.deref.result.now c.args.self.now.rows.items c.args.id c.is_new.ensures c.deref.ensures.value c.if-not-is_new.true fits.id,
  refl,
)

pub returns-clause-ok : goal.returns-clause-ok
returns-clause-ok c = (
  addable _ c.args.self.now.rows.items (c.args.id, c.args.string.now) (search rules) (search rules) (omega arith),
  entries-append c.push.new.self.items c.args.self.now.rows.items c.in_ok-row.row (c.args.id, c.args.string.now) c.in_ok-push.ensures.items (search rules),
)
