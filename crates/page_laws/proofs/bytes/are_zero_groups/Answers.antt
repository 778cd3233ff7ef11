use Rattle.std.proofs.Common.{◌==◌, ◌&&◌, [], sym, ◌∙◌}
use Rattle.std.proofs.lemmas.List.Folds.{list_all_more}
use Rattle.page_laws.proofs.ZeroGroups.{is_zero_group, no_bits}
use Rattle.page_laws.proofs.bytes.are_zero_groups.Goals as goal

pub loop-group-preserved : goal.loop-group-preserved
loop-group-preserved c =
    no_bits c.loop-group.bits c.from_le_bytes-bits.result
    ∙ (λ i. c.loop-group.invariant i && (c.from_le_bytes-bits.ensures i == 0))
    ∙ sym (list_all_more is_zero_group c.args.groups.now c.loop-group.group-index [] c.loop-group-test.true)
