use Rattle.std.proofs.Common.{rules, ◌≡◌, length, sym, ◌∙◌}
use Rattle.open_store.proofs.Addition.{len_in}
use Rattle.open_store.proofs.lists.len_at.Goals as goal

pub returns : goal.returns
returns c =
    let long : length c.args.lists.now ≡ 4 = search rules in
    c.len.ensures.len ∙ sym (len_in c.args.lists.now c.args.c c.index-lists-c.result long c.requires c.len.ensures.sound)
