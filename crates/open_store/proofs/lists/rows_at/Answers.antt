use Rattle.std.proofs.Common.{rules, ◌≡◌, length, sym, ◌∙◌, arith}
use Rattle.open_store.proofs.Addition.{rows_in}
use Rattle.open_store.proofs.lists.rows_at.Goals as goal

pub returns : goal.returns
returns c =
    let long : length c.args.lists.now ≡ 4 = search rules in
    let inside = c.requires in
    c.rows.ensures.rows ∙ sym (rows_in c.args.lists.now c.args.c c.index-lists-c.result (omega (arith, long, inside)) c.rows.ensures.sound)
