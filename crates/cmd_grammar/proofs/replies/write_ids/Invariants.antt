use Rattle.std.proofs.Common.{◌≡◌, ◌++◌, take}
use Rattle.std.specs.List.{flat_map}
use Rattle.spb_defs.specs.ReplyText.{id_text}
use Rattle.cmd_grammar.proofs.replies.write_ids.Given as goal

-- the ids so far are written
abbrev pub invariant-loop-id : goal.invariant-loop-id
invariant-loop-id l = l.text ≡ l.fn.text ++ flat_map id_text (take l.id-index l.ids)
