use Rattle.std.proofs.Common.{◌≡◌, ◌++◌, take}
use Rattle.std.specs.List.{flat_map}
use Rattle.spb_defs.specs.ReplyText.{pair_text}
use Rattle.cmd_grammar.proofs.replies.write_pairs.Given as goal

-- the pairs so far are written
abbrev pub invariant-loop-pair : goal.invariant-loop-pair
invariant-loop-pair l = l.text ≡ l.fn.text ++ flat_map pair_text (take l.pair-index l.pairs)
