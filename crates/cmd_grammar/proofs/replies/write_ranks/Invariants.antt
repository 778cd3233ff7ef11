use Rattle.std.proofs.Common.{◌≡◌, ◌++◌, take}
use Rattle.std.specs.List.{flat_map}
use Rattle.spb_defs.specs.ReplyText.{rank_text}
use Rattle.cmd_grammar.proofs.replies.write_ranks.Given as goal

-- the ranks so far are written
abbrev pub invariant-loop-rank : goal.invariant-loop-rank
invariant-loop-rank l = l.text ≡ l.fn.text ++ flat_map rank_text (take l.rank-index l.ranks)
