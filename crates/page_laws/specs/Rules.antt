-- The rules of a store's file.
use Rattle.std.specs.Prelude.{ℕ, List, codes}
use Rattle.page_laws.specs.declared.rule.Rule.{Rule}
use Rattle.page_laws.specs.declared.rule.Rule.TheVariants as rule

-- the rule's name in messages
abbrev pub rule_name : Rule → List ℕ
rule_name rule.Size = codes "size"
rule_name rule.Journal = codes "journal"
rule_name rule.Profile = codes "profile"
rule_name rule.Pivot = codes "pivot"
rule_name rule.Page = codes "page"
rule_name rule.Node = codes "node"
rule_name rule.Fill = codes "fill"
rule_name rule.Order = codes "order"
rule_name rule.Key = codes "key"
rule_name rule.Box = codes "box"
rule_name rule.Slot = codes "slot"
rule_name rule.Match = codes "match"
