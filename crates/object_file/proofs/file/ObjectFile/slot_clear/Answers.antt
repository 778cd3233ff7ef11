use Rattle.std.proofs.Common.{rules, ◌≡◌, [], ◌∷◌, ◌++◌, sym, subst}
use Rattle.std.specs.List.Sorted.{IsPermutation}
use Rattle.page_laws.specs.FreeLaws.{last_first}
use Rattle.object_file.proofs.file.ObjectFile.slot_clear.Goals as goal

pub returns-clause-freed : goal.returns-clause-freed
returns-clause-freed g c =
    let is : c.give.new.self.numbers ≡ c.args.self.now.free ++ c.args.slot ∷ [] = search rules in
    subst (λ ns. IsPermutation ns (c.args.slot ∷ c.args.self.now.free)) (sym is) (last_first c.args.self.now.free c.args.slot)
