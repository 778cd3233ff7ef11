use Rattle.std.proofs.Common.{rules, ◌≡◌, ◌<◌, [], ◌∷◌, ◌++◌, sym, subst}
use Rattle.std.specs.List.Sorted.{IsPermutation}
use Rattle.page_laws.specs.FreeLaws.{last_first}
use Rattle.object_file.proofs.file.ObjectFile.slot_put.Goals as goal

pub returns-in-Ok-clause-taken : goal.returns-in-Ok-clause-taken
returns-in-Ok-clause-taken g c =
    let slot = c.take-slot.result in
    let rest = c.take-slot.new.self.numbers in
    let is : c.args.self.now.free ≡ rest ++ slot ∷ [] = search rules in
    let below : slot < c.args.self.now.cap = search rules in
    (below, subst (λ ns. IsPermutation ns (slot ∷ rest)) (sym is) (last_first rest slot))
