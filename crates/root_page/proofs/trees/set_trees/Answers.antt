use Rattle.std.proofs.Common.{◌+◌, ◌++◌, ap, ◌∙◌, arith}
use Rattle.store_check.specs.Profile.{trees_in}
use Rattle.root_page.proofs.Replacing.{replaced}
use Rattle.root_page.proofs.trees.set_trees.Goals as goal

pub returns : goal.returns
returns c = λ p is are.
    replaced c.args.page.now c.copy_from_slice.new.self c.args.trees (omega arith) (omega (arith, c.copy_from_slice.ensures))
    (λ rest. ap (λ xs. trees_in (xs ++ rest)) c.copy_from_slice.ensures.after ∙ c.trees_bytes.ensures are rest)
    c.args.c _ c.requires (omega arith) p is
