-- Roots of which all are those of empty trees.
use Rattle.std.proofs.Common.{◌≡◌, true, ◌&&◌, List, [], ◌∷◌, refl, ap, arith}
use Rattle.std.specs.Prelude.{IsTrue, All}
use Rattle.std.proofs.lemmas.Bool.{and_parts}
use Rattle.std.proofs.lemmas.Bool.Decides.{nat_tests}
use Rattle.std.proofs.lemmas.List.Elements.{All-nil, All-cons, All-head, All-tail}
use Rattle.page_laws.specs.declared.root.Root.{Root}
use Rattle.store_check.specs.Profile.{no_root}
use Rattle.store_check.specs.Stands.{is_empty_root, are_empty}

empty_one : (root : Root) → IsTrue (is_empty_root root) → root ≡ no_root
empty_one root is =
    let height : root.height ≡ 0 = grind (arith, nat_tests, is) in
    let page : root.page ≡ 0 = grind (arith, nat_tests, is) in
    λ i. record { page = page i; height = height i }

one_empty : (root : Root) → root ≡ no_root → is_empty_root root ≡ true
one_empty root is = ap is_empty_root is

pub to_all : (roots : List Root) → IsTrue (are_empty roots) → All (λ root. root ≡ no_root) roots
to_all [] is = All-nil (λ root. root ≡ no_root)
to_all (root ∷ roots) is =
    let parts = and_parts (is_empty_root root) (are_empty roots) is in
    All-cons (λ r. r ≡ no_root) root roots (empty_one root parts.0) (to_all roots parts.1)

pub from_all : (roots : List Root) → All (λ root. root ≡ no_root) roots → IsTrue (are_empty roots)
from_all [] all = refl
from_all (root ∷ roots) all =
    let first : is_empty_root root ≡ true = one_empty root (All-head (λ r. r ≡ no_root) root roots all) in
    let rest : are_empty roots ≡ true = from_all roots (All-tail (λ r. r ≡ no_root) root roots all) in
    λ i. first i && rest i
