-- The nodes ahead are few, whatever the pages hold.
use Rattle.std.proofs.Common.{◌≡◌, ℕ, zero, suc, ◌+◌, ◌*◌, ◌^◌, ◌≤◌, ◌<◌, List, [], ◌∷◌, ◌++◌, length, refl, sym, ap, subst, ◌∙◌, arith}
use Rattle.std.specs.Prelude.{reverse, sum_by, Option, Some, None, option_to_list}
use Rattle.std.specs.List.{AllByRecursion}
use Rattle.std.proofs.Math.Nat.{pow-succ', pow-le-pow_right, mul-le-mul_right}
use Rattle.std.proofs.lemmas.List.{length-reverse, reverse-append, reverse-reverse}
use Rattle.std.proofs.lemmas.List.Sums.{sum_by-cons, sum_by-append}
use Rattle.page_laws.specs.declared.root.Root.{Root}
use Rattle.bptree_node.specs.declared.layout.TheConstants.{HEIGHT_LIMIT}
use Rattle.bptree_node.specs.declared.rows.Entry.{Entry}
use Rattle.bptree_node.specs.Lists.{all-append}
use Rattle.bptree_walk.specs.declared.ahead.Ahead.{Ahead}
use Rattle.bptree_walk.specs.declared.visit.TheConstants.{AHEAD_LIMIT}
use Rattle.bptree_walk.specs.Courses.{most_left, most_nodes, most_nodes_left, first_ahead, begun, IsPart, IsPartOf, MOST_IN_TREE}
use Rattle.bptree_walk.specs.Cursors.{IsStacked}
use Rattle.bptree_walk.specs.Visits.{GoesDeeper}
use Rattle.bptree_walk.proofs.Parts.{first_part}
use Rattle.bptree_walk.proofs.Visiting.{course}

-- ---- sums over the nodes of one level

abbrev AreOfLevel : ℕ → List Ahead → Type 0
AreOfLevel above nodes = AllByRecursion (λ (a : Ahead). a.level + 1 ≡ above) nodes

sum_of_level : (weight : ℕ → ℕ) (l : ℕ) (nodes : List Ahead) → AreOfLevel (suc l) nodes → sum_by (λ (a : Ahead). weight a.level) nodes ≡ length nodes * weight l
sum_of_level weight l [] all = omega arith
sum_of_level weight l (a ∷ nodes) all =
    let here : weight a.level ≡ weight l = let same : a.level ≡ l = omega (arith, all.0) in ap weight same in
    omega (arith, sum_by-cons (λ (a : Ahead). weight a.level) a nodes, here, sum_of_level weight l nodes all.1)

none_of_level : (nodes : List Ahead) → AreOfLevel 0 nodes → nodes ≡ []
none_of_level [] all = refl
none_of_level (a ∷ nodes) all = absurd (omega (arith, all.0))

-- ---- the nodes ahead after a visit

module _ (a : Ahead) (rest new : List Ahead) (deeper : GoesDeeper a.level rest new) where
  turned : reverse new ≡ deeper.children ++ reverse rest
  turned =
      ap reverse deeper.items ∙ reverse-append rest (reverse deeper.children) ∙ ap (λ (nodes : List Ahead). nodes ++ reverse rest) (reverse-reverse deeper.children)

  few_nodes : (level : ℕ) (nodes : List Ahead) → length nodes ≤ 14 → AreOfLevel level nodes → 1 + most_nodes_left nodes ≤ most_nodes level
  few_nodes zero nodes few all =
      let none : most_nodes_left nodes ≡ 0 = ap most_nodes_left (none_of_level nodes all) in omega (arith, none)
  few_nodes (suc l) nodes few all =
      let most : length nodes * most_nodes l ≤ 14 * most_nodes l = mul-le-mul_right (most_nodes l) few in
      omega (arith, most, sum_of_level most_nodes l nodes all)

  -- fewer nodes are left
  pub fewer_left : 1 + most_nodes_left (reverse new) ≤ most_nodes_left (a ∷ reverse rest)
  fewer_left =
      let children : 1 + most_nodes_left deeper.children ≤ most_nodes a.level = few_nodes a.level deeper.children deeper.few deeper.levels in
      let whole : most_nodes_left (reverse new) ≡ most_nodes_left (deeper.children ++ reverse rest) = ap most_nodes_left turned in
      omega (
        arith,
        children,
        whole,
        sum_by-append (λ (b : Ahead). most_nodes b.level) deeper.children (reverse rest),
        sum_by-cons (λ (b : Ahead). most_nodes b.level) a (reverse rest),
      )

  abbrev weight : ℕ → ℕ
  weight level = 30 * 14 ^ level

  few_entries : (level : ℕ) (entries : List Entry) (nodes : List Ahead) → length entries ≤ 30 → (0 < level → entries ≡ []) → length nodes ≤ 14 → AreOfLevel level nodes
      → length entries + sum_by (λ (b : Ahead). weight b.level) nodes ≤ weight level
  few_entries zero entries nodes some inner few all =
      let none : sum_by (λ (b : Ahead). weight b.level) nodes ≡ 0 = ap (sum_by (λ (b : Ahead). weight b.level)) (none_of_level nodes all) in omega (arith, none, some)
  few_entries (suc l) entries nodes some inner few all =
      let none : length entries ≡ 0 = ap length (inner (omega arith)) in
      let most : length nodes * weight l ≤ 14 * weight l = mul-le-mul_right (weight l) few in
      omega (arith, none, most, sum_of_level weight l nodes all, pow-succ' 14 l)

  -- no more entries may be left
  pub no_more_left : (entries : List Entry) (fetched : ℕ) → length entries ≤ 30 → (0 < a.level → entries ≡ [])
      → most_left (course entries (reverse new) (fetched + 1)) ≤ most_left (course [] (a ∷ reverse rest) fetched)
  no_more_left entries fetched some inner =
      let children : length entries + sum_by (λ (b : Ahead). weight b.level) deeper.children ≤ weight a.level =
      few_entries a.level entries deeper.children some inner deeper.few deeper.levels
      in
      let whole : sum_by (λ (b : Ahead). weight b.level) (reverse new) ≡ sum_by (λ (b : Ahead). weight b.level) (deeper.children ++ reverse rest) =
      ap (sum_by (λ (b : Ahead). weight b.level)) turned
      in
      omega (
        arith,
        children,
        whole,
        sum_by-append (λ (b : Ahead). weight b.level) deeper.children (reverse rest),
        sum_by-cons (λ (b : Ahead). weight b.level) a (reverse rest),
      )

-- those fetched and those left are as few as before
pub few_rest : (a : Ahead) (rest items : List Ahead) (fetched most : ℕ) → items ≡ rest ++ a ∷ [] → fetched + most_nodes_left (reverse items) ≤ most
    → fetched + most_nodes_left (reverse rest) ≤ most
few_rest a rest items fetched most last few =
    let whole : most_nodes_left (reverse items) ≡ most_nodes_left (a ∷ reverse rest) = ap (λ (nodes : List Ahead). most_nodes_left (reverse nodes)) last ∙ ap most_nodes_left (reverse-append rest (a ∷ [])) in
    omega (arith, few, whole, sum_by-cons (λ (b : Ahead). most_nodes b.level) a (reverse rest))

pub few_deeper : (a : Ahead) (rest items new : List Ahead) (fetched most : ℕ) → items ≡ rest ++ a ∷ [] → fetched + most_nodes_left (reverse items) ≤ most → GoesDeeper a.level rest new
    → fetched + 1 + most_nodes_left (reverse new) ≤ most
few_deeper a rest items new fetched most last few deeper =
    let whole : most_nodes_left (reverse items) ≡ most_nodes_left (a ∷ reverse rest) = ap (λ (nodes : List Ahead). most_nodes_left (reverse nodes)) last ∙ ap most_nodes_left (reverse-append rest (a ∷ [])) in
    let fewer = fewer_left a rest new deeper in
    omega (arith, few, whole, fewer)

-- ---- places leave room

all_reversed : {X : Type 0} (P : X → Type 0) (xs : List X) → AllByRecursion P xs → AllByRecursion P (reverse xs)
all_reversed P [] all = tt
all_reversed P (x ∷ xs) all = subst (AllByRecursion P) (sym (reverse-append (x ∷ []) xs)) (all-append P (reverse xs) (x ∷ []) (all_reversed P xs all.1) (all.0, tt))

stacked_parts : (at : ℕ) (xs ys : List Ahead) → IsStacked at (xs ++ ys) → IsStacked at xs × IsStacked (at + length xs) ys
stacked_parts at [] ys stacked = (tt, subst (λ (n : ℕ). IsStacked n ys) (omega arith) stacked)
stacked_parts at (x ∷ xs) ys stacked =
    let rest = stacked_parts (at + 1) xs ys stacked.2 in
    let place : at + 1 + length xs ≡ at + suc (length xs) = omega arith in
    ((stacked.0, stacked.1, rest.0), subst (λ (n : ℕ). IsStacked n ys) place rest.1)

stacked_joined : (at : ℕ) (xs ys : List Ahead) → IsStacked at xs → IsStacked (at + length xs) ys → IsStacked at (xs ++ ys)
stacked_joined at [] ys front back = subst (λ (n : ℕ). IsStacked n ys) (omega arith) back
stacked_joined at (x ∷ xs) ys front back =
    let place : at + suc (length xs) ≡ at + 1 + length xs = omega arith in
    (front.0, front.1, stacked_joined (at + 1) xs ys front.2 (subst (λ (n : ℕ). IsStacked n ys) place back))

stacked_level : (at bottom above : ℕ) (nodes : List Ahead) → AreOfLevel above nodes → above < HEIGHT_LIMIT → bottom + 13 * above < AHEAD_LIMIT → at + length nodes ≤ bottom + 14 → IsStacked at nodes
stacked_level at bottom above [] all low room few = tt
stacked_level at bottom above (a ∷ nodes) all low room few = (
  omega (arith, all.0, low),
  omega (arith, all.0, room, few),
  stacked_level (at + 1) bottom above nodes all.1 low room (omega (arith, few)),
)

module _ (a : Ahead) (rest items : List Ahead) (last : items ≡ rest ++ a ∷ []) (stacked : IsStacked 0 items) where
  parts : IsStacked 0 rest × IsStacked (0 + length rest) (a ∷ [])
  parts = stacked_parts 0 rest (a ∷ []) (subst (IsStacked 0) last stacked)

  pub stacked_rest : IsStacked 0 rest
  stacked_rest = parts.0

  -- there is room for the children
  pub room_left : 0 < a.level → length rest + 14 ≤ AHEAD_LIMIT
  room_left some = let room = parts.1.1 in omega (arith, room, some)

  -- and they leave room
  pub stacked_deeper : (new : List Ahead) → GoesDeeper a.level rest new → IsStacked 0 new
  stacked_deeper new deeper =
      let low = parts.1.0 in
      let room = parts.1.1 in
      let few = deeper.few in
      subst (IsStacked 0) (sym deeper.items)
      (stacked_joined 0 rest (reverse deeper.children) parts.0
      (stacked_level (0 + length rest) (length rest) a.level (reverse deeper.children) (all_reversed (λ (b : Ahead). b.level + 1 ≡ a.level) deeper.children deeper.levels) low
      (omega (arith, room)) (omega (arith, few, length-reverse deeper.children))))

-- ---- the root's node

most_nodes_low : (l : ℕ) → l < 5 → most_nodes l ≤ most_nodes 4
most_nodes_low zero low = omega arith
most_nodes_low (suc zero) low = omega arith
most_nodes_low (suc (suc zero)) low = omega arith
most_nodes_low (suc (suc (suc zero))) low = omega arith
most_nodes_low (suc (suc (suc (suc zero)))) low = omega arith
most_nodes_low (suc (suc (suc (suc (suc l))))) low = absurd (omega (arith, low))

pub first_stacked : (height page : ℕ) → height ≤ HEIGHT_LIMIT → IsStacked 0 (option_to_list (first_ahead height page))
first_stacked zero page low = tt
first_stacked (suc l) page low = (omega (arith, low), omega (arith, low), tt)

pub first_few : (height page : ℕ) → height ≤ HEIGHT_LIMIT → most_nodes_left (reverse (option_to_list (first_ahead height page))) ≤ most_nodes 4
first_few zero page low = omega arith
first_few (suc l) page low = let few = most_nodes_low l (omega (arith, low)) in omega (arith, few)

-- ---- the course that begins

one_turned : (o : Option Ahead) → reverse (option_to_list o) ≡ option_to_list o
one_turned None = refl
one_turned (Some a) = refl

-- it is that from the root
pub begins : (root : Root) (entries : List Entry) (items : List Ahead) → entries ≡ [] → items ≡ option_to_list (first_ahead root.height root.page) → course entries (reverse items) 0 ≡ begun root
begins root entries items none first =
    ap (λ (es : List Entry). course es (reverse items) 0) none
    ∙ ap (λ (nodes : List Ahead). course [] nodes 0) (ap reverse first ∙ one_turned (first_ahead root.height root.page))

begun_low : (height page : ℕ) → height ≤ HEIGHT_LIMIT → most_left (begun (record { page = page; height = height })) ≤ MOST_IN_TREE
begun_low zero page low = omega arith
begun_low (suc l) page low =
    let most : 14 ^ l ≤ 14 ^ 4 = pow-le-pow_right {n = 14} (omega arith) {i = l} {j = 4} (omega (arith, low)) in omega (arith, most)

pub begun_most : (root : Root) → root.height ≤ HEIGHT_LIMIT → most_left (begun root) ≤ MOST_IN_TREE
begun_most root low = begun_low root.height root.page low

begun_parts : (pages : ℕ → List ℕ) (root : Root) (o : Option Ahead) → first_ahead root.height root.page ≡ o → AllByRecursion (IsPart pages root) (option_to_list o)
begun_parts pages root None is = tt
begun_parts pages root (Some a) is = (first_part pages root a is, tt)

pub begun_part : (pages : ℕ → List ℕ) (root : Root) → IsPartOf pages root (begun root)
begun_part pages root = begun_parts pages root (first_ahead root.height root.page) refl
