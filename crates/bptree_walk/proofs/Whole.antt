-- A walk of the region of all keys gives all entries, and visits all nodes.
use Rattle.std.proofs.Common.{◌≡◌, ℕ, zero, suc, ◌+◌, Bool, true, List, [], ◌∷◌, ◌++◌, length, refl, sym, ap, ap₂, ◌∙◌}
use Rattle.std.specs.Prelude.{filter, sum_by, IsTrue, OnOk, Result, Option, Some, None, Ok, Err, option_to_list}
use Rattle.std.specs.List.{flat_map, AllByRecursion, list_any}
use Rattle.page_laws.specs.Errors.{IsNotDamaged}
use Rattle.page_laws.specs.declared.errors.TreeError.{TreeError}
use Rattle.page_laws.specs.declared.root.Root.{Root}
use Rattle.bptree_node.specs.declared.rows.Entry.{Entry}
use Rattle.bptree_node.specs.TreeLaws.{walked, walked-all}
use Rattle.bptree_node.specs.TreeSizes.{visited-all}
use Rattle.bptree_node.specs.Trees.{Tree, Limb, tree_at, list_of, pages_of, IsCovered}
use Rattle.bptree_walk.specs.declared.ahead.Ahead.{Ahead}
use Rattle.bptree_walk.specs.Courses.{Course, GivesNext, EndsAt, AreLive, IsPartOf, IsSoundCourse, list_left, walk_left, nodes_left, nodes_fetched, visits_left}
use Rattle.bptree_walk.specs.Damage.{IsDamageOf}
use Rattle.bptree_walk.specs.Steps.{Steps, IsOver}

abbrev pub all_boxes : ℕ → ℕ → Bool
all_boxes low high = true

abbrev pub all_keys : ℕ → Bool
all_keys key = true

all_kept : (es : List Entry) → filter (λ (e : Entry). true) es ≡ es
all_kept [] = refl
all_kept (e ∷ es) = ap (λ (fs : List Entry). e ∷ fs) (all_kept es)

limbs_covered : (l : ℕ) → ((t : Tree l) → IsCovered all_boxes all_keys l t) → (limbs : List (Limb (Tree l)))
    → AllByRecursion (λ (limb : Limb (Tree l)). (IsTrue (list_any (λ (e : Entry). true) (list_of l limb.below)) → IsTrue true) × IsCovered all_boxes all_keys l limb.below) limbs
limbs_covered l each [] = tt
limbs_covered l each (limb ∷ limbs) = ((λ some. refl, each limb.below), limbs_covered l each limbs)

all_covered : (l : ℕ) (t : Tree l) → IsCovered all_boxes all_keys l t
all_covered zero t = tt
all_covered (suc l) t = limbs_covered l (all_covered l) t.limbs

whole_walked : (l : ℕ) (t : Tree l) → walked all_boxes all_keys l t ≡ list_of l t
whole_walked l t = walked-all all_boxes all_keys l t (all_covered l t) ∙ all_kept (list_of l t)

module _ (pages : ℕ → List ℕ) where
  pub whole_list : (c : Course) → walk_left all_boxes all_keys pages c ≡ list_left pages c
  whole_list c =
      ap₂ (λ (xs ys : List Entry). xs ++ ys) (all_kept c.entries)
      (λ i. flat_map (λ (a : Ahead). whole_walked a.level (tree_at pages a.level a.page) i) c.ahead)

  pub whole_nodes : (c : Course) → visits_left all_boxes pages c ≡ nodes_left pages c
  whole_nodes c = λ i. sum_by (λ (a : Ahead). visited-all all_boxes (λ low high. refl) a.level (tree_at pages a.level a.page) i) c.ahead

  -- what the answers of a step say of all entries

  nothing_left : (c : Course) → c.entries ≡ [] → c.ahead ≡ [] → list_left pages c ≡ []
  nothing_left c none last =
      ap₂ (λ (es : List Entry) (nodes : List Ahead). es ++ flat_map (λ (a : Ahead). list_of a.level (tree_at pages a.level a.page)) nodes) none last

  pub next_ended : (result : Result (Option Entry) TreeError) (new : Course) → IsOver result new → EndsAt result (nodes_left pages new)
  next_ended (Ok (Some e)) new over = tt
  next_ended (Ok None) new over = ap (sum_by (λ (a : Ahead). length (pages_of a.level (tree_at pages a.level a.page)))) over.1
  next_ended (Err why) new over = tt

  module _ (live : ℕ → Bool) (old new : Course) where
    pub next_given : (result : Result (Option Entry) TreeError) → Steps pages live all_boxes all_keys option_to_list result old new → IsOver result new
        → GivesNext result (list_left pages old) (list_left pages new)
    next_given (Ok (Some e)) steps over = sym (whole_list old) ∙ steps.list ∙ ap (λ (es : List Entry). e ∷ es) (whole_list new)
    next_given (Ok None) steps over =
        let none : list_left pages new ≡ [] = nothing_left new over.0 over.1 in (sym (whole_list old) ∙ steps.list ∙ whole_list new ∙ none, none)
    next_given (Err why) steps over = tt

    pub next_nodes : (result : Result (Option Entry) TreeError) → Steps pages live all_boxes all_keys option_to_list result old new
        → OnOk result (nodes_fetched pages new ≡ nodes_fetched pages old)
    next_nodes (Ok given) steps = ap (λ n. new.fetched + n) (sym (whole_nodes new)) ∙ steps.nodes ∙ ap (λ n. old.fetched + n) (whole_nodes old)
    next_nodes (Err why) steps = tt

module _ (pages : ℕ → List ℕ) (live : ℕ → Bool) (meets : ℕ → ℕ → Bool) (has : ℕ → Bool) (old new : Course) where
  pub step_sound : (A : Type 0) (given : A → List Entry) (result : Result A TreeError) → Steps pages live meets has given result old new → IsSoundCourse pages live old
      → IsNotDamaged result × OnOk result (IsSoundCourse pages live new)
  step_sound A given (Ok x) steps sound = (tt, steps.sound sound)
  step_sound A given (Err why) steps sound = (steps.sound sound, tt)

  pub step_part : (A : Type 0) (given : A → List Entry) (result : Result A TreeError) → Steps pages live meets has given result old new → (root : Root) → IsPartOf pages root old
      → IsDamageOf pages live root result × OnOk result (IsPartOf pages root new)
  step_part A given (Ok x) steps root part = (tt, steps.part root part)
  step_part A given (Err why) steps root part = (steps.damage root part, tt)

  pub step_alive : (A : Type 0) (given : A → List Entry) (result : Result A TreeError) → Steps pages live meets has given result old new → AreLive live old.ahead → OnOk result (AreLive live new.ahead)
  step_alive A given (Ok x) steps alive = steps.alive alive
  step_alive A given (Err why) steps alive = tt
