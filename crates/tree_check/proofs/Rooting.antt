-- A tree that was checked, from its root.
use Rattle.std.proofs.Common.{◌≡◌, ℕ, suc, ◌+◌, ◌≤◌, ◌==◌, Bool, true, false, List, [], ◌++◌, Ok, refl, sym, ap, subst, ◌∙◌, arith, append-nil}
use Rattle.std.specs.Prelude.{IsTrue, IsSome, All, Option, cond}
use Rattle.std.specs.List.{AllByRecursion, IsDistinct}
use Rattle.std.proofs.lemmas.List.Elements.{All-from_recursion}
use Rattle.page_laws.specs.declared.errors.TreeError.{TreeError}
use Rattle.page_laws.specs.declared.root.Root.{Root}
use Rattle.bptree_node.specs.declared.rows.Entry.{Entry}
use Rattle.bptree_node.specs.Summaries.{HasCorners}
use Rattle.bptree_node.specs.Trees.{IsSound, IsSoundAt, HaveCornersAt, IsRising, tree_at, list_of, pages_of, at_root, list_at, pages_at}
use Rattle.bptree_edit.specs.NodesAt.{times, list_under, pages_under}
use Rattle.bptree_edit.proofs.Counts.{times-none, times-all, times-distinct}
use Rattle.bptree_edit.proofs.Rooted.{nodes-told, list_at-under, pages_at-under}
use Rattle.tree_check.specs.declared.node.Checked.{Checked}
use Rattle.tree_check.specs.PageSets.{Marks, has, uses}
use Rattle.tree_check.specs.Checks.{IsChecked, ChecksTree, TellsBreakAt}
use Rattle.tree_check.specs.Damage.{TellsBreak}
use Rattle.tree_check.proofs.Breaking.{boxes-there}

-- a page is at most once in a set
pub uses-once : (s : Marks) (m : ℕ) → uses s m ≤ 1
uses-once s m = either (has s m) refl
  where
    either : (b : Bool) → has s m ≡ b → uses s m ≤ 1
    either true is = let one : uses s m ≡ 1 = ap (λ (c : Bool). cond c 1 0) is in omega (arith, one)
    either false is = let none : uses s m ≡ 0 = ap (λ (c : Bool). cond c 1 0) is in omega (arith, none)

module _ {S : Type 0} (joined : S → S → S) (entry_box : Entry → Option S) (keys : S → ℕ × ℕ) where
  module _ (pages : ℕ → List ℕ) (live : ℕ → Bool) (root : Root) (old_used used : Marks) (old new : List Entry) where
    -- the empty tree
    pub empty-checks : root.height ≡ 0 → root.page ≡ 0 → ChecksTree joined entry_box keys pages live root old_used old_used old old (Ok tt)
    unfolding IsDistinct
    empty-checks low page =
        let list : list_at pages root ≡ [] = ap (λ (h : ℕ). at_root [] list_of pages h root.page) low in
        let numbers : pages_at pages root ≡ [] = ap (λ (h : ℕ). at_root [] pages_of pages h root.page) low in
        let none : (m : ℕ) → times m (pages_at pages root) ≡ 0 = λ m. ap (times m) numbers ∙ times-none m in (
          record {
            tree = record {
              tree = record {
                height = omega (arith, low);
                sound = subst (λ (h : ℕ). IsSoundAt pages h root.page) (sym low) page;
                rising = subst IsRising (sym list) tt;
                distinct = subst (IsDistinct (λ a b. a == b)) (sym numbers) tt;
                live = subst (AllByRecursion (λ n. IsTrue (live n))) (sym numbers) tt;
              };
              corners = subst (λ (h : ℕ). HaveCornersAt (HasCorners joined entry_box keys) pages h root.page) (sym low) tt;
            };
            keys_are = subst (All (λ (e : Entry). IsSome (entry_box e))) (sym list) (All-from_recursion (λ (e : Entry). IsSome (entry_box e)) [] tt);
            unused = λ m. omega (arith, none m, uses-once old_used m);
          },
          record {
            entries = sym (ap (λ (xs : List Entry). old ++ xs) list ∙ append-nil old);
            used = λ m. omega (arith, none m);
            alive = λ m some. absurd (omega (arith, some, none m));
          },
        )

    module _ (l : ℕ) (is : root.height ≡ suc l) (low : root.height ≤ 5) where
      -- a root that was checked with all under it
      pub root-checks : (checked : Checked S) → IsChecked joined entry_box keys pages live l root.page old_used used old new checked
          → ChecksTree joined entry_box keys pages live root old_used used old new (Ok tt)
      root-checks checked checks =
          let known = nodes-told (HasCorners joined entry_box keys) pages l root.page checks.nodes in
          let sound : IsSound pages l (tree_at pages l root.page) = record { nodes = known.nodes; filled = known.filled; firsts = known.firsts } in
          let list = list_at-under pages root l is in
          let numbers = pages_at-under pages root l is in
          let counts : (m : ℕ) → times m (pages_at pages root) ≡ times m (pages_under pages l root.page) = λ m. ap (times m) numbers in (
            record {
              tree = record {
                tree = record {
                  height = low;
                  sound = subst (λ (h : ℕ). IsSoundAt pages h root.page) (sym is) sound;
                  rising = subst IsRising (sym list) checks.rising;
                  distinct = times-distinct (pages_at pages root) (λ m. omega (arith, counts m, checks.gathers.used m, uses-once used m));
                  live = times-all (λ n. IsTrue (live n)) (pages_at pages root) (λ m some. checks.gathers.alive m (omega (arith, some, counts m)));
                };
                corners = subst (λ (h : ℕ). HaveCornersAt (HasCorners joined entry_box keys) pages h root.page) (sym is) known.corners;
              };
              keys_are = subst (All (λ (e : Entry). IsSome (entry_box e))) (sym list)
                  (All-from_recursion (λ (e : Entry). IsSome (entry_box e)) (list_under pages l root.page) (boxes-there joined entry_box (list_under pages l root.page) checked.summary checks.summary));
              unused = λ m. omega (arith, counts m, checks.gathers.used m, uses-once used m);
            },
            record {
              entries = checks.gathers.entries ∙ ap (λ (xs : List Entry). old ++ xs) (sym list);
              used = λ m. omega (arith, checks.gathers.used m, counts m);
              alive = λ m some. checks.gathers.alive m (omega (arith, some, counts m));
            },
          )

      -- what is broken under the root
      pub root-tells : (why : TreeError) → TellsBreak entry_box (HasCorners joined entry_box keys) pages live (λ m. uses old_used m + times m (pages_under pages l root.page)) 1 l root.page why
          → TellsBreakAt entry_box (HasCorners joined entry_box keys) pages live old_used root.height root.page why
      root-tells why tells = subst (λ (h : ℕ). TellsBreakAt entry_box (HasCorners joined entry_box keys) pages live old_used h root.page why) (sym is) tells
