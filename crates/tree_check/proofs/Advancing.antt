-- A check that goes on from branch to branch.
use Rattle.std.proofs.Common.{◌≡◌, inl, inr, ℕ, zero, suc, ◌+◌, ◌-◌, ◌<◌, ◌≤◌, Bool, true, List, [], ◌∷◌, ◌++◌, length, take, drop, get_or, refl, sym, ap, subst, ◌∙◌, arith, append_assoc, append-nil, length-append, take_all}
use Rattle.std.specs.Prelude.{IsTrue, Option, Some}
use Rattle.std.proofs.lemmas.Bool.{cases_eq}
use Rattle.std.proofs.lemmas.List.{take_at, drop_at}
use Rattle.page_laws.specs.declared.pages.Pages.{Ghosts}
use Rattle.bptree_node.specs.declared.rows.Entry.{Entry}
use Rattle.bptree_node.specs.declared.rows.Branch.{Branch}
use Rattle.bptree_node.specs.Nodes.{Inner, node_in}
use Rattle.bptree_node.specs.Summaries.{summary_of, HasCorners}
use Rattle.bptree_node.specs.Trees.{IsRising, HasFirst}
use Rattle.bptree_walk.proofs.Staying.{Stay, live_of}
use Rattle.bptree_edit.specs.NodesAt.{times, list_under, pages_under, list_under_all, pages_under_all, rows_in, least_rows, IsBranchOf}
use Rattle.bptree_edit.proofs.Counts.{times-cons, times-none, one_if, one_other}
use Rattle.bptree_edit.proofs.Under.{list-leaf, pages-leaf, list-inner, pages-inner, list_all-append, list_all-none, times_all-append, times_all-none, children-append, children-cons, children-none, nodes-of, of-leaf}
use Rattle.bptree_edit.proofs.Branches.{single_list, single_times}
use Rattle.bptree_edit.proofs.Reaching.{times_around}
use Rattle.tree_check.specs.declared.node.Checked.{Checked}
use Rattle.tree_check.specs.declared.node.Spot.{Spot}
use Rattle.tree_check.specs.PageSets.{Marks, uses, HasSameRange}
use Rattle.tree_check.specs.Checks.{IsChecked, AreChecked, IsMatched, IsLeafChecked, has_first}
use Rattle.tree_check.specs.Damage.{ends_before}
use Rattle.tree_check.proofs.Order.{first-known, rising-joined}

-- what holds while the branches of a node are checked one after another
pub record Holds {P : Type 0} (G : Ghosts P) {S : Type 0} (joined : S → S → S) (entry_box : Entry → Option S) (keys : S → ℕ × ℕ) (start now : P) (at : Spot) (front : List Branch)
    (old_used used : Marks) (old entries : List Entry) : Type 0 where
  pub told : IsTrue (G.is_known start) → AreChecked (HasCorners joined entry_box keys) (G.page_at start) (live_of G start) (at.level - 1) at.page front old_used used old entries
  pub range : HasSameRange old_used used
  pub longer : length old ≤ length entries
  pub stay : Stay G start now
  pub faults : G.faults start ≤ G.faults now

-- ---- parts of the entries

module _ {A : Type 0} (old front back : List A) where
  pub back-part : (all : List A) (from : ℕ) → all ≡ (old ++ front) ++ back → from ≡ length (old ++ front) → take (length all - from) (drop from all) ≡ back
  back-part all from is at =
      let rest : drop from all ≡ back = ap (drop {A = A} from) is ∙ drop_at (old ++ front) back from (sym at) in
      take_all {A = A} (length all - from) (drop from all) (omega (arith, ap length is, ap length rest, length-append (old ++ front) back, at)) ∙ rest

  pub front-part : (all : List A) (start from : ℕ) → all ≡ (old ++ front) ++ back → start ≡ length old → from ≡ length (old ++ front) → take (from - start) (drop start all) ≡ front
  front-part all start from is begins at =
      let rest : drop start all ≡ front ++ back = ap (drop {A = A} start) (is ∙ append_assoc old front back) ∙ drop_at old (front ++ back) start (sym begins) in
      let long : length front ≡ from - start = omega (arith, at, begins, length-append old front) in
      ap (take {A = A} (from - start)) rest ∙ take_at front back (from - start) long

module _ (are_corners : List Entry → ℕ → ℕ → Type 0) (pages : ℕ → List ℕ) (live : ℕ → Bool) (l n : ℕ) where
  -- before the first branch
  pub none-checked : (old_used used : Marks) (old : List Entry) → ((m : ℕ) → uses used m ≡ uses old_used m + times m (n ∷ [])) → IsTrue (live n)
      → AreChecked are_corners pages live l n [] old_used used old old
  none-checked old_used used old more alive = record {
    children = children-none are_corners pages l;
    rising = subst IsRising (sym (list_all-none pages l)) tt;
    gathers = record {
      entries = sym (ap (λ (xs : List Entry). old ++ xs) (list_all-none pages l) ∙ append-nil old);
      used = λ m. omega (arith, more m, times-cons m n [], times-none m, times-cons m n (pages_under_all pages l []), times_all-none m pages l);
      alive = λ m some. own m (one_if n m) refl (omega (arith, some, times-cons m n (pages_under_all pages l []), times_all-none m pages l));
    };
  }
    where
      own : (m k : ℕ) → one_if n m ≡ k → 0 < one_if n m → IsTrue (live m)
      own m k is some = elim (cases_eq n m) [
        | inl same ↦ subst (λ (j : ℕ). IsTrue (live j)) same alive
        | inr other ↦ absurd (omega (arith, some, one_other n m other))
      ]

  module _ {S : Type 0} (joined : S → S → S) (entry_box : Entry → Option S) (keys : S → ℕ × ℕ) where
    -- one branch more
    pub one-checked : (front : List Branch) (b : Branch) (old_used used new_used : Marks) (old entries new : List Entry) (child : Checked S) (start from : ℕ)
        → AreChecked (HasCorners joined entry_box keys) pages live l n front old_used used old entries
        → IsChecked joined entry_box keys pages live l b.child used new_used entries new child
        → start ≡ length old → from ≡ length entries
        → IsMatched keys (least_rows l) b (take (from - start) (drop start new)) (take (length new - from) (drop from new)) child
        → AreChecked (HasCorners joined entry_box keys) pages live l n (front ++ b ∷ []) old_used new_used old new
    one-checked front b old_used used new_used old entries new child start from are is begins ends matched =
        let list = list_under pages l b.child in
        let lists = list_under_all pages l front in
        let all : new ≡ (old ++ lists) ++ list = is.gathers.entries ∙ ap (λ (xs : List Entry). xs ++ list) are.gathers.entries in
        let long : from ≡ length (old ++ lists) = ends ∙ ap length are.gathers.entries in
        let under : take (length new - from) (drop from new) ≡ list = back-part old lists list new from all long in
        let before : take (from - start) (drop start new) ≡ lists = front-part old lists list new start from all begins long in
        let first : HasFirst b.key b.id list = first-known b.key b.id list (subst (λ (xs : List Entry). has_first b.key b.id xs ≡ true) under matched.first) in
        let last = subst (λ (xs : List Entry). ends_before b.key b.id xs ≡ true) before matched.ends in
        let branch : IsBranchOf (HasCorners joined entry_box keys) pages l b =
        record {
          filled = omega (arith, matched.filled, is.rows);
          first = first;
          corners = record { summary = child.summary; is = is.summary; corners = matched.corners };
        } in
        let joins : list_under_all pages l (front ++ b ∷ []) ≡ lists ++ list = list_all-append pages l front (b ∷ []) ∙ ap (λ (xs : List Entry). lists ++ xs) (single_list pages l b) in
        let counts : (m : ℕ) → times m (n ∷ pages_under_all pages l (front ++ b ∷ [])) ≡ times m (n ∷ pages_under_all pages l front) + times m (pages_under pages l b.child) =
        λ m. omega (
          arith,
          times-cons m n (pages_under_all pages l (front ++ b ∷ [])),
          times-cons m n (pages_under_all pages l front),
          times_all-append m pages l front (b ∷ []),
          single_times m pages l b,
        ) in
        record {
          children = children-append (HasCorners joined entry_box keys) pages l front (b ∷ []) are.children
              (children-cons (HasCorners joined entry_box keys) pages l b [] (branch, is.nodes) (children-none (HasCorners joined entry_box keys) pages l));
          rising = subst IsRising (sym joins) (rising-joined b.key b.id lists list are.rising is.rising last first);
          gathers = record {
            entries = all ∙ append_assoc old lists list ∙ ap (λ (xs : List Entry). old ++ xs) (sym joins);
            used = λ m. omega (arith, is.gathers.used m, are.gathers.used m, counts m);
            alive = λ m some. either m (times m (pages_under pages l b.child)) refl (omega (arith, some, counts m));
          };
        }
      where
        either : (m k : ℕ) → times m (pages_under pages l b.child) ≡ k → 0 < times m (n ∷ pages_under_all pages l front) + times m (pages_under pages l b.child) → IsTrue (live m)
        either m zero none some = are.gathers.alive m (omega (arith, some, none))
        either m (suc k) there some = is.gathers.alive m (omega (arith, there))

    -- all of them
    pub all-checked : (bs : List Branch) (old_used used : Marks) (old entries : List Entry) (checked : Checked S) → node_in (pages n) ≡ Some (Inner bs)
        → AreChecked (HasCorners joined entry_box keys) pages live l n bs old_used used old entries → checked.rows ≡ length bs
        → summary_of joined entry_box (list_under_all pages l bs) ≡ Some checked.summary
        → IsChecked joined entry_box keys pages live (suc l) n old_used used old entries checked
    all-checked bs old_used used old entries checked node are rows summary =
        let list = list-inner pages l n bs node in
        let numbers = pages-inner pages l n bs node in
        record {
          nodes = nodes-of (HasCorners joined entry_box keys) pages l n bs node are.children;
          rising = subst IsRising (sym list) are.rising;
          summary = ap (summary_of joined entry_box) list ∙ summary;
          rows = rows ∙ sym (ap rows_in node);
          gathers = record {
            entries = are.gathers.entries ∙ ap (λ (xs : List Entry). old ++ xs) (sym list);
            used = λ m. are.gathers.used m ∙ ap (λ (xs : List ℕ). uses old_used m + times m xs) (sym numbers);
            alive = λ m some. are.gathers.alive m (subst (λ (xs : List ℕ). 0 < times m xs) numbers some);
          };
        }

    -- a leaf
    pub leaf-checked : (old_used used : Marks) (old new : List Entry) (checked : Checked S) → ((m : ℕ) → uses used m ≡ uses old_used m + times m (n ∷ [])) → IsTrue (live n)
        → IsLeafChecked joined entry_box (pages n) old new checked → IsChecked joined entry_box keys pages live 0 n old_used used old new checked
    leaf-checked old_used used old new checked more alive is =
        let list = list-leaf pages n is.entries is.node in
        record {
          nodes = of-leaf (HasCorners joined entry_box keys) pages n is.entries is.node;
          rising = subst IsRising (sym list) is.rising;
          summary = ap (summary_of joined entry_box) list ∙ is.summary;
          rows = is.rows ∙ sym (ap rows_in is.node);
          gathers = record {
            entries = is.are ∙ ap (λ (xs : List Entry). old ++ xs) (sym list);
            used = λ m. more m ∙ ap (λ (xs : List ℕ). uses old_used m + times m xs) (sym (pages-leaf pages n));
            alive = λ m some. elim (cases_eq n m) [
              | inl same ↦ subst (λ (j : ℕ). IsTrue (live j)) same alive
              | inr other ↦ absurd (omega (arith, some, ap (times m) (pages-leaf pages n), times-cons m n [], times-none m, one_other n m other))
            ];
          };
        }

    -- pages reached under a child are reached under its parent
    pub reached-more : (bs : List Branch) (i : ℕ) (d : Branch) (old_used used : Marks) (old entries : List Entry) → i < length bs → node_in (pages n) ≡ Some (Inner bs)
        → AreChecked (HasCorners joined entry_box keys) pages live l n (take i bs) old_used used old entries → (m : ℕ)
        → uses used m + times m (pages_under pages l (get_or bs i d).child) ≤ uses old_used m + times m (pages_under pages (suc l) n)
    reached-more bs i d old_used used old entries below node are m =
        omega (
          arith,
          are.gathers.used m,
          times_around pages l bs i d below m,
          times-cons m n (pages_under_all pages l (take i bs)),
          times-cons m n (pages_under_all pages l bs),
          ap (times m) (pages-inner pages l n bs node),
        )
