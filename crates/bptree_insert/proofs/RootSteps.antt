-- A root that is planted, and one above two nodes.
use Rattle.std.proofs.Common.{◌≡◌, ℕ, suc, ◌+◌, ◌*◌, ◌^◌, ◌≤◌, Bool, List, [], ◌∷◌, length, refl, sym, ap, ◌∙◌, arith, length-append}
use Rattle.std.specs.Prelude.{Option, Some}
use Rattle.bptree_node.specs.declared.rows.Entry.{Entry}
use Rattle.bptree_node.specs.declared.rows.Branch.{Branch}
use Rattle.bptree_node.specs.Nodes.{Leaf, Inner}
use Rattle.bptree_node.specs.Summaries.{HasCorners}
use Rattle.bptree_insert.specs.declared.grown.Boxed.{Boxed}
use Rattle.bptree_edit.specs.declared.part.Part.{Part}
use Rattle.bptree_insert.specs.Growth.{TakesAtMost}
use Rattle.bptree_edit.specs.NodesAt.{times, list_under, pages_under, pages_under_all, AreNodesUnder, AreOwn}
use Rattle.bptree_edit.specs.Steps.{PagesGrow}
use Rattle.bptree_insert.specs.Steps.{IsJoined, IsSplit}
use Rattle.bptree_edit.specs.Parts.{branch_of}
use Rattle.bptree_edit.proofs.Summing.{AreJoined}
use Rattle.bptree_edit.proofs.Counts.{one_if, one_same, times-none, times-cons, among-times, times-among}
use Rattle.bptree_edit.proofs.Under.{AreKept, list-leaf, pages-leaf, list-inner, pages-inner, list_all-kept, times_all-kept, all-kept, nodes-of, of-leaf}
use Rattle.bptree_insert.proofs.Growing.{HaveGrown, grown-split}
use Rattle.bptree_edit.proofs.Branches.{single_list, single_times}
use Rattle.bptree_edit.specs.Changes.{Changes}
use Rattle.bptree_insert.specs.Rows.{IsPlaced}
use Rattle.bptree_edit.proofs.Changing.{differs, one-none}
use Rattle.bptree_edit.proofs.Rooted.{list-least}

-- at most so many pages were taken
pub takes-most : {P : Type 0} {is_known : P → Bool} {has in_pool : P → ℕ → Bool} {free : P → List ℕ} {is_open : P → Bool} {put_pages : P → List ℕ} {calm : P → P → Type 0}
    {taken put : ℕ} {old new : P} → PagesGrow is_known has in_pool free is_open put_pages calm taken put old new → (most : ℕ) → taken ≤ most → TakesAtMost most (free old) (free new)
takes-most {free = free} {old = old} {new = new} grow most enough = record {
  count = omega (arith, grow.taken, enough);
  none_back = λ n is. times-among n (free old) (omega (arith, grow.fewer n, among-times n (free new) is));
}

-- ---- a leaf of one entry

module _ (e : Entry) (old new : ℕ → List ℕ) (old_free new_free : List ℕ) (q : ℕ) (is : IsJoined q (Leaf (e ∷ [])) old new old_free new_free) where
  pub planted : Changes (IsPlaced e) old new old_free new_free [] (pages_under new 0 q) [] (list_under new 0 q)
  planted =
      let times_now : (m : ℕ) → times m (pages_under new 0 q) ≡ one_if q m = λ m. ap (times m) (pages-leaf new q) ∙ times-cons m q [] ∙ omega (arith, times-none m) in
      record {
        placed = record { before = []; after = []; were = refl; are = list-leaf new q (e ∷ []) is.written.here; lower = tt; upper = tt };
        moved = λ m. omega (arith, is.was_free m, times-cons m q new_free, times_now m, times-none m);
        outside = λ m none. is.written.others m (one-none q m (omega (arith, none, times_now m)));
      }

  pub planted-nodes : (are_corners : List Entry → ℕ → ℕ → Type 0) → AreNodesUnder are_corners new 0 q
  planted-nodes are_corners = of-leaf are_corners new q (e ∷ []) is.written.here

-- ---- a root above two nodes

module _ {S : Type 0} (joined : S → S → S) (entry_box : Entry → Option S) (branch_box : ℕ → ℕ → Option S) (keys : S → ℕ × ℕ) (is_made : S → Type 0)
    (entry_made : (e : Entry) (s : S) → entry_box e ≡ Some s → is_made s) (back_of : (s : S) (low high : ℕ) → is_made s → keys s ≡ (low, high) → branch_box low high ≡ Some s)
    (laws : AreJoined joined is_made) (in_pool : ℕ → Bool) (e : Boxed S) (own : entry_box e.entry ≡ Some e.summary) (start old new : ℕ → List ℕ) (start_free old_free new_free : List ℕ)
    (l n : ℕ) (left right : Part S) (are : AreOwn in_pool start_free (pages_under start l n)) (split : IsSplit joined entry_box keys e.entry start old start_free old_free l n left right) where
  -- too many entries for the greatest height
  pub many : 30 * 7 ^ l ≤ length (list_under start l n) + 1
  many =
      let placed = split.grows.placed in
      let one = list-least (HasCorners joined entry_box keys) old l left.page split.first.nodes split.first.filled in
      let two = list-least (HasCorners joined entry_box keys) old l right.page split.second.nodes split.second.filled in
      omega (
        arith,
        one,
        two,
        ap length placed.were,
        ap length placed.are,
        length-append placed.before placed.after,
        length-append placed.before (e.entry ∷ placed.after),
        length-append (list_under old l left.page) (list_under old l right.page),
      )

  module _ (q : ℕ) (is : IsJoined q (Inner (branch_of keys left ∷ branch_of keys right ∷ [])) old new old_free new_free) where
    raised-all : (rows : List Branch) → HaveGrown (HasCorners joined entry_box keys) e.entry start old start_free old_free l (record { key = 0; id = 0; child = n; low = 0; high = 0 } ∷ []) rows
        → IsJoined q (Inner rows) old new old_free new_free
        → Changes (IsPlaced e.entry) start new start_free new_free (pages_under start l n) (pages_under new (suc l) q) (list_under start l n) (list_under new (suc l) q)
        × AreNodesUnder (HasCorners joined entry_box keys) new (suc l) q
    raised-all rows grown is =
        let b : Branch = record { key = 0; id = 0; child = n; low = 0; high = 0 } in
        let alone = λ (m : ℕ). single_times m start l b in
        let q_free : (m : ℕ) → times m old_free ≡ one_if q m + times m new_free = λ m. is.was_free m ∙ times-cons m q new_free in
        let not_q : times q (pages_under_all old l rows) ≡ 0 = omega (arith, grown.changes.moved q, are.once q, alone q, q_free q, one_same q) in
        let kept : AreKept old new (pages_under_all old l rows) = λ m some. is.written.others m (differs q m (pages_under_all old l rows) not_q some) in
        let here = is.written.here in
        let times_now : (m : ℕ) → times m (pages_under new (suc l) q) ≡ one_if q m + times m (pages_under_all old l rows) =
        λ m. ap (times m) (pages-inner new l q rows here) ∙ times-cons m q (pages_under_all new l rows) ∙ ap (λ (k : ℕ). one_if q m + k) (times_all-kept m old new l rows kept) in
        let placed = grown.changes.placed in (
          record {
            placed = record {
              before = placed.before;
              after = placed.after;
              were = sym (single_list start l b) ∙ placed.were;
              are = list-inner new l q rows here ∙ list_all-kept old new l rows kept ∙ placed.are;
              lower = placed.lower;
              upper = placed.upper;
            };
            moved = λ m. omega (arith, grown.changes.moved m, alone m, times_now m, q_free m);
            outside = λ m none. is.written.others m (one-none q m (omega (arith, none, times_now m))) ∙ grown.changes.outside m (omega (arith, none, times_now m));
          },
          nodes-of (HasCorners joined entry_box keys) new l q rows here (all-kept (HasCorners joined entry_box keys) old new l rows kept grown.children),
        )

    pub raised : Changes (IsPlaced e.entry) start new start_free new_free (pages_under start l n) (pages_under new (suc l) q) (list_under start l n) (list_under new (suc l) q)
        × AreNodesUnder (HasCorners joined entry_box keys) new (suc l) q
    raised =
        raised-all (branch_of keys left ∷ branch_of keys right ∷ [])
        (grown-split joined entry_box branch_box keys is_made entry_made back_of laws e own start old start_free old_free l (record { key = 0; id = 0; child = n; low = 0; high = 0 }) left right split) is
