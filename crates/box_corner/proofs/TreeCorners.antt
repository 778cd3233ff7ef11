-- The corners of a curve tree's branch are those of the exact box around the cells under it.
use Rattle.std.specs.Prelude.{◌≡◌, ℕ, ◌↔◌, Bool, true, if◌then◌else◌, List, [], ◌∷◌, map, Option, Some, None, All}
use Rattle.std.proofs.Common.{refl, sym, ap, ap₂, subst, ◌∙◌}
use Rattle.std.proofs.lemmas.List.Elements.{All-head, All-tail}
use Rattle.curve_laws.specs.Grid.{IsKey}
use Rattle.curve_laws.specs.Laws.{IsCurve}
use Rattle.bptree_node.specs.declared.rows.Entry.{Entry}
use Rattle.bptree_node.specs.Summaries.{joined_options, summary_of, HasCorners}
use Rattle.box_corner.specs.Boxes.{Box, point, joined, IsBoxOf}
use Rattle.box_corner.specs.CurveBoxes.{is_key, entry_box, keys_of, IsMade, AreKeys, AreCorners, ReadBack}
use Rattle.box_corner.specs.CurveBoxLaws.{Decides-is_key, some_if, box_laws}
use Rattle.box_corner.proofs.Holding.{box_of_point, box_of_joined, one_box, no_box_of_none}

-- what is joined of two is there if both are
parts_of_joined : (a b : Option Box) (s : Box) → joined_options joined a b ≡ Some s → (x : Box) × (y : Box) × (a ≡ Some x) × (b ≡ Some y) × (joined x y ≡ s)
parts_of_joined (Some x) (Some y) s h = (x, y, refl, refl, cc)
parts_of_joined (Some x) None s h = absurd cc
parts_of_joined None b s h = absurd cc

there_of_joined : (a b : Option Box) → ((x : Box) × (a ≡ Some x)) → ((y : Box) × (b ≡ Some y)) → (s : Box) × (joined_options joined a b ≡ Some s)
there_of_joined a b (x, first) (y, second) = (joined x y, ap₂ (joined_options joined) first second)

if_true : (test : Bool) (box : Box) → test ≡ true → (if test then Some box else None) ≡ Some box
if_true test box h = ap (λ (t : Bool). if t then Some box else None) h

module _ (n b : ℕ) (key_of : List ℕ → ℕ) (cell_of : ℕ → List ℕ) (laws : IsCurve n b key_of cell_of) where
  -- the summary of entries, and their cells
  abbrev summary : List Entry → Option Box
  summary entries = summary_of joined (entry_box n b cell_of) entries

  abbrev cells : List Entry → List (List ℕ)
  cells entries = map (λ (e : Entry). cell_of e.key) entries

  exact_entry : (e : Entry) (s : Box) → entry_box n b cell_of e ≡ Some s → IsMade n b s × IsBoxOf s (cell_of e.key ∷ [])
  exact_entry e s is = (
    (box_laws n b key_of cell_of laws).entry_made e s is,
    subst (λ (box : Box). IsBoxOf box (cell_of e.key ∷ [])) (some_if (is_key n b e.key) (point (cell_of e.key)) s is).1 (box_of_point (cell_of e.key)),
  )

  exact : (entries : List Entry) (s : Box) → summary entries ≡ Some s → IsMade n b s × IsBoxOf s (cells entries)
  exact [] s is = absurd cc
  exact (e ∷ []) s is = exact_entry e s is
  exact (e ∷ f ∷ es) s is =
      let (x, y, first_is, others_is, joined_is) = parts_of_joined (entry_box n b cell_of e) (summary (f ∷ es)) s is in
      let first = exact_entry e x first_is in
      let others = exact (f ∷ es) y others_is in
      let box = box_of_joined x y (cell_of e.key ∷ []) (cells (f ∷ es)) (first.0.low.axes ∙ sym others.0.low.axes) first.1 others.1 in (
        subst (λ (box : Box). IsMade n b box) joined_is ((box_laws n b key_of cell_of laws).joined_made x y first.0 others.0),
        subst (λ (box : Box). IsBoxOf box (cells (e ∷ f ∷ es))) joined_is box,
      )

  there_entry : (e : Entry) → IsKey n b e.key → (s : Box) × (entry_box n b cell_of e ≡ Some s)
  there_entry e key = (point (cell_of e.key), if_true (is_key n b e.key) (point (cell_of e.key)) ((Decides-is_key n b e.key).1 key))

  there : (e : Entry) (es : List Entry) → All (λ (f : Entry). IsKey n b f.key) (e ∷ es) → (s : Box) × (summary (e ∷ es) ≡ Some s)
  there e [] keys = there_entry e (All-head (λ (f : Entry). IsKey n b f.key) e [] keys)
  there e (f ∷ es) keys =
      there_of_joined (entry_box n b cell_of e) (summary (f ∷ es))
      (there_entry e (All-head (λ (g : Entry). IsKey n b g.key) e (f ∷ es) keys))
      (there f es (All-tail (λ (g : Entry). IsKey n b g.key) e (f ∷ es) keys))

  exact_back : (entries : List Entry) (low high : ℕ) → AreKeys n b entries → AreCorners key_of cell_of entries low high
      → HasCorners joined (entry_box n b cell_of) (keys_of key_of) entries low high
  exact_back [] low high are corners = absurd (no_box_of_none corners.box corners.is)
  exact_back (e ∷ es) low high are corners =
      let (s, is) = there e es are in
      let same : s ≡ corners.box = one_box s corners.box (cells (e ∷ es)) (exact (e ∷ es) s is).1 corners.is in
      record {
        summary = corners.box;
        is = is ∙ ap (λ (box : Box). Some box) same;
        corners = ap₂ (λ (first second : ℕ). (first, second)) (sym corners.low_key) (sym corners.high_key);
      }

  pub corners_are_exact : (entries : List Entry) (low high : ℕ) → AreKeys n b entries
      → HasCorners joined (entry_box n b cell_of) (keys_of key_of) entries low high ↔ AreCorners key_of cell_of entries low high
  corners_are_exact entries low high are = (
    λ has. record {
      box = has.summary;
      is = (exact entries has.summary has.is).1;
      low_key = sym (ap (λ (keys : ℕ × ℕ). keys.0) has.corners);
      high_key = sym (ap (λ (keys : ℕ × ℕ). keys.1) has.corners);
    },
    exact_back entries low high are,
  )

  pub corners_read_back : (entries : List Entry) (low high : ℕ) → HasCorners joined (entry_box n b cell_of) (keys_of key_of) entries low high
      → ReadBack n b cell_of entries low high
  corners_read_back entries low high has =
      let (made, is) = exact entries has.summary has.is in
      record { box = has.summary; read = (box_laws n b key_of cell_of laws).back has.summary low high made has.corners; is = is }
