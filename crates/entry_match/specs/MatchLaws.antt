-- The laws of boxes whose entries pass a test.
use Rattle.std.proofs.Common.{◌≡◌, ℕ, Bool, true, false}
use Rattle.std.specs.Prelude.{if◌then◌else◌, Option, Some, None}
use Rattle.bptree_node.specs.declared.rows.Entry.{Entry}
use Rattle.bptree_node.specs.Summaries.{AreBoxes}
use Rattle.entry_match.specs.Matching.{tested_box}

some_of : {S : Type 0} (b : Bool) (o : Option S) (s : S) → (if b then o else None) ≡ Some s → o ≡ Some s
some_of {S} true o s is = is
some_of {S} false o s is = absurd (cc)

pub tested_laws : {S : Type 0} (size : S → ℕ) (joined : S → S → S) (entry_box : Entry → Option S) (branch_box : ℕ → ℕ → Option S) (keys : S → ℕ × ℕ) (is_made : S → Type 0) (width : ℕ)
    (test : Entry → Bool) → AreBoxes size joined entry_box branch_box keys is_made width → AreBoxes size joined (tested_box entry_box test) branch_box keys is_made width
tested_laws size joined entry_box branch_box keys is_made width test laws = record {
  entry_made = λ e s is. laws.entry_made e s (some_of (test e) (entry_box e) s is);
  branch_made = laws.branch_made;
  joined_made = laws.joined_made;
  one_size = laws.one_size;
  back = laws.back;
}
