-- Summaries of entries, and the corners of the boxes around them.
use Rattle.std.specs.Prelude.{◌≡◌, ℕ, List, [], ◌∷◌, Option, Some, None}
use Rattle.bptree_node.specs.declared.rows.Entry.{Entry}

-- Summaries of one size are joined in any order and any number of times.
pub record IsJoin {S : Type 0} (size : S → ℕ) (joined : S → S → S) : Type 0 where
  pub one_size : (a b : S) → size a ≡ size b → size (joined a b) ≡ size a
  pub associative : (a b c : S) → size a ≡ size b → size b ≡ size c → joined (joined a b) c ≡ joined a (joined b c)
  pub commutative : (a b : S) → size a ≡ size b → joined a b ≡ joined b a
  pub idempotent : (a : S) → joined a a ≡ a

-- two summaries joined, if both are there
abbrev pub joined_options : {S : Type 0} → (S → S → S) → Option S → Option S → Option S
joined_options joined (Some a) (Some b) = Some (joined a b)
joined_options joined (Some a) None = None
joined_options joined None b = None

-- the summary of entries, or of branches: those of the single ones, joined
abbrev pub summary_of : {A S : Type 0} → (S → S → S) → (A → Option S) → List A → Option S
summary_of joined box [] = None
summary_of joined box (e ∷ []) = box e
summary_of joined box (e ∷ f ∷ es) = joined_options joined (box e) (summary_of joined box (f ∷ es))

-- the two keys are those of the summary of the entries
pub record HasCorners {S : Type 0} (joined : S → S → S) (entry_box : Entry → Option S) (keys : S → ℕ × ℕ) (entries : List Entry) (low high : ℕ) : Type 0 where
  pub summary : S
  pub is : summary_of joined entry_box entries ≡ Some summary
  pub corners : keys summary ≡ (low, high)

-- What is made of single entries and of branches, and what these join to, has one size; and the keys of such a summary
-- give it back.
pub record AreBoxes {S : Type 0} (size : S → ℕ) (joined : S → S → S) (entry_box : Entry → Option S) (branch_box : ℕ → ℕ → Option S) (keys : S → ℕ × ℕ)
    (is_made : S → Type 0) (width : ℕ) : Type 0 where
  pub entry_made : (e : Entry) (s : S) → entry_box e ≡ Some s → is_made s
  pub branch_made : (low high : ℕ) (s : S) → branch_box low high ≡ Some s → is_made s
  pub joined_made : (a b : S) → is_made a → is_made b → is_made (joined a b)
  pub one_size : (s : S) → is_made s → size s ≡ width
  pub back : (s : S) (low high : ℕ) → is_made s → keys s ≡ (low, high) → branch_box low high ≡ Some s
