-- Rows, as they are spelled and as they are read.
use Rattle.std.proofs.Common.{◌≡◌, ℕ, zero, suc, ◌+◌, ◌*◌, ◌/◌, ◌^◌, ◌<◌, ◌≤◌, List, [], ◌∷◌, ◌++◌, length, get_or, map, take, drop, refl, sym, ap, ap₂, subst, ◌∙◌, arith}
use Rattle.std.specs.Prelude.{All}
use Rattle.std.specs.List.{flat_map, range_with_len, AllByRecursion}
use Rattle.std.specs.Int.{w32, w64, to_be_bytes, bytes_high_first, byte_at}
use Rattle.std.proofs.Math.Seq.{take-add}
use Rattle.std.proofs.lemmas.List.{append_assoc, drop_at, drop-drop, get_or-drop, length-append, length-take-le, length-drop}
use Rattle.std.proofs.lemmas.List.Elements.{All-nil, All-cons, All-append}
use Rattle.std.proofs.lemmas.Nat.{be_bytes_4, be_bytes_8, mod_below}
use Rattle.byteorder.specs.Endian.{big_number}
use Rattle.byteorder.specs.Numbers.{big_number-reads_back, big_from-take, big_from-lt}
use Rattle.bptree_node.specs.declared.rows.Entry.{Entry}
use Rattle.bptree_node.specs.declared.rows.Branch.{Branch}
use Rattle.bptree_node.specs.Nodes.{long_at, word_at, entry_from, branch_from, entry_bytes, branch_bytes, FitsEntry, FitsBranch}

-- each of the bytes is one
abbrev pub AreBytes : List ℕ → Type 0
AreBytes bytes = (k : ℕ) → get_or bytes k 0 < 256

-- ---- numbers

module _ (n : ℕ) (front rest : List ℕ) (at : ℕ) (long : length front ≡ at) where
  long_reads : n < 2 ^ 64 → long_at at (front ++ (to_be_bytes w64 n ++ rest)) ≡ n
  unfolding long_at
  long_reads fits = ap (big_number 8) (drop_at front (to_be_bytes w64 n ++ rest) at long) ∙ big_number-reads_back 8 n rest fits

  word_reads : n < 2 ^ 32 → word_at at (front ++ (to_be_bytes w32 n ++ rest)) ≡ n
  unfolding word_at
  word_reads fits = ap (big_number 4) (drop_at front (to_be_bytes w32 n ++ rest) at long) ∙ big_number-reads_back 4 n rest fits

taken : (n : ℕ) (bytes : List ℕ) → AreBytes bytes → AreBytes (take n bytes)
taken zero bytes are k = omega arith
taken (suc n) [] are k = are k
taken (suc n) (b ∷ bytes) are zero = are zero
taken (suc n) (b ∷ bytes) are (suc k) = taken n bytes (λ j. are (suc j)) k

module _ (page : List ℕ) (at : ℕ) (are : AreBytes page) where
  behind : AreBytes (drop at page)
  behind k = subst (λ (b : ℕ). b < 256) (sym (get_or-drop at page k 0)) (are (at + k))

  long_fits : long_at at page < 2 ^ 64
  unfolding long_at
  long_fits = big_from-lt 0 8 (drop at page) behind

  word_fits : word_at at page < 2 ^ 32
  unfolding word_at
  word_fits = big_from-lt 0 4 (drop at page) behind

  long_spells : at + 8 ≤ length page → to_be_bytes w64 (long_at at page) ≡ take 8 (drop at page)
  unfolding long_at
  long_spells room =
      let bytes = take 8 (drop at page) in
      be_bytes_8 bytes (big_number 8 (drop at page)) (length-take-le 8 (drop at page) (omega (arith, room, length-drop at page))) (taken 8 (drop at page) behind)
      (sym (big_from-take 0 8 8 (drop at page) (omega arith)) ∙ omega arith)

  word_spells : at + 4 ≤ length page → to_be_bytes w32 (word_at at page) ≡ take 4 (drop at page)
  unfolding word_at
  word_spells room =
      let bytes = take 4 (drop at page) in
      be_bytes_4 bytes (big_number 4 (drop at page)) (length-take-le 4 (drop at page) (omega (arith, room, length-drop at page))) (taken 4 (drop at page) behind)
      (sym (big_from-take 0 4 4 (drop at page) (omega arith)) ∙ omega arith)

digits_fit : (k n : ℕ) → All (λ b. b < 256) (bytes_high_first k n)
digits_fit zero n = All-nil (λ b. b < 256)
digits_fit (suc k) n = All-cons (λ b. b < 256) (byte_at k n) (bytes_high_first k n) (byte_fits k) (digits_fit k n)
  where
    byte_fits : (i : ℕ) → byte_at i n < 256
    byte_fits zero = omega arith
    byte_fits (suc i) = mod_below (n / 256 ^ suc i) 256 (omega arith)

-- ---- rows

pub length-entry_bytes : (e : Entry) → length (entry_bytes e) ≡ 16
unfolding entry_bytes
length-entry_bytes e = refl

pub length-branch_bytes : (b : Branch) → length (branch_bytes b) ≡ 32
unfolding branch_bytes
length-branch_bytes b = refl

-- a piece more in front
longer : (front piece rest : List ℕ) (at size : ℕ) → length front ≡ at → length piece ≡ size
    → (length (front ++ piece) ≡ at + size) × (front ++ (piece ++ rest) ≡ front ++ piece ++ rest)
longer front piece rest at size long is = (length-append front piece ∙ (λ i. long i + is i), sym (append_assoc front piece rest))

pub entry_reads : (e : Entry) (front rest : List ℕ) (at : ℕ) → length front ≡ at → FitsEntry e → entry_from at (front ++ (entry_bytes e ++ rest)) ≡ e
unfolding entry_bytes
entry_reads e front rest at long fits =
    let key = to_be_bytes w64 e.key in
    let id = to_be_bytes w32 e.id in
    let slot = to_be_bytes w32 e.slot in
    let one = longer front key (id ++ (slot ++ rest)) at 8 long refl in
    let two = longer front (key ++ id) (slot ++ rest) at 12 long refl in
    let first : long_at at (front ++ (key ++ (id ++ (slot ++ rest)))) ≡ e.key = long_reads e.key front (id ++ (slot ++ rest)) at long fits.key in
    let second : word_at (at + 8) (front ++ (key ++ (id ++ (slot ++ rest)))) ≡ e.id =
    ap (word_at (at + 8)) one.1 ∙ word_reads e.id (front ++ key) (slot ++ rest) (at + 8) one.0 fits.id in
    let third : word_at (at + 12) (front ++ (key ++ (id ++ (slot ++ rest)))) ≡ e.slot =
    ap (word_at (at + 12)) two.1 ∙ word_reads e.slot (front ++ (key ++ id)) rest (at + 12) two.0 fits.slot in
    λ i. record { key = first i; id = second i; slot = third i }

pub branch_reads : (b : Branch) (front rest : List ℕ) (at : ℕ) → length front ≡ at → FitsBranch b → branch_from at (front ++ (branch_bytes b ++ rest)) ≡ b
unfolding branch_bytes
branch_reads b front rest at long fits =
    let key = to_be_bytes w64 b.key in
    let id = to_be_bytes w32 b.id in
    let child = to_be_bytes w32 b.child in
    let low = to_be_bytes w64 b.low in
    let high = to_be_bytes w64 b.high in
    let whole = front ++ (key ++ (id ++ (child ++ (low ++ (high ++ rest))))) in
    let one = longer front key (id ++ (child ++ (low ++ (high ++ rest)))) at 8 long refl in
    let two = longer front (key ++ id) (child ++ (low ++ (high ++ rest))) at 12 long refl in
    let three = longer front (key ++ id ++ child) (low ++ (high ++ rest)) at 16 long refl in
    let four = longer front (key ++ id ++ child ++ low) (high ++ rest) at 24 long refl in
    let first : long_at at whole ≡ b.key = long_reads b.key front (id ++ (child ++ (low ++ (high ++ rest)))) at long fits.key in
    let second : word_at (at + 8) whole ≡ b.id =
    ap (word_at (at + 8)) one.1 ∙ word_reads b.id (front ++ key) (child ++ (low ++ (high ++ rest))) (at + 8) one.0 fits.id in
    let third : word_at (at + 12) whole ≡ b.child =
    ap (word_at (at + 12)) two.1 ∙ word_reads b.child (front ++ (key ++ id)) (low ++ (high ++ rest)) (at + 12) two.0 fits.child in
    let fourth : long_at (at + 16) whole ≡ b.low =
    ap (long_at (at + 16)) three.1 ∙ long_reads b.low (front ++ (key ++ id ++ child)) (high ++ rest) (at + 16) three.0 fits.low in
    let fifth : long_at (at + 24) whole ≡ b.high =
    ap (long_at (at + 24)) four.1 ∙ long_reads b.high (front ++ (key ++ id ++ child ++ low)) rest (at + 24) four.0 fits.high in
    λ i. record { key = first i; id = second i; child = third i; low = fourth i; high = fifth i }

-- two parts that follow each other
joined_parts : (at m n : ℕ) (page : List ℕ) → take m (drop at page) ++ take n (drop (at + m) page) ≡ take (m + n) (drop at page)
joined_parts at m n page = ap (λ xs. take m (drop at page) ++ take n xs) (sym (drop-drop m at page)) ∙ sym (take-add m n (drop at page))

module _ (page : List ℕ) (at : ℕ) (are : AreBytes page) where
  pub entry_fits : FitsEntry (entry_from at page)
  entry_fits = record { key = long_fits page at are; id = word_fits page (at + 8) are; slot = word_fits page (at + 12) are }

  pub branch_fits : FitsBranch (branch_from at page)
  branch_fits = record {
    key = long_fits page at are;
    id = word_fits page (at + 8) are;
    child = word_fits page (at + 12) are;
    low = long_fits page (at + 16) are;
    high = long_fits page (at + 24) are;
  }

  pub entry_spells : at + 16 ≤ length page → entry_bytes (entry_from at page) ≡ take 16 (drop at page)
  unfolding entry_bytes
  entry_spells room =
      (λ i. long_spells page at are (omega arith) i ++ word_spells page (at + 8) are (omega arith) i ++ word_spells page (at + 12) are (omega arith) i)
      ∙ ap (λ xs. xs ++ take 4 (drop (at + 12) page)) (joined_parts at 8 4 page)
      ∙ joined_parts at 12 4 page

  pub branch_spells : at + 32 ≤ length page → branch_bytes (branch_from at page) ≡ take 32 (drop at page)
  unfolding branch_bytes
  branch_spells room =
      let low = take 8 (drop (at + 16) page) in
      let high = take 8 (drop (at + 24) page) in
      (λ i. long_spells page at are (omega arith) i ++ word_spells page (at + 8) are (omega arith) i ++ word_spells page (at + 12) are (omega arith) i
      ++ long_spells page (at + 16) are (omega arith) i ++ long_spells page (at + 24) are (omega arith) i)
      ∙ ap (λ xs. xs ++ take 4 (drop (at + 12) page) ++ low ++ high) (joined_parts at 8 4 page)
      ∙ ap (λ xs. xs ++ low ++ high) (joined_parts at 12 4 page)
      ∙ ap (λ xs. xs ++ high) (joined_parts at 16 8 page)
      ∙ joined_parts at 24 8 page

pub entry_bytes_fit : (e : Entry) → All (λ b. b < 256) (entry_bytes e)
unfolding entry_bytes
entry_bytes_fit e =
    let P = λ (b : ℕ). b < 256 in
    All-append P (to_be_bytes w64 e.key ++ to_be_bytes w32 e.id) (to_be_bytes w32 e.slot)
    (All-append P (to_be_bytes w64 e.key) (to_be_bytes w32 e.id) (digits_fit 8 e.key) (digits_fit 4 e.id)) (digits_fit 4 e.slot)

pub branch_bytes_fit : (b : Branch) → All (λ b. b < 256) (branch_bytes b)
unfolding branch_bytes
branch_bytes_fit b =
    let P = λ (b : ℕ). b < 256 in
    let key = to_be_bytes w64 b.key in
    let id = to_be_bytes w32 b.id in
    let child = to_be_bytes w32 b.child in
    let low = to_be_bytes w64 b.low in
    let high = to_be_bytes w64 b.high in
    All-append P (key ++ id ++ child ++ low) high
    (All-append P (key ++ id ++ child) low
    (All-append P (key ++ id) child (All-append P key id (digits_fit 8 b.key) (digits_fit 4 b.id)) (digits_fit 4 b.child)) (digits_fit 8 b.low))
    (digits_fit 8 b.high)

-- ---- rows one after another

module _ {R : Type 0} (bytes_of : R → List ℕ) (size : ℕ) where
  pub rows_long : ((r : R) → length (bytes_of r) ≡ size) → (rows : List R) → length (flat_map bytes_of rows) ≡ size * length rows
  rows_long sized [] = omega arith
  rows_long sized (r ∷ rows) = length-append (bytes_of r) (flat_map bytes_of rows) ∙ omega (arith, sized r, rows_long sized rows)

  pub rows_are_bytes : ((r : R) → All (λ b. b < 256) (bytes_of r)) → (rows : List R) → All (λ b. b < 256) (flat_map bytes_of rows)
  rows_are_bytes are [] = All-nil (λ b. b < 256)
  rows_are_bytes are (r ∷ rows) = All-append (λ b. b < 256) (bytes_of r) (flat_map bytes_of rows) (are r) (rows_are_bytes are rows)

  module _ (from : ℕ → List ℕ → R) (at : ℕ) where
    -- rows that were spelled are read back
    pub rows_read : (Fits : R → Type 0) → ((r : R) → length (bytes_of r) ≡ size)
        → ((r : R) (front rest : List ℕ) (place : ℕ) → length front ≡ place → Fits r → from place (front ++ (bytes_of r ++ rest)) ≡ r)
        → (rows : List R) (front rest : List ℕ) (k : ℕ) → length front ≡ at + size * k → AllByRecursion Fits rows
        → map (λ i. from (at + size * i) (front ++ (flat_map bytes_of rows ++ rest))) (range_with_len k (length rows)) ≡ rows
    rows_read Fits sized reads [] front rest k long fit = refl
    rows_read Fits sized reads (r ∷ rows) front rest k long fit =
        let behind = flat_map bytes_of rows ++ rest in
        let here : front ++ (flat_map bytes_of (r ∷ rows) ++ rest) ≡ front ++ (bytes_of r ++ behind) =
        ap (λ xs. front ++ xs) (append_assoc (bytes_of r) (flat_map bytes_of rows) rest) in
        let on : length (front ++ bytes_of r) ≡ at + size * (k + 1) = length-append front (bytes_of r) ∙ omega (arith, long, sized r) in
        ap₂ (λ (x : R) (xs : List R). x ∷ xs) (ap (from (at + size * k)) here ∙ reads r front behind (at + size * k) long fit.0)
        (ap (λ xs. map (λ i. from (at + size * i) xs) (range_with_len (k + 1) (length rows))) (here ∙ sym (append_assoc front (bytes_of r) behind))
        ∙ rows_read Fits sized reads rows (front ++ bytes_of r) rest (k + 1) on fit.1)

    -- rows that were read are spelled as they stand
    pub rows_spell : (page : List ℕ) → ((place : ℕ) → place + size ≤ length page → bytes_of (from place page) ≡ take size (drop place page))
        → (n k : ℕ) → at + size * (k + n) ≤ length page
        → flat_map bytes_of (map (λ i. from (at + size * i) page) (range_with_len k n)) ≡ take (size * n) (drop (at + size * k) page)
    rows_spell page spells zero k room = let none : size * 0 ≡ 0 = omega arith in ap (λ m. take m (drop (at + size * k) page)) (sym none)
    rows_spell page spells (suc n) k room =
        let place = at + size * k in
        let next : at + size * (k + 1) ≡ place + size = omega arith in
        let whole : size + size * n ≡ size * suc n = omega arith in
        (λ i. spells place (omega (arith, room)) i ++ rows_spell page spells n (k + 1) (omega (arith, room)) i)
        ∙ ap (λ m. take size (drop place page) ++ take (size * n) (drop m page)) next
        ∙ joined_parts place size (size * n) page
        ∙ ap (λ m. take m (drop place page)) whole
