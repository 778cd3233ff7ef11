-- What an image stands for, and which changes of its bytes leave it so.
use Rattle.std.proofs.Common.{◌≡◌, ◌⊎◌, inl, inr, ℕ, zero, suc, ◌+◌, ◌<◌, ◌≤◌, Bool, true, false, IsTrue, cond, ◌||◌, ◌==◌, if◌then◌else◌, List, [], ◌∷◌, length, drop, Option, Some, refl, sym, ◌∙◌, ap, subst, arith}
use Rattle.std.specs.Map.{lookup}
use Rattle.std.proofs.lemmas.Bool.Decides.{nat_tests}
use Rattle.redo_journal.proofs.Pages.{gate_same, magic_same, byte_same}
use Rattle.redo_journal.specs.Pages.{page, IsHome}
use Rattle.redo_journal.specs.Header.{image_count, numbers_in, page_numbers, IsHeader, AreHomes}
use Rattle.redo_journal.specs.Redo.{has_open_gate, entries_from, journal_entries, overlay, page_or, redo_page, RecoversTo, is_listed, DiffersWithin}

length-numbers_in : (n : ℕ) (bytes : List ℕ) → length (numbers_in n bytes) ≡ n
length-numbers_in zero bytes = refl
length-numbers_in (suc n) bytes = ap suc (length-numbers_in n (drop 4 bytes))

pub length-page_numbers : (header : List ℕ) → length (page_numbers header) ≡ image_count header
unfolding page_numbers
length-page_numbers header = length-numbers_in (image_count header) (drop 8 header)

-- no page before the homes or of the journal is among a header's pages
other_number : (total m i : ℕ) → IsHome total m → (i ≡ 0) ⊎ ((4 ≤ i) × (i < 85)) → (m == i) ≡ false
other_number total m i home outside = grind (arith, nat_tests)

pub not_among : (total last i : ℕ) (ns : List ℕ) → AreHomes total last ns → (i ≡ 0) ⊎ ((4 ≤ i) × (i < 85)) → is_listed i ns ≡ false
not_among total last i [] homes outside = refl
not_among total last i (m ∷ ns) homes outside =
    ap (λ b. b || is_listed i ns) (other_number total m i homes.0 outside) ∙ not_among total m i ns homes.2 outside

-- pages with some replaced are equal if those that aren't replaced are
over_step : (b : Bool) (p : List ℕ) (found : Option (List ℕ)) (among : Bool) (f g : List ℕ) → ((b || among) ≡ false → f ≡ g)
    → ((among ≡ false → f ≡ g) → page_or found f ≡ page_or found g) → page_or (cond b (Some p) found) f ≡ page_or (cond b (Some p) found) g
over_step true p found among f g same rest = refl
over_step false p found among f g same rest = rest same

pub over_same : (image : List ℕ) (i n : ℕ) (ns : List ℕ) (f g : ℕ → List ℕ) → (is_listed n ns ≡ false → f n ≡ g n)
    → overlay (entries_from image i ns) f n ≡ overlay (entries_from image i ns) g n
over_same image i n [] f g same = same refl
over_same image i n (m ∷ ns) f g same =
    over_step (m == n) (page image i) (lookup (λ k. k == n) (entries_from image (suc i) ns)) (is_listed n ns) (f n) (g n) same
    (over_same image (suc i) n ns f g)

-- images of the same pages
pub images_same : (old new : List ℕ) (i : ℕ) (ns : List ℕ) → ((k : ℕ) → i ≤ k → k < i + length ns → page new k ≡ page old k)
    → entries_from new i ns ≡ entries_from old i ns
images_same old new i [] same = refl
images_same old new i (n ∷ ns) same =
    ap (λ p. (n, p) ∷ entries_from new (suc i) ns) (same i (omega arith) (omega arith))
    ∙ ap (λ es. (n, page old i) ∷ es) (images_same old new (suc i) ns (λ k low high. same k (omega (arith, low)) (omega (arith, high))))

-- the journal is the same if its pages are
pub journal_same : (old new : List ℕ) → image_count (page old 4) ≤ 80 → ((k : ℕ) → 4 ≤ k → k < 85 → page new k ≡ page old k)
    → journal_entries new ≡ journal_entries old
unfolding journal_entries
journal_same old new few same =
    ap (λ h. entries_from new 5 (page_numbers h)) (same 4 (omega arith) (omega arith))
    ∙ images_same old new 5 (page_numbers (page old 4)) (λ k low high. same k (omega (arith, low)) (omega (arith, high, few, length-page_numbers (page old 4))))

-- the same of the journal
pub over_journal : (image : List ℕ) (n : ℕ) (f g : ℕ → List ℕ) → (is_listed n (page_numbers (page image 4)) ≡ false → f n ≡ g n)
    → overlay (journal_entries image) f n ≡ overlay (journal_entries image) g n
unfolding journal_entries
over_journal image n f g same = over_same image 5 n (page_numbers (page image 4)) f g same

-- a page as redone, by the gate
pub redo_opened : (image : List ℕ) (n : ℕ) → has_open_gate image ≡ true → redo_page image n ≡ overlay (journal_entries image) (page image) n
redo_opened image n opened = ap (λ b. if b then overlay (journal_entries image) (page image) n else page image n) opened

pub redo_closed : (image : List ℕ) (n : ℕ) → has_open_gate image ≡ false → redo_page image n ≡ page image n
redo_closed image n closed = ap (λ b. if b then overlay (journal_entries image) (page image) n else page image n) closed

pub home_within : (total n : ℕ) → 85 ≤ total → IsHome total n → n < total
home_within total n least (inl low) = omega (arith, least, low)
home_within total n least (inr high) = high.1

pub home_positive : (total n : ℕ) → IsHome total n → 0 < n
home_positive total n (inl low) = low.0
home_positive total n (inr high) = omega (arith, high)

-- The law: if the gate is open, an image that differs only within the pages that the header names stands for the same.
pub survives : (total : ℕ) (image other marks : List ℕ) (home : ℕ → List ℕ) → RecoversTo total image marks home → IsTrue (has_open_gate image)
    → DiffersWithin total (page_numbers (page image 4)) image other → RecoversTo total other marks home
survives total image other marks home stands opened differs =
    let header = stands.clean opened in
    let kept : (k : ℕ) → 4 ≤ k → k < 85 → page other k ≡ page image k =
    λ k low high. differs.pages_are k (omega (arith, high, stands.least)) (not_among total 0 k (page_numbers (page image 4)) header.homes (inr (low, high))) in
    let mark : page other 0 ≡ page image 0 =
    differs.pages_are 0 (omega (arith, stands.least)) (not_among total 0 0 (page_numbers (page image 4)) header.homes (inl refl)) in
    let journal : journal_entries other ≡ journal_entries image = journal_same image other header.count.1 kept in
    let gates : has_open_gate other ≡ has_open_gate image = ap (λ g. g == 1) (gate_same image other mark) in record {
      least = stands.least;
      size = differs.size ∙ stands.size;
      clean = λ _. subst (IsHeader total) (sym (kept 4 (omega arith) (omega arith))) header;
      marks_are = magic_same image other (omega (arith, stands.size, stands.least)) (omega (arith, differs.size))
          (λ k lt. byte_same image other k (omega (arith, lt)) mark) ∙ stands.marks_are;
      pages_are = λ n is.
          redo_opened other n (gates ∙ opened)
          ∙ ap (λ es. overlay es (page other) n) journal
          ∙ over_journal image n (page other) (page image) (λ free. differs.pages_are n (home_within total n stands.least is) free)
          ∙ sym (redo_opened image n opened)
          ∙ stands.pages_are n is;
    }
