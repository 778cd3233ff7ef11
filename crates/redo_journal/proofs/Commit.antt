-- What is on the disk during a commit.
use Rattle.std.proofs.Common.{◌≡◌, ◌⊎◌, inl, inr, ⊎_elim, slice_index, ℕ, suc, ◌+◌, ◌-◌, ◌*◌, ◌<◌, ◌≤◌, ◌==◌, Bool, true, false, List, [], ◌∷◌, ◌++◌, length, drop, replicate, refl, sym, ◌∙◌, ap, subst, arith, append_assoc}
use Rattle.std.specs.List.{flat_map}
use Rattle.std.specs.Map.{keys_of, lookup}
use Rattle.std.proofs.lemmas.Bool.{false≢true, cases_lt}
use Rattle.std.proofs.lemmas.List.{drop_at, drop-drop}
use Rattle.byteorder.specs.Numbers.{big_number-reads_back}
use Rattle.spb_edge.specs.Crash.{IsTornWrite}
use Rattle.spb_edge.specs.Disk.{overwritten_at}
use Rattle.redo_journal.specs.Pages.{page, magic, IsHome}
use Rattle.redo_journal.specs.Header.{leading_number, number_bytes, image_count, numbers_in, page_numbers, header_page, IsCount, IsHeader, AreHomes}
use Rattle.redo_journal.specs.Redo.{has_open_gate, entries_from, journal_entries, overlay, page_or, RecoversTo}
use Rattle.redo_journal.specs.Change.{joined_images, ArePages}
use Rattle.redo_journal.proofs.Headers.{length-number_bytes, length-header_page}
use Rattle.redo_journal.proofs.Pages.{torn_size, torn_page, torn_gate, torn_magic, drop_laid, page_is, page_behind}
use Rattle.redo_journal.proofs.Home.{journal_same, redo_opened, redo_closed, home_positive, home_within}

-- a number is read back
number_back : (n : ℕ) (rest : List ℕ) → n < 4294967296 → leading_number (number_bytes n ++ rest) ≡ n
unfolding leading_number number_bytes
number_back n rest small = big_number-reads_back 4 n rest small

-- numbers in 32 bits
abbrev pub AreSmall : List ℕ → Type 0
AreSmall [] = Unit {0}
AreSmall (n ∷ ns) = (n < 4294967296) × AreSmall ns

pub homes_small : (total last : ℕ) (ns : List ℕ) → 85 ≤ total → total < 4294967296 → AreHomes total last ns → AreSmall ns
homes_small total last [] least small homes = tt
homes_small total last (n ∷ ns) least small homes = (omega (arith, small, home_within total n least homes.0), homes_small total n ns least small homes.2)

numbers_back : (ns rest : List ℕ) → AreSmall ns → numbers_in (length ns) (flat_map number_bytes ns ++ rest) ≡ ns
numbers_back [] rest small = refl
numbers_back (n ∷ ns) rest small =
    let whole = append_assoc (number_bytes n) (flat_map number_bytes ns) rest in
    ap (λ xs. leading_number xs ∷ numbers_in (length ns) (drop 4 xs)) whole
    ∙ ap (λ m. m ∷ numbers_in (length ns) (drop 4 (number_bytes n ++ (flat_map number_bytes ns ++ rest))))
    (number_back n (flat_map number_bytes ns ++ rest) small.0)
    ∙ ap (λ xs. n ∷ numbers_in (length ns) xs) (drop_at (number_bytes n) (flat_map number_bytes ns ++ rest) 4 (length-number_bytes n))
    ∙ ap (λ ks. n ∷ ks) (numbers_back ns rest small.1)

-- a header that was written is read as its numbers
pub count_back : (ns : List ℕ) → length ns ≤ 80 → image_count (header_page ns) ≡ length ns
unfolding header_page
count_back ns few = number_back (length ns) (replicate 4 0 ++ (flat_map number_bytes ns ++ replicate (504 - 4 * length ns) 0)) (omega (arith, few))

pub named_back : (ns : List ℕ) → length ns ≤ 80 → AreSmall ns → page_numbers (header_page ns) ≡ ns
unfolding page_numbers header_page
named_back ns few small =
    let zeros = replicate (504 - 4 * length ns) 0 in
    ap (λ n. numbers_in n (drop 8 (header_page ns))) (count_back ns few)
    ∙ ap (numbers_in (length ns)) (sym (drop-drop 4 4 (header_page ns))
    ∙ ap (drop 4) (drop_at (number_bytes (length ns)) (replicate 4 0 ++ (flat_map number_bytes ns ++ zeros)) 4 (length-number_bytes (length ns)))
    ∙ drop_at (replicate 4 0) (flat_map number_bytes ns ++ zeros) 4 refl)
    ∙ numbers_back ns zeros small

pub header_good : (total : ℕ) (ns : List ℕ) → 0 < length ns → length ns ≤ 80 → AreSmall ns → AreHomes total 0 ns → IsHeader total (header_page ns)
header_good total ns some few small homes = record {
  count = subst IsCount (sym (count_back ns few)) (some, few);
  homes = subst (AreHomes total 0) (sym (named_back ns few small)) homes;
}

-- pages written one after another are read back
images_back : (image rest : List ℕ) (i : ℕ) (es : List (ℕ × List ℕ)) → ArePages es → drop (512 * i) image ≡ joined_images es ++ rest
    → entries_from image i (keys_of es) ≡ es
images_back image rest i [] whole is = refl
images_back image rest i (e ∷ es) whole is =
    let here : drop (512 * i) image ≡ e.1 ++ (joined_images es ++ rest) = is ∙ append_assoc e.1 (joined_images es) rest in
    ap (λ p. (e.0, p) ∷ entries_from image (suc i) (keys_of es)) (page_is image e.1 (joined_images es ++ rest) i here whole.0)
    ∙ ap (λ l. e ∷ l) (images_back image rest (suc i) es whole.1 (page_behind image e.1 (joined_images es ++ rest) i here whole.0))

-- the journal of an image into which a header and its pages were written
pub journal_back : (image rest : List ℕ) (es : List (ℕ × List ℕ)) → length es ≤ 80 → length (keys_of es) ≡ length es → AreSmall (keys_of es) → ArePages es
    → drop (512 * 4) image ≡ header_page (keys_of es) ++ (joined_images es ++ rest) → (page image 4 ≡ header_page (keys_of es)) × (journal_entries image ≡ es)
unfolding journal_entries
journal_back image rest es few many small whole is =
    let keys_few : length (keys_of es) ≤ 80 = omega (arith, few, many) in
    let long = length-header_page (keys_of es) keys_few in
    let header : page image 4 ≡ header_page (keys_of es) = page_is image (header_page (keys_of es)) (joined_images es ++ rest) 4 is long in (
      header,
      ap (λ h. entries_from image 5 (page_numbers h)) header ∙ ap (entries_from image 5) (named_back (keys_of es) keys_few small)
          ∙ images_back image rest 5 es whole (page_behind image (header_page (keys_of es)) (joined_images es ++ rest) 4 is long),
    )

-- an image whose gate is closed stands for its own pages, and so does each image with the same magic and pages
pub closed_home : (total : ℕ) (image c marks : List ℕ) (home : ℕ → List ℕ) → RecoversTo total image marks home → has_open_gate image ≡ false
    → length c ≡ length image → has_open_gate c ≡ false
    → magic c ≡ magic image → ((n : ℕ) → IsHome total n → page c n ≡ page image n) → RecoversTo total c marks home
closed_home total image c marks home stands closed long closed_too same_magic same = record {
  least = stands.least;
  size = long ∙ stands.size;
  clean = λ opened. absurd (false≢true (sym closed_too ∙ opened));
  marks_are = same_magic ∙ stands.marks_are;
  pages_are = λ n is. redo_closed c n closed_too ∙ same n is ∙ sym (redo_closed image n closed) ∙ stands.pages_are n is;
}

-- while the body is written, nothing is seen of it
pub body_torn : (total count : ℕ) (image c marks : List ℕ) (home : ℕ → List ℕ) → RecoversTo total image marks home → has_open_gate image ≡ false → count ≤ 80
    → IsTornWrite 2048 (512 * (1 + count)) image c → RecoversTo total c marks home × (has_open_gate c ≡ false)
body_torn total count image c marks home stands closed few torn =
    let long : 43520 ≤ length image = omega (arith, stands.size, stands.least) in
    let gates : has_open_gate c ≡ false = ap (λ g. g == 1) (torn_gate 2048 (512 * (1 + count)) image c torn (omega (arith, long)) (omega arith)) ∙ closed in (
      closed_home total image c marks home stands closed (torn_size 2048 (512 * (1 + count)) image c torn (omega (arith, long, few))) gates
          (torn_magic 2048 (512 * (1 + count)) image c torn (omega (arith, long)) (omega arith))
          (λ n is. torn_page 2048 (512 * (1 + count)) image c torn n (omega (arith, stands.size, home_within total n stands.least is)) (apart n is)),
      gates,
    )
  where
    apart : (n : ℕ) → IsHome total n → (512 * n + 512 ≤ 2048) ⊎ (2048 + 512 * (1 + count) ≤ 512 * n)
    apart n (inl low) = inl (omega (arith, low))
    apart n (inr high) = inr (omega (arith, high, few))

-- the journal holds a change, whether its gate is open or not
pub record IsWritten (total : ℕ) (es : List (ℕ × List ℕ)) (image : List ℕ) : Type 0 where
  pub header : IsHeader total (page image 4)
  pub journal_is : journal_entries image ≡ es

-- what a write of the gate leaves of the rest
pub record GateAlone (total : ℕ) (old new : List ℕ) : Type 0 where
  pub size : length new ≡ length old
  pub magic_is : magic new ≡ magic old
  pub mark_is : (k : ℕ) → k < 512 → (k ≡ 16 → ⊥) → slice_index new k ≡ slice_index old k
  pub pages_are : (n : ℕ) → 0 < n → n < total → page new n ≡ page old n

pub gate_torn : (total : ℕ) (old c : List ℕ) → 85 ≤ total → length old ≡ 512 * total → IsTornWrite 16 1 old c → GateAlone total old c
gate_torn total old c least long torn = record {
  size = torn_size 16 1 old c torn (omega (arith, least, long));
  magic_is = torn_magic 16 1 old c torn (omega (arith, least, long)) (omega arith);
  mark_is = λ k lt other. torn.alike k (omega (arith, lt, least, long)) (⊎_elim (λ low. inl low) (λ high. inr (grind (arith, high, other))) (cases_lt k 16));
  pages_are = λ n pos lt. torn_page 16 1 old c torn n (omega (arith, lt, long)) (inr (omega (arith, pos)));
}

-- the journal of an image in which only the gate may differ
pub written_still : (total : ℕ) (es : List (ℕ × List ℕ)) (old c : List ℕ) → 85 ≤ total → GateAlone total old c → IsWritten total es old → IsWritten total es c
written_still total es old c least alone written = record {
  header = subst (IsHeader total) (sym (alone.pages_are 4 (omega arith) (omega (arith, least)))) written.header;
  journal_is = journal_same old c written.header.count.1 (λ k low high. alone.pages_are k (omega (arith, low)) (omega (arith, high, least)))
      ∙ written.journal_is;
}

-- with the gate open, the image stands for the pages with the change
pub opened_home : (total : ℕ) (es : List (ℕ × List ℕ)) (image c marks : List ℕ) (home : ℕ → List ℕ) → RecoversTo total image marks home
    → has_open_gate image ≡ false → IsWritten total es image
    → GateAlone total image c → has_open_gate c ≡ true → RecoversTo total c marks (overlay es home)
opened_home total es image c marks home stands closed written alone opened =
    let still = written_still total es image c stands.least alone written in record {
      least = stands.least;
      size = alone.size ∙ stands.size;
      clean = λ _. still.header;
      marks_are = alone.magic_is ∙ stands.marks_are;
      pages_are = λ n is.
          redo_opened c n opened
          ∙ ap (λ l. overlay l (page c) n) still.journal_is
          ∙ ap (page_or (lookup (λ m. m == n) es)) (alone.pages_are n (home_positive total n is) (home_within total n stands.least is)
          ∙ sym (redo_closed image n closed) ∙ stands.pages_are n is);
    }

-- with the gate closed, for those without
pub still_home : (total : ℕ) (image c marks : List ℕ) (home : ℕ → List ℕ) → RecoversTo total image marks home → has_open_gate image ≡ false
    → GateAlone total image c → has_open_gate c ≡ false → RecoversTo total c marks home
still_home total image c marks home stands closed alone closed_too =
    closed_home total image c marks home stands closed alone.size closed_too alone.magic_is
    (λ n is. alone.pages_are n (home_positive total n is) (home_within total n stands.least is))

-- while the gate is written, the image stands for one or the other
pub gate_opens : (total : ℕ) (es : List (ℕ × List ℕ)) (image c marks : List ℕ) (home : ℕ → List ℕ) → RecoversTo total image marks home
    → has_open_gate image ≡ false → IsWritten total es image
    → IsTornWrite 16 1 image c → RecoversTo total c marks home ⊎ RecoversTo total c marks (overlay es home)
gate_opens total es image c marks home stands closed written torn =
    let alone = gate_torn total image c stands.least stands.size torn in either (has_open_gate c) refl alone
  where
    either : (b : Bool) → has_open_gate c ≡ b → GateAlone total image c → RecoversTo total c marks home ⊎ RecoversTo total c marks (overlay es home)
    either true opened alone = inr (opened_home total es image c marks home stands closed written alone opened)
    either false closed_too alone = inl (still_home total image c marks home stands closed alone closed_too)

-- the whole body was written
pub body_laid : (total : ℕ) (es : List (ℕ × List ℕ)) (header image : List ℕ) → 85 ≤ total → total < 4294967296 → length image ≡ 512 * total → 0 < length es
    → length es ≤ 80
    → length (keys_of es) ≡ length es → AreHomes total 0 (keys_of es) → ArePages es → header ≡ header_page (keys_of es)
    → length (header ++ joined_images es) ≡ 512 * (1 + length es)
    → IsWritten total es (overwritten_at image 2048 (header ++ joined_images es))
    × (page (overwritten_at image 2048 (header ++ joined_images es)) 4 ≡ header_page (keys_of es))
body_laid total es header image least small size some few many homes whole is long =
    let keys_small = homes_small total 0 (keys_of es) least small homes in
    let rest = drop (2048 + length (header ++ joined_images es)) image in
    let behind : drop (512 * 4) (overwritten_at image 2048 (header ++ joined_images es)) ≡ header_page (keys_of es) ++ (joined_images es ++ rest) =
    drop_laid image (header ++ joined_images es) 2048 (omega (arith, least, size)) ∙ append_assoc header (joined_images es) rest
    ∙ ap (λ h. h ++ (joined_images es ++ rest)) is in
    let back = journal_back (overwritten_at image 2048 (header ++ joined_images es)) rest es few many keys_small whole behind in (
      record {
        header = subst (IsHeader total) (sym back.0) (header_good total (keys_of es) (omega (arith, some, many)) (omega (arith, few, many)) keys_small homes);
        journal_is = back.1;
      },
      back.0,
    )
