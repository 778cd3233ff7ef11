-- The images of the journal, taken from the disk one after another.
use Rattle.std.proofs.Common.{◌≡◌, ℕ, suc, ◌+◌, ◌*◌, List, [], ◌∷◌, ◌++◌, length, take, drop, refl, ◌∙◌, ap, arith, append_assoc}
use Rattle.std.proofs.lemmas.List.{drop-take, drop-drop, take_at, drop_at}
use Rattle.redo_journal.specs.Header.{page_numbers}
use Rattle.redo_journal.specs.Pages.{page}
use Rattle.redo_journal.specs.Redo.{entries_from, journal_entries}
use Rattle.redo_journal.specs.Change.{page_entries}
use Rattle.redo_journal.proofs.Pages.{page_front}

-- this many pages from a place on are the images there
pub images_read : (image : List ℕ) (i : ℕ) (ns : List ℕ) → page_entries 512 ns (take (512 * length ns) (drop (512 * i) image)) ≡ entries_from image i ns
images_read image i [] = refl
images_read image i (n ∷ ns) =
    let more : 512 * length (n ∷ ns) ≡ 512 + 512 * length ns = omega arith in
    let on : 512 * i + 512 ≡ 512 * suc i = omega arith in
    let behind : drop 512 (take (512 * length (n ∷ ns)) (drop (512 * i) image)) ≡ take (512 * length ns) (drop (512 * suc i) image) =
    ap (λ k. drop 512 (take k (drop (512 * i) image))) more ∙ drop-take 512 (512 * length ns) (drop (512 * i) image)
    ∙ ap (take (512 * length ns)) (drop-drop 512 (512 * i) image ∙ ap (λ k. drop k image) on) in
    ap (λ p. (n, p) ∷ page_entries 512 ns (drop 512 (take (512 * length (n ∷ ns)) (drop (512 * i) image))))
    (page_front image i (512 * length (n ∷ ns)) (omega (arith, more)))
    ∙ ap (λ xs. (n, page image i) ∷ page_entries 512 ns xs) behind
    ∙ ap (λ es. (n, page image i) ∷ es) (images_read image (suc i) ns)

-- the journal by the numbers of its header
pub journal_by : (image header numbers : List ℕ) → header ≡ page image 4 → numbers ≡ page_numbers header → entries_from image 5 numbers ≡ journal_entries image
unfolding journal_entries
journal_by image header numbers is are = ap (entries_from image 5) (are ∙ ap page_numbers is)

-- what was read after the header, into a buffer that was borrowed
pub behind_header : (first read rest more : List ℕ) (count whole : ℕ) → length first ≡ 512 → length read ≡ count → whole ≡ 512 + count
    → drop 512 (take whole (first ++ (read ++ rest) ++ more)) ≡ read
behind_header first read rest more count whole page long is =
    ap (λ k. drop 512 (take k (first ++ (read ++ rest) ++ more))) is
    ∙ drop-take 512 count (first ++ (read ++ rest) ++ more)
    ∙ ap (λ xs. take count (drop 512 xs)) (append_assoc first (read ++ rest) more)
    ∙ ap (take count) (drop_at first ((read ++ rest) ++ more) 512 page ∙ append_assoc read rest more)
    ∙ take_at read (rest ++ more) count long
