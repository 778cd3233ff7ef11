-- The pages of a file as they are written, piece by piece. No other file opens the word `page`.
use Rattle.std.proofs.Common.{◌≡◌, inl, inr, ℕ, zero, suc, ◌+◌, ◌-◌, ◌*◌, ◌<◌, ◌≤◌, List, [], ◌∷◌, ◌++◌, length, take, drop, slice_index, refl, sym, ◌∙◌, ap, subst, arith, append_assoc, append-nil}
use Rattle.std.proofs.lemmas.Bool.{cases_lt}
use Rattle.std.proofs.lemmas.List.{take_at, drop-drop, drop-take, get_or-replicate, length-replicate, length-take-le}
use Rattle.std.proofs.Math.Seq.{take-take}
use borrow.Rule.Slice.PartMut.{put_mid}
use Rattle.spb_edge.specs.Crash.{IsTornWrite}
use Rattle.spb_edge.specs.Disk.{overwritten_at}
use Rattle.spb_edge.specs.Tears.{length-overwritten_at, torn-overwritten_at}
use Rattle.redo_journal.specs.Pages.{page}
use Rattle.redo_journal.proofs.Pages.{torn_page, torn_size, laid_page, drop_laid}
use Rattle.store_format.specs.declared.new_file.NewFile.{NewFile}
use Rattle.store_format.specs.NewFile.{zero_page, new_page, HasPages, IsUnsigned}

-- ---- the first page

-- a write over nothing
over_nothing : (image bytes : List ℕ) → length image ≡ 0 → overwritten_at image 0 bytes ≡ bytes
over_nothing [] bytes none = ap (λ rest. bytes ++ rest) (dropped (0 + length bytes)) ∙ append-nil bytes
  where
    dropped : (n : ℕ) → drop {A = ℕ} n [] ≡ []
    dropped zero = refl
    dropped (suc n) = refl
over_nothing (b ∷ image) bytes none = absurd (omega (arith, none))

pub first_page : (image new : List ℕ) → length image ≡ 0 → new ≡ overwritten_at image 0 zero_page → new ≡ zero_page
first_page image new none is = is ∙ over_nothing image zero_page none

length-zero_page : length zero_page ≡ 512
unfolding zero_page
length-zero_page = length-replicate {A = ℕ} 512 0

pub zero_page-zero : (k : ℕ) → k < 512 → slice_index zero_page k ≡ 0
unfolding zero_page
zero_page-zero k lt = get_or-replicate 512 k 0 0 lt

pub zero_page-unsigned : IsUnsigned zero_page
zero_page-unsigned = (omega (arith, length-zero_page), zero_page-zero 0 (omega arith))

whole_page : (bytes : List ℕ) → length bytes ≡ 512 → page bytes 0 ≡ bytes
unfolding page
whole_page bytes whole = ap (take 512) (sym (append-nil bytes)) ∙ take_at bytes [] 512 whole

pub mark_page : (file : NewFile) → new_page file 0 ≡ zero_page
unfolding new_page
mark_page file = refl

pub begun : (file : NewFile) → HasPages 1 file zero_page
begun file = record { size = length-zero_page; pages_are = first }
  where
    first : (n : ℕ) → n < 1 → page zero_page n ≡ new_page file n
    first zero lt = whole_page zero_page length-zero_page ∙ sym (mark_page file)
    first (suc n) lt = absurd (omega (arith, lt))

-- ---- a page laid among others

-- a part that was replaced, as a write
put_overwrites : (at count : ℕ) (old part : List ℕ) → at ≤ length old → length part ≡ count → put_mid at count old part ≡ overwritten_at old at part
put_overwrites at count old part within long =
    ap (λ rest. take at old ++ (part ++ rest)) (drop-drop count at old ∙ ap (λ n. drop (at + n) old) (sym long))
    ∙ sym (append_assoc (take at old) part (drop (at + length part) old))

pub laid : (file : NewFile) (first i count : ℕ) (old part : List ℕ) → 512 * i + 512 ≤ length old → count ≡ 512 → length part ≡ count
    → part ≡ new_page file (first + i)
    → ((j : ℕ) → j < i → page old j ≡ new_page file (first + j))
    → ((j : ℕ) → j < i + 1 → page (put_mid (512 * i) count old part) j ≡ new_page file (first + j)) × (length (put_mid (512 * i) count old part) ≡ length old)
laid file first i count old part within fits long is before =
    let whole : length part ≡ 512 = long ∙ fits in
    let starts : 512 * i ≤ length old = omega (arith, within) in
    let same = put_overwrites (512 * i) count old part starts long in
    let torn : IsTornWrite (512 * i) 512 old (overwritten_at old (512 * i) part) =
    subst (λ (m : ℕ). IsTornWrite (512 * i) m old (overwritten_at old (512 * i) part)) whole (torn-overwritten_at old (512 * i) part starts) in
    let each : (j : ℕ) → j < i + 1 → page (overwritten_at old (512 * i) part) j ≡ new_page file (first + j) =
    λ j lt. elim (cases_lt j i) [
      | inl less ↦ torn_page (512 * i) 512 old (overwritten_at old (512 * i) part) torn j (omega (arith, less, within)) (inl (omega (arith, less))) ∙ before j less
      | inr high ↦
          let here : j ≡ i = omega (arith, high, lt) in
          ap (page (overwritten_at old (512 * i) part)) here ∙ laid_page old part i within whole ∙ is ∙ ap (λ m. new_page file (first + m)) (sym here)
    ] in (
      λ j lt. ap (λ image. page image j) same ∙ each j lt,
      ap length same ∙ torn_size (512 * i) 512 old (overwritten_at old (512 * i) part) torn (omega (arith, within)),
    )

-- ---- a piece written at the end

-- a page within the first bytes
page_taken : (bytes : List ℕ) (count i : ℕ) → i < count → page (take (512 * count) bytes) i ≡ page bytes i
unfolding page
page_taken bytes count i lt =
    let more : 512 * count ≡ 512 * i + (512 + 512 * (count - suc i)) = omega (arith, lt) in
    ap (λ n. take 512 (drop (512 * i) (take n bytes))) more
    ∙ ap (take 512) (drop-take (512 * i) (512 + 512 * (count - suc i)) bytes)
    ∙ take-take 512 (512 + 512 * (count - suc i)) (drop (512 * i) bytes) (omega arith)

-- a page by the bytes from another one's place on
page_on : (image : List ℕ) (next i : ℕ) → page image (next + i) ≡ page (drop (512 * next) image) i
unfolding page
page_on image next i =
    let on : 512 * (next + i) ≡ 512 * next + 512 * i = omega arith in
    ap (take 512) (ap (λ n. drop n image) on ∙ sym (drop-drop (512 * i) (512 * next) image))

-- a page of what was written at the end
page_grown : (old bytes : List ℕ) (next count i : ℕ) → length old ≡ 512 * next → length bytes ≡ 512 * count → i < count
    → page (overwritten_at old (512 * next) bytes) (next + i) ≡ page bytes i
page_grown old bytes next count i size long lt =
    let rest = drop (512 * next + length bytes) old in
    page_on (overwritten_at old (512 * next) bytes) next i
    ∙ ap (λ b. page b i) (drop_laid old bytes (512 * next) (omega (arith, size)))
    ∙ sym (page_taken (bytes ++ rest) count i lt)
    ∙ ap (λ b. page b i) (take_at bytes rest (512 * count) long)

pub grown : (file : NewFile) (next count : ℕ) (old new piece : List ℕ) → HasPages next file old → 512 * count ≤ length piece
    → ((i : ℕ) → i < count → page piece i ≡ new_page file (next + i)) → new ≡ overwritten_at old (512 * next) (take (512 * count) piece)
    → HasPages (next + count) file new
grown file next count old new piece so_far room laid is =
    let bytes = take (512 * count) piece in
    let long : length bytes ≡ 512 * count = length-take-le (512 * count) piece room in
    let starts : 512 * next ≤ length old = omega (arith, so_far.size) in
    let written = overwritten_at old (512 * next) bytes in
    let torn : IsTornWrite (512 * next) (length bytes) old written = torn-overwritten_at old (512 * next) bytes starts in
    let each : (n : ℕ) → n < next + count → page written n ≡ new_page file n =
    λ n lt. elim (cases_lt n next) [
      | inl less ↦ torn_page (512 * next) (length bytes) old written torn n (omega (arith, less, so_far.size)) (inl (omega (arith, less)))
          ∙ so_far.pages_are n less
      | inr high ↦
          let on : n ≡ next + (n - next) = omega (arith, high) in
          let few : n - next < count = omega (arith, high, lt) in
          ap (page written) on ∙ page_grown old bytes next count (n - next) so_far.size long few
          ∙ page_taken piece count (n - next) few ∙ laid (n - next) few ∙ ap (new_page file) (sym on)
    ] in
    subst (HasPages (next + count) file) (sym is) (record {
      size = length-overwritten_at old (512 * next) bytes starts ∙ omega (arith, long, so_far.size);
      pages_are = each;
    })

-- a write behind the first byte leaves it
pub unsigned_still : (at count : ℕ) (old new : List ℕ) → 0 < at → IsTornWrite at count old new → IsUnsigned old → IsUnsigned new
unsigned_still at count old new behind torn unsigned =
    (omega (arith, unsigned.0, torn.no_shorter), torn.alike 0 unsigned.0 (inl behind) ∙ unsigned.1)
