-- What writes do to the pages of an image. No other file opens the words of pages.
use Rattle.std.proofs.Common.{◌≡◌, ◌⊎◌, inl, inr, ℕ, suc, ◌+◌, ◌*◌, ◌<◌, ◌≤◌, List, [], ◌∷◌, ◌++◌, length, take, drop, slice_index, get_or, sym, ◌∙◌, ap, arith, append_assoc}
use Rattle.std.proofs.Math.Seq.{take-take}
use Rattle.std.proofs.lemmas.List.{take_at, drop_at, drop-drop, get_or-take, get_or-drop, ext_get_or, length-take-le, length-drop}
use Rattle.spb_edge.specs.Crash.{IsTornWrite}
use Rattle.spb_edge.specs.Disk.{overwritten_at}
use Rattle.spb_edge.specs.Tears.{overwritten_at-in}
use Rattle.redo_journal.specs.Pages.{page, gate, magic}

-- parts of two lists that are equal item by item
part_same : (old new : List ℕ) (from count : ℕ) → from + count ≤ length old → length old ≤ length new
    → ((k : ℕ) → k < count → slice_index new (from + k) ≡ slice_index old (from + k)) → take count (drop from new) ≡ take count (drop from old)
part_same old new from count within longer same =
    let long : length (take count (drop from old)) ≡ count = length-take-le count (drop from old) (omega (arith, within, length-drop from old)) in
    let also : length (take count (drop from new)) ≡ count = length-take-le count (drop from new) (omega (arith, within, longer, length-drop from new)) in
    ext_get_or 0 (take count (drop from new)) (take count (drop from old)) (also ∙ sym long) (λ k lt.
    let below : k < count = omega (arith, lt, also) in
    get_or-take count (drop from new) k 0 below ∙ get_or-drop from new k 0 ∙ same k below ∙ sym (get_or-drop from old k 0)
    ∙ sym (get_or-take count (drop from old) k 0 below))

module _ (at count : ℕ) (old new : List ℕ) (torn : IsTornWrite at count old new) where
  -- a write within the size keeps it
  pub torn_size : at + count ≤ length old → length new ≡ length old
  torn_size within = omega (arith, within, torn.no_shorter, torn.no_longer)

  -- pages that the write didn't reach
  pub torn_page : (n : ℕ) → 512 * n + 512 ≤ length old → (512 * n + 512 ≤ at) ⊎ (at + count ≤ 512 * n) → page new n ≡ page old n
  unfolding page
  torn_page n within (inl before) = part_same old new (512 * n) 512 within torn.no_shorter
      (λ k lt. torn.alike (512 * n + k) (omega (arith, lt, within)) (inl (omega (arith, lt, before))))
  torn_page n within (inr behind) = part_same old new (512 * n) 512 within torn.no_shorter
      (λ k lt. torn.alike (512 * n + k) (omega (arith, lt, within)) (inr (omega (arith, behind))))

  -- the gate and the magic
  pub torn_gate : 17 ≤ length old → 17 ≤ at → gate new ≡ gate old
  unfolding gate
  torn_gate long behind = torn.alike 16 long (inl behind)

  pub torn_magic : 8 ≤ length old → 8 ≤ at → magic new ≡ magic old
  unfolding magic
  torn_magic long behind = part_same old new 0 8 long torn.no_shorter (λ k lt. torn.alike (0 + k) (omega (arith, lt, long)) (inl (omega (arith, lt, behind))))

-- a page that was written
pub laid_page : (image bytes : List ℕ) (n : ℕ) → 512 * n + 512 ≤ length image → length bytes ≡ 512 → page (overwritten_at image (512 * n) bytes) n ≡ bytes
unfolding page
laid_page image bytes n within whole =
    ap (take 512) (ap (drop (512 * n)) (append_assoc (take (512 * n) image) bytes (drop (512 * n + length bytes) image))
    ∙ drop_at (take (512 * n) image) (bytes ++ drop (512 * n + length bytes) image) (512 * n) (length-take-le (512 * n) image (omega (arith, within))))
    ∙ take_at bytes (drop (512 * n + length bytes) image) 512 whole

-- the gate that was written
pub laid_gate : (image : List ℕ) (value : ℕ) → 17 ≤ length image → gate (overwritten_at image 16 (value ∷ [])) ≡ value
unfolding gate
laid_gate image value long = overwritten_at-in image 16 (value ∷ []) (omega (arith, long)) 0 (omega arith)

-- what follows the place of a write
pub drop_laid : (image bytes : List ℕ) (at : ℕ) → at ≤ length image → drop at (overwritten_at image at bytes) ≡ bytes ++ drop (at + length bytes) image
drop_laid image bytes at within =
    ap (drop at) (append_assoc (take at image) bytes (drop (at + length bytes) image))
    ∙ drop_at (take at image) (bytes ++ drop (at + length bytes) image) at (length-take-le at image within)

-- a page by the bytes from its place on, and those after it
pub page_is : (image first rest : List ℕ) (n : ℕ) → drop (512 * n) image ≡ first ++ rest → length first ≡ 512 → page image n ≡ first
unfolding page
page_is image first rest n is whole = ap (take 512) is ∙ take_at first rest 512 whole

pub page_behind : (image first rest : List ℕ) (n : ℕ) → drop (512 * n) image ≡ first ++ rest → length first ≡ 512 → drop (512 * suc n) image ≡ rest
page_behind image first rest n is whole =
    let on : 512 * suc n ≡ 512 * n + 512 = omega arith in
    ap (λ m. drop m image) on ∙ sym (drop-drop 512 (512 * n) image) ∙ ap (drop 512) is ∙ drop_at first rest 512 whole

-- what a read of the gate, or of a page, gives
pub gate_read : (image into : List ℕ) → into ≡ take 1 (drop 16 image) → slice_index into 0 ≡ gate image
unfolding gate
gate_read image into is = ap (λ xs. get_or xs 0 0) is ∙ get_or-take 1 (drop 16 image) 0 0 (omega arith) ∙ get_or-drop 16 image 0 0

pub page_read : (image into : List ℕ) (n size : ℕ) → size ≡ 512 → into ≡ take size (drop (512 * n) image) → into ≡ page image n
unfolding page
page_read image into n size whole is = is ∙ ap (λ m. take m (drop (512 * n) image)) whole

-- the bytes of the mark page, by the page
pub byte_of_mark : (image : List ℕ) (k : ℕ) → k < 512 → slice_index (page image 0) k ≡ slice_index image k
unfolding page
byte_of_mark image k lt = get_or-take 512 image k 0 lt

pub byte_same : (old new : List ℕ) (k : ℕ) → k < 512 → page new 0 ≡ page old 0 → slice_index new k ≡ slice_index old k
byte_same old new k lt same = sym (byte_of_mark new k lt) ∙ ap (λ p. slice_index p k) same ∙ byte_of_mark old k lt

pub gate_same : (old new : List ℕ) → page new 0 ≡ page old 0 → gate new ≡ gate old
unfolding gate
gate_same old new same = byte_same old new 16 (omega arith) same

-- the magic, byte by byte
pub magic_same : (old new : List ℕ) → 8 ≤ length old → length old ≤ length new → ((k : ℕ) → k < 8 → slice_index new k ≡ slice_index old k)
    → magic new ≡ magic old
unfolding magic
magic_same old new long longer same = part_same old new 0 8 long longer (λ k lt. same (0 + k) (omega (arith, lt)))

-- a page at the start of more bytes
pub page_front : (image : List ℕ) (n more : ℕ) → 512 ≤ more → take 512 (take more (drop (512 * n) image)) ≡ page image n
unfolding page
page_front image n more fits = take-take 512 more (drop (512 * n) image) fits
