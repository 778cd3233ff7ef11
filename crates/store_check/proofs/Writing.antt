-- The bytes of a profile page read as what they were written for.
use Rattle.std.proofs.Common.{◌≡◌, inl, inr, ℕ, zero, suc, ◌+◌, ◌*◌, ◌^◌, ◌<◌, true, List, [], ◌∷◌, ◌++◌, length, take, drop, replicate, refl, sym, ap, subst, ◌∙◌, arith}
use Rattle.std.specs.Prelude.{◌&&◌, IsTrue, Option, Some, None, option_and_then, slice_index, slice_index_or, if◌then◌else◌}
use Rattle.std.specs.List.{flat_map}
use Rattle.std.proofs.lemmas.Bool.{cases_eq}
use Rattle.std.proofs.lemmas.Bool.Decides.{nat_tests}
use Rattle.std.proofs.lemmas.List.{append_assoc, take_at, drop_at, drop-drop, get_or-append_right, length-append, length-take-le, length-drop, take_all}
use Rattle.std.proofs.lemmas.Slice.{take-put_mid}
use borrow.Rule.Slice.PartMut.{put_mid}
use Rattle.byteorder.specs.Numbers.{length-bytes_high_first, big_number-reads_back}
use Rattle.page_laws.specs.declared.root.Root.{Root}
use Rattle.page_laws.specs.Pages.{are_zero}
use Rattle.redo_journal.specs.Header.{leading_number, number_bytes}
use Rattle.metrics_builtin.specs.Space.{fits}
use Rattle.store_check.specs.declared.profile.Profile.{Profile}
use Rattle.store_check.specs.Profile.{is_root, kept_root, root_in, are_paired, kept_pair, trees_in, trees_at, roots_in, no_root, number_at, format_in, is_width, space_of, kept_space, space_in, curve_of, are_in_range, has_zeros, with_numbers, fields_in, profile_in, IsInRange}

read_back : (n : ℕ) (rest : List ℕ) → n < 2 ^ 32 → leading_number (number_bytes n ++ rest) ≡ n
unfolding leading_number number_bytes
read_back n rest fits = big_number-reads_back 4 n rest fits

length-number_bytes : (n : ℕ) → length (number_bytes n) ≡ 4
unfolding number_bytes
length-number_bytes n = length-bytes_high_first 4 n

-- ---- roots

-- the bytes of a root
abbrev pub root_bytes : Root → List ℕ
root_bytes root = number_bytes root.page ++ (root.height ∷ 0 ∷ 0 ∷ 0 ∷ [])

pub length-root_bytes : (root : Root) → length (root_bytes root) ≡ 8
length-root_bytes root = length-append (number_bytes root.page) (root.height ∷ 0 ∷ 0 ∷ 0 ∷ []) ∙ omega (arith, length-number_bytes root.page)

root_read : (root : Root) (rest : List ℕ) → root.page < 2 ^ 32 → IsTrue (is_root root) → root_in (root_bytes root ++ rest) ≡ Some root
unfolding root_in are_zero
root_read root rest fits is =
    let digits = number_bytes root.page in
    let tail = root.height ∷ 0 ∷ 0 ∷ 0 ∷ rest in
    let four = length-number_bytes root.page in
    let number : leading_number (digits ++ tail) ≡ root.page = read_back root.page tail fits in
    let height : slice_index (digits ++ tail) 4 ≡ root.height = get_or-append_right digits tail 4 4 0 four (omega arith) in
    let zeros : take 3 (drop 5 (digits ++ tail)) ≡ 0 ∷ 0 ∷ 0 ∷ [] =
    ap (take 3) (sym (drop-drop 1 4 (digits ++ tail)) ∙ ap (drop 1) (drop_at digits tail 4 four)) in
    ap root_in (append_assoc digits (root.height ∷ 0 ∷ 0 ∷ 0 ∷ []) rest)
    ∙ (λ i. kept_root (record { page = number i; height = height i }) (zeros i))
    ∙ (λ i. if is i && true then Some root else None)

-- the roots of two trees are read back
pub trees_read : (curve ids : Root) (rest : List ℕ) → curve.page < 2 ^ 32 → ids.page < 2 ^ 32 → IsTrue (is_root curve) → IsTrue (is_root ids)
    → IsTrue (are_paired curve ids) → trees_in (root_bytes curve ++ root_bytes ids ++ rest) ≡ Some (curve, ids)
unfolding trees_in
trees_read curve ids rest small few first second paired =
    let behind = root_bytes ids ++ rest in
    let one : root_in (root_bytes curve ++ behind) ≡ Some curve = root_read curve behind small first in
    let two : root_in (drop 8 (root_bytes curve ++ behind)) ≡ Some ids =
    ap root_in (drop_at (root_bytes curve) behind 8 (length-root_bytes curve)) ∙ root_read ids rest few second in
    ap trees_in (append_assoc (root_bytes curve) (root_bytes ids) rest)
    ∙ (λ i. option_and_then (λ c. option_and_then (kept_pair c) (two i)) (one i))
    ∙ (λ i. if paired i then Some (curve, ids) else None)

-- the roots of one collection more
module _ (bytes more : List ℕ) (c : ℕ) (long : length bytes ≡ 64) (below : c < 4) (size : length more ≡ 16) where
  grown : take (16 * (c + 1)) (put_mid (16 * c) 16 bytes more) ≡ take (16 * c) bytes ++ more
  grown = take-put_mid (16 * c) 16 bytes more (16 * (c + 1)) (omega (arith, size)) (omega (arith, long, below))

  one_more : (of : ℕ → Option (Root × Root)) → ((d : ℕ) (rest : List ℕ) → d < c → trees_in (drop (16 * d) (take (16 * c) bytes ++ rest)) ≡ of d)
      → ((rest : List ℕ) → trees_in (more ++ rest) ≡ of c)
      → (d : ℕ) (rest : List ℕ) → d < c + 1 → trees_in (drop (16 * d) (take (16 * (c + 1)) (put_mid (16 * c) 16 bytes more) ++ rest)) ≡ of d
  one_more of before here d rest less = elim (cases_eq d c) [
    | inl same ↦ ap (λ xs. trees_in (drop (16 * d) (xs ++ rest))) grown
        ∙ ap (λ xs. trees_in (drop (16 * d) xs)) (append_assoc (take (16 * c) bytes) more rest)
        ∙ ap trees_in (drop_at (take (16 * c) bytes) (more ++ rest) (16 * d) (front ∙ omega (arith, same)))
        ∙ here rest ∙ ap of (sym same)
    | inr other ↦ ap (λ xs. trees_in (drop (16 * d) (xs ++ rest))) grown
        ∙ ap (λ xs. trees_in (drop (16 * d) xs)) (append_assoc (take (16 * c) bytes) more rest)
        ∙ before d (more ++ rest) (omega (arith, less, other))
  ]
    where
      front : length (take (16 * c) bytes) ≡ 16 * c
      front = length-take-le (16 * c) bytes (omega (arith, long, below))

  long_still : length (put_mid (16 * c) 16 bytes more) ≡ 64
  long_still =
      let rest = drop 16 (drop (16 * c) bytes) in
      length-append (take (16 * c) bytes) (more ++ rest)
      ∙ omega (arith, length-take-le (16 * c) bytes (omega (arith, long, below)), long, size, below, length-append more rest, length-drop 16 (drop (16 * c) bytes), length-drop (16 * c) bytes)

-- the bytes are so many, and those so far read as what belongs there
abbrev pub ReadSoFar : (ℕ → Option (Root × Root)) → ℕ → List ℕ → Type 0
ReadSoFar of c bytes = (length bytes ≡ 64) × ((d : ℕ) (rest : List ℕ) → d < c → trees_in (drop (16 * d) (take (16 * c) bytes ++ rest)) ≡ of d)

pub reads_on : (of : ℕ → Option (Root × Root)) (c k : ℕ) (bytes more : List ℕ) → c < 4 → k ≡ 16 → length more ≡ 16 → ReadSoFar of c bytes
    → ((rest : List ℕ) → trees_in (more ++ rest) ≡ of c) → ReadSoFar of (c + 1) (put_mid (16 * c) k bytes more)
reads_on of c k bytes more below is size before here = subst (λ m. ReadSoFar of (c + 1) (put_mid (16 * c) m bytes more)) (sym is)
    (long_still bytes more c before.0 below size, one_more bytes more c before.0 below size of before.1 here)

-- at the end
pub reads_all : (of : ℕ → Option (Root × Root)) (n : ℕ) (bytes : List ℕ) → n ≡ 4 → ReadSoFar of n bytes
    → (c : ℕ) (rest : List ℕ) → c < 4 → trees_in (drop (16 * c) (bytes ++ rest)) ≡ of c
reads_all of n bytes all so_far c rest below =
    ap (λ xs. trees_in (drop (16 * c) (xs ++ rest))) (sym (take_all (16 * n) bytes (omega (arith, so_far.0, all))))
    ∙ so_far.1 c rest (omega (arith, below, all))

-- ---- the page

next : (at count : ℕ) (xs front back : List ℕ) → drop at xs ≡ front ++ back → length front ≡ count → drop (at + count) xs ≡ back
next at count xs front back is long = sym (drop-drop count at xs) ∙ ap (drop count) is ∙ drop_at front back count long

zeros_taken : (k n : ℕ) → are_zero (take k (replicate n 0)) ≡ true
unfolding are_zero
zeros_taken zero n = refl
zeros_taken (suc k) zero = refl
zeros_taken (suc k) (suc n) = zeros_taken k n

listed : (xs : List Root) → length xs ≡ 8
    → slice_index_or xs 0 no_root ∷ slice_index_or xs 1 no_root ∷ slice_index_or xs 2 no_root ∷ slice_index_or xs 3 no_root ∷ slice_index_or xs 4 no_root
    ∷ slice_index_or xs 5 no_root ∷ slice_index_or xs 6 no_root ∷ slice_index_or xs 7 no_root ∷ [] ≡ xs
listed [] long = absurd (omega (arith, long))
listed (a ∷ []) long = absurd (omega (arith, long))
listed (a ∷ b ∷ []) long = absurd (omega (arith, long))
listed (a ∷ b ∷ c ∷ []) long = absurd (omega (arith, long))
listed (a ∷ b ∷ c ∷ d ∷ []) long = absurd (omega (arith, long))
listed (a ∷ b ∷ c ∷ d ∷ e ∷ []) long = absurd (omega (arith, long))
listed (a ∷ b ∷ c ∷ d ∷ e ∷ f ∷ []) long = absurd (omega (arith, long))
listed (a ∷ b ∷ c ∷ d ∷ e ∷ f ∷ g ∷ []) long = absurd (omega (arith, long))
listed (a ∷ b ∷ c ∷ d ∷ e ∷ f ∷ g ∷ h ∷ []) long = refl
listed (a ∷ b ∷ c ∷ d ∷ e ∷ f ∷ g ∷ h ∷ x ∷ xs) long = absurd (omega (arith, long))

numbers_fit : (p : Profile) → IsInRange p → are_in_range p.space p.pivots p.bits p.cap ≡ true
unfolding are_in_range
numbers_fit p range = grind (arith, nat_tests, range.some_pivots, range.few_pivots, range.width, range.few_bits, range.some_cap, range.few)

module _ (p : Profile) (kind number first second : ℕ) (trees rest : List ℕ) where
  abbrev behind : List ℕ
  behind = replicate 8 0 ++ (trees ++ rest)

  abbrev numbers : List ℕ
  numbers = number_bytes first ++ (number_bytes second ++ (number_bytes p.cap ++ (number_bytes 1 ++ behind)))

  abbrev whole : List ℕ
  whole = 0 ∷ 1 ∷ kind ∷ number ∷ p.pivots ∷ p.bits ∷ 0 ∷ 0 ∷ numbers

  at_second : drop 12 whole ≡ number_bytes second ++ (number_bytes p.cap ++ (number_bytes 1 ++ behind))
  at_second = next 8 4 whole (number_bytes first) (number_bytes second ++ (number_bytes p.cap ++ (number_bytes 1 ++ behind))) refl (length-number_bytes first)

  at_cap : drop 16 whole ≡ number_bytes p.cap ++ (number_bytes 1 ++ behind)
  at_cap = next 12 4 whole (number_bytes second) (number_bytes p.cap ++ (number_bytes 1 ++ behind)) at_second (length-number_bytes second)

  at_width : drop 20 whole ≡ number_bytes 1 ++ behind
  at_width = next 16 4 whole (number_bytes p.cap) (number_bytes 1 ++ behind) at_cap (length-number_bytes p.cap)

  at_zeros : drop 24 whole ≡ behind
  at_zeros = next 20 4 whole (number_bytes 1) behind at_width (length-number_bytes 1)

  at_roots : drop 32 whole ≡ trees ++ rest
  at_roots = next 24 8 whole (replicate 8 0) (trees ++ rest) at_zeros refl

  space_read : first < 2 ^ 32 → second < 2 ^ 32 → space_of kind first second ≡ Some p.space → IsTrue (fits p.space) → space_in whole ≡ Some p.space
  unfolding space_in
  space_read small few is fit =
      let one : number_at 8 whole ≡ first = read_back first (number_bytes second ++ (number_bytes p.cap ++ (number_bytes 1 ++ behind))) small in
      let two : number_at 12 whole ≡ second = ap leading_number at_second ∙ read_back second (number_bytes p.cap ++ (number_bytes 1 ++ behind)) few in
      (λ i. option_and_then kept_space (space_of kind (one i) (two i)))
      ∙ ap (option_and_then kept_space) is
      ∙ (λ i. if fit i then Some p.space else None)

  zeros_read : length trees ≡ 64 → ((k : ℕ) → are_zero (take k rest) ≡ true) → has_zeros whole ≡ true
  unfolding has_zeros are_zero
  zeros_read long zeros =
      let middle : take 8 (drop 24 whole) ≡ replicate 8 0 = ap (take 8) at_zeros ∙ take_at (replicate 8 0) (trees ++ rest) 8 refl in
      let last : drop 96 whole ≡ rest = next 32 64 whole trees rest at_roots long in
      (λ i. true && are_zero (middle i) && are_zero (take 416 (last i))) ∙ zeros 416

  -- the roots of a collection
  abbrev root_of : ℕ → Root
  root_of k = slice_index_or p.roots k no_root

  module _ (read : (c : ℕ) (more : List ℕ) → c < 4 → trees_in (drop (16 * c) (trees ++ more)) ≡ Some (root_of c, root_of (4 + c))) where
    later : (c : ℕ) → c < 4 → trees_at (32 + 16 * c) whole ≡ Some (root_of c, root_of (4 + c))
    later c below = ap trees_in (sym (drop-drop (16 * c) 32 whole) ∙ ap (drop (16 * c)) at_roots) ∙ read c rest below

    roots_read : length p.roots ≡ 8 → roots_in whole ≡ Some p.roots
    unfolding roots_in
    roots_read eight =
        let one = later 0 (omega arith) in
        let two = later 1 (omega arith) in
        let three = later 2 (omega arith) in
        let four = later 3 (omega arith) in
        (λ i. option_and_then (λ a. option_and_then (λ b. option_and_then (λ c. option_and_then (λ d.
        Some (a.0 ∷ b.0 ∷ c.0 ∷ d.0 ∷ a.1 ∷ b.1 ∷ c.1 ∷ d.1 ∷ [])) (four i)) (three i)) (two i)) (one i))
        ∙ ap Some (listed p.roots eight)

  numbers_read : p.cap < 2 ^ 32 → IsInRange p → has_zeros whole ≡ true → with_numbers whole p.space p.curve p.roots ≡ Some p
  numbers_read few range zeros =
      let cap : number_at 16 whole ≡ p.cap = ap leading_number at_cap ∙ read_back p.cap (number_bytes 1 ++ behind) few in
      let width : number_at 20 whole ≡ 1 = ap leading_number at_width ∙ read_back 1 behind (omega arith) in
      let fit = numbers_fit p range in
      (λ i. if are_in_range p.space p.pivots p.bits (cap i) && is_width (width i) && zeros i
      then Some (record { space = p.space; curve = p.curve; pivots = p.pivots; bits = p.bits; cap = cap i; roots = p.roots }) else None)
      ∙ (λ i. if fit i && true && true then Some p else None)

  fields_read : space_in whole ≡ Some p.space → curve_of number ≡ Some p.curve → roots_in whole ≡ Some p.roots → with_numbers whole p.space p.curve p.roots ≡ Some p
      → profile_in whole ≡ Some p
  unfolding profile_in fields_in format_in
  fields_read space curve roots all =
      (λ i. option_and_then (λ s. option_and_then (λ c. option_and_then (with_numbers whole s c) (roots i)) (curve i)) (space i)) ∙ all

-- the page that is written reads as the profile
pub page_read : (p : Profile) (kind number first second : ℕ) (numbers_are trees page : List ℕ) → IsInRange p → space_of kind first second ≡ Some p.space
    → curve_of number ≡ Some p.curve → numbers_are ≡ flat_map number_bytes (first ∷ second ∷ p.cap ∷ 1 ∷ []) → (first < 2 ^ 32) × (second < 2 ^ 32) × (p.cap < 2 ^ 32)
    → length trees ≡ 64
    → ((c : ℕ) (more : List ℕ) → c < 4 → trees_in (drop (16 * c) (trees ++ more)) ≡ Some (slice_index_or p.roots c no_root, slice_index_or p.roots (4 + c) no_root))
    → page ≡ (0 ∷ 1 ∷ kind ∷ number ∷ p.pivots ∷ p.bits ∷ 0 ∷ 0 ∷ []) ++ (numbers_are ++ (replicate 8 0 ++ (trees ++ replicate 416 0)))
    → profile_in page ≡ Some p
page_read p kind number first second numbers_are trees page range space curve are few long read is =
    let rest = replicate 416 0 in
    let joined : numbers_are ++ behind p kind number first second trees rest ≡ numbers p kind number first second trees rest =
    ap (λ xs. xs ++ behind p kind number first second trees rest) are
    ∙ append_assoc (number_bytes first) (number_bytes second ++ (number_bytes p.cap ++ (number_bytes 1 ++ []))) (behind p kind number first second trees rest)
    ∙ ap (λ xs. number_bytes first ++ xs) (append_assoc (number_bytes second) (number_bytes p.cap ++ (number_bytes 1 ++ [])) (behind p kind number first second trees rest)
    ∙ ap (λ xs. number_bytes second ++ xs) (append_assoc (number_bytes p.cap) (number_bytes 1 ++ []) (behind p kind number first second trees rest)
    ∙ ap (λ xs. number_bytes p.cap ++ xs) (append_assoc (number_bytes 1) [] (behind p kind number first second trees rest)))) in
    ap profile_in (is ∙ ap (λ xs. 0 ∷ 1 ∷ kind ∷ number ∷ p.pivots ∷ p.bits ∷ 0 ∷ 0 ∷ xs) joined)
    ∙ fields_read p kind number first second trees rest
    (space_read p kind number first second trees rest few.0 few.1 space range.fit)
    curve
    (roots_read p kind number first second trees rest read range.trees.eight)
    (numbers_read p kind number first second trees rest few.2 range
    (zeros_read p kind number first second trees rest long (λ k. zeros_taken k 416)))
