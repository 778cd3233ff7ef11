-- A profile page of which the roots of one collection are replaced reads as the profile with these roots.
use Rattle.std.proofs.Common.{◌≡◌, ℕ, zero, suc, ◌+◌, ◌*◌, ◌^◌, ◌<◌, ◌≤◌, Bool, true, false, List, [], ◌∷◌, ◌++◌, length, take, drop, refl, sym, ap, subst, ◌∙◌, arith}
use Rattle.std.specs.Prelude.{◌&&◌, IsTrue, Option, Some, None, option_and_then, slice_index, slice_set, if◌then◌else◌}
use Rattle.std.proofs.lemmas.List.{drop_at, drop-take, get_or-drop, get_or-take, length-take-le, take-take}
use Rattle.std.proofs.lemmas.Slice.{take-put_mid_below, drop-put_mid}
use borrow.Rule.Slice.PartMut.{put_mid, post_of}
use Rattle.metrics_builtin.specs.declared.Space.{Space}
use Rattle.page_laws.specs.declared.root.Root.{Root}
use Rattle.page_laws.specs.Pages.{are_zero}
use Rattle.redo_journal.specs.Header.{leading_number}
use Rattle.spb_defs.specs.declared.CurveKind.{CurveKind}
use Rattle.store_check.specs.declared.profile.Profile.{Profile}
use Rattle.store_check.specs.Profile.{number_at, format_in, is_format, is_width, has_zeros, space_of, kept_space, space_in, curve_of, kept_root, root_in, kept_pair, trees_in, trees_at, roots_in, are_in_range, with_numbers, fields_in, profile_in}
use Rattle.root_page.specs.declared.trees.Trees.{Trees}
use Rattle.root_page.specs.Trees.{with_trees}

-- ---- options

module _ {A : Type 0} where
  never : (x : A) → None ≡ Some x → ⊥
  never x e = cc

  same : (x y : A) → Some x ≡ Some y → x ≡ y
  same x y e = cc

  some_step : {B : Type 0} (f : B → Option A) (o : Option B) (y : A) → option_and_then f o ≡ Some y → (x : B) × (o ≡ Some x) × (f x ≡ Some y)
  some_step f None y is = absurd (never y is)
  some_step f (Some x) y is = (x, refl, is)

  some_kept : (b : Bool) (o : Option A) (y : A) → (if b then o else None) ≡ Some y → (b ≡ true) × (o ≡ Some y)
  some_kept true o y is = (refl, is)
  some_kept false o y is = absurd (never y is)

  some_if : (b : Bool) (x y : A) → (if b then Some x else None) ≡ Some y → (b ≡ true) × (x ≡ y)
  some_if true x y is = (refl, same x y is)
  some_if false x y is = absurd (never y is)

-- ---- bytes that are the same

-- a byte of the first n
byte_same : (n i : ℕ) (xs ys : List ℕ) → i < n → take n xs ≡ take n ys → slice_index xs i ≡ slice_index ys i
byte_same n i xs ys below is = sym (get_or-take n xs i 0 below) ∙ ap (λ zs. slice_index zs i) is ∙ get_or-take n ys i 0 below

-- fewer bytes
fewer_same : (m n : ℕ) (xs ys : List ℕ) → m ≤ n → take n xs ≡ take n ys → take m xs ≡ take m ys
fewer_same m n xs ys few is = sym (take-take m n xs few) ∙ ap (take m) is ∙ take-take m n ys few

-- bytes from a place on
part_same : (n m : ℕ) (xs ys : List ℕ) → take (n + m) xs ≡ take (n + m) ys → take m (drop n xs) ≡ take m (drop n ys)
part_same n m xs ys is = sym (drop-take n m xs) ∙ ap (drop n) is ∙ drop-take n m ys

number_same : (xs ys : List ℕ) → take 4 xs ≡ take 4 ys → leading_number xs ≡ leading_number ys
unfolding leading_number
number_same xs ys is =
    let a = byte_same 4 0 xs ys (omega arith) is in
    let b = byte_same 4 1 xs ys (omega arith) is in
    let c = byte_same 4 2 xs ys (omega arith) is in
    let d = byte_same 4 3 xs ys (omega arith) is in
    (λ i. a i * 256 ^ 3 + (b i * 256 ^ 2 + (c i * 256 ^ 1 + (d i * 256 ^ 0 + 0))))

format_same : (xs ys : List ℕ) → take 2 xs ≡ take 2 ys → format_in xs ≡ format_in ys
unfolding format_in
format_same xs ys is =
    let a = byte_same 2 0 xs ys (omega arith) is in
    let b = byte_same 2 1 xs ys (omega arith) is in
    (λ i. a i * 256 ^ 1 + (b i * 256 ^ 0 + 0))

root_same : (xs ys : List ℕ) → take 8 xs ≡ take 8 ys → root_in xs ≡ root_in ys
unfolding root_in
root_same xs ys is =
    let number = number_same xs ys (fewer_same 4 8 xs ys (omega arith) is) in
    let height = byte_same 8 4 xs ys (omega arith) is in
    let zeros = part_same 5 3 xs ys is in
    (λ i. kept_root (record { page = number i; height = height i }) (zeros i))

trees_same : (xs ys : List ℕ) → take 16 xs ≡ take 16 ys → trees_in xs ≡ trees_in ys
unfolding trees_in
trees_same xs ys is =
    let curve = root_same xs ys (fewer_same 8 16 xs ys (omega arith) is) in
    let ids = root_same (drop 8 xs) (drop 8 ys) (part_same 8 8 xs ys is) in
    (λ i. option_and_then (λ c. option_and_then (kept_pair c) (ids i)) (curve i))

-- ---- a page of which sixteen bytes are replaced, from 32 on and before 96

module _ (a : ℕ) (old bytes : List ℕ) (least : 32 ≤ a) (most : a + 16 ≤ 96) (long : length old ≡ 512) (sixteen : length bytes ≡ 16) where
  abbrev new : List ℕ
  new = put_mid a 16 old bytes

  front : (n : ℕ) → n ≤ a → take n new ≡ take n old
  front n few = take-put_mid_below a 16 old bytes n few (omega (arith, long, most))

  back : (n : ℕ) → a + 16 ≤ n → drop n new ≡ drop n old
  back n behind = drop-put_mid a 16 old bytes n behind (omega (arith, long, most)) sixteen

  field : (n : ℕ) → n + 4 ≤ a → number_at n new ≡ number_at n old
  field n few = number_same (drop n new) (drop n old) (part_same n 4 new old (front (n + 4) few))

  byte : (n : ℕ) → n < a → slice_index new n ≡ slice_index old n
  byte n below = byte_same a n new old below (front a (omega arith))

  before : (n : ℕ) → n + 16 ≤ a → trees_at n new ≡ trees_at n old
  before n few = trees_same (drop n new) (drop n old) (part_same n 16 new old (front (n + 16) few))

  behind : (n : ℕ) → a + 16 ≤ n → trees_at n new ≡ trees_at n old
  behind n late = ap trees_in (back n late)

  here : (t : Root × Root) → ((rest : List ℕ) → trees_in (bytes ++ rest) ≡ Some t) → trees_at a new ≡ Some t
  here t read =
      ap trees_in (drop_at (take a old) (bytes ++ post_of a 16 old) a (length-take-le a old (omega (arith, long, most)))) ∙ read (post_of a 16 old)

  space_is : space_in new ≡ space_in old
  unfolding space_in
  space_is =
      let kind = byte 2 (omega (arith, least)) in
      let first = field 8 (omega (arith, least)) in
      let second = field 12 (omega (arith, least)) in
      (λ i. option_and_then kept_space (space_of (kind i) (first i) (second i)))

  zeros_are : has_zeros new ≡ has_zeros old
  unfolding has_zeros
  zeros_are =
      let one = part_same 6 2 new old (front 8 (omega (arith, least))) in
      let two = part_same 24 8 new old (front 32 least) in
      let three = back 96 most in
      (λ i. are_zero (one i) && are_zero (two i) && are_zero (take 416 (three i)))

  numbers_are : (space : Space) (curve : CurveKind) (roots more : List Root) (p : Profile) → with_numbers old space curve roots ≡ Some p
      → (p.roots ≡ roots) × (with_numbers new space curve more ≡ Some (record p { roots = more }))
  numbers_are space curve roots more p is =
      let pivots = byte 4 (omega (arith, least)) in
      let width = byte 5 (omega (arith, least)) in
      let cap = field 16 (omega (arith, least)) in
      let cells = field 20 (omega (arith, least)) in
      let parts = some_if (are_in_range space (slice_index old 4) (slice_index old 5) (number_at 16 old) && is_width (number_at 20 old) && has_zeros old)
      (record { space = space; curve = curve; pivots = slice_index old 4; bits = slice_index old 5; cap = number_at 16 old; roots = roots }) p is in (
        ap (λ (q : Profile). q.roots) (sym parts.1),
        (λ i. if are_in_range space (pivots i) (width i) (cap i) && is_width (cells i) && zeros_are i
            then Some (record { space = space; curve = curve; pivots = pivots i; bits = width i; cap = cap i; roots = more }) else None)
            ∙ ap (λ b. if b then Some (record { space = space; curve = curve; pivots = slice_index old 4; bits = slice_index old 5; cap = number_at 16 old; roots = more }) else None) parts.0
            ∙ ap (λ (q : Profile). Some (record q { roots = more })) parts.1,
      )

  -- the page reads as the profile with the roots that it reads as having
  whole : (change : List Root → List Root) → ((roots : List Root) → roots_in old ≡ Some roots → roots_in new ≡ Some (change roots)) → (p : Profile)
      → profile_in old ≡ Some p → profile_in new ≡ Some (record p { roots = change p.roots })
  unfolding profile_in fields_in
  whole change changed p is =
      let kept = some_kept (is_format (format_in old)) (fields_in old) p is in
      let with_space = some_step (λ space. option_and_then (λ curve. option_and_then (with_numbers old space curve) (roots_in old)) (curve_of (slice_index old 3)))
      (space_in old) p kept.1 in
      let space = with_space.0 in
      let with_curve = some_step (λ curve. option_and_then (with_numbers old space curve) (roots_in old)) (curve_of (slice_index old 3)) p with_space.2 in
      let curve = with_curve.0 in
      let with_roots = some_step (with_numbers old space curve) (roots_in old) p with_curve.2 in
      let roots = with_roots.0 in
      let made = numbers_are space curve roots (change roots) p with_roots.2 in
      let format : is_format (format_in new) ≡ true = ap is_format (format_same new old (front 2 (omega (arith, least)))) ∙ kept.0 in
      let space_read : space_in new ≡ Some space = space_is ∙ with_space.1 in
      let curve_read : curve_of (slice_index new 3) ≡ Some curve = ap curve_of (byte 3 (omega (arith, least))) ∙ with_curve.1 in
      let roots_read : roots_in new ≡ Some (change roots) = changed roots with_roots.1 in
      (λ i. if format i then option_and_then (λ s. option_and_then (λ k. option_and_then (with_numbers new s k) (roots_read i)) (curve_read i)) (space_read i) else None)
      ∙ made.1
      ∙ ap (λ rs. Some (record p { roots = change rs })) (sym made.0)

-- ---- the roots of one collection

-- the eight roots of four collections
abbrev joined : Root × Root → Root × Root → Root × Root → Root × Root → List Root
joined a b c d = a.0 ∷ b.0 ∷ c.0 ∷ d.0 ∷ a.1 ∷ b.1 ∷ c.1 ∷ d.1 ∷ []

record ReadsRoots (page : List ℕ) (roots : List Root) : Type 0 where
  first : Root × Root
  second : Root × Root
  third : Root × Root
  fourth : Root × Root
  first_is : trees_at 32 page ≡ Some first
  second_is : trees_at 48 page ≡ Some second
  third_is : trees_at 64 page ≡ Some third
  fourth_is : trees_at 80 page ≡ Some fourth
  are : joined first second third fourth ≡ roots

reads : (page : List ℕ) (roots : List Root) → roots_in page ≡ Some roots → ReadsRoots page roots
unfolding roots_in
reads page roots is =
    let a = some_step _ (trees_at 32 page) roots is in
    let b = some_step _ (trees_at 48 page) roots a.2 in
    let c = some_step _ (trees_at 64 page) roots b.2 in
    let d = some_step _ (trees_at 80 page) roots c.2 in
    record { first = a.0; second = b.0; third = c.0; fourth = d.0; first_is = a.1; second_is = b.1; third_is = c.1; fourth_is = d.1; are = same _ roots d.2 }

read_by : (page : List ℕ) (a b c d : Root × Root) → trees_at 32 page ≡ Some a → trees_at 48 page ≡ Some b → trees_at 64 page ≡ Some c → trees_at 80 page ≡ Some d
    → roots_in page ≡ Some (joined a b c d)
unfolding roots_in
read_by page a b c d one two three four = (λ i. option_and_then (λ (a : Root × Root). option_and_then (λ (b : Root × Root). option_and_then (λ (c : Root × Root). option_and_then (λ (d : Root × Root).
    Some (a.0 ∷ b.0 ∷ c.0 ∷ d.0 ∷ a.1 ∷ b.1 ∷ c.1 ∷ d.1 ∷ [])) (four i)) (three i)) (two i)) (one i))

-- the roots with others for a collection
abbrev changed_roots : ℕ → Trees → List Root → List Root
changed_roots c trees roots = slice_set (slice_set roots c trees.curve) (4 + c) trees.ids

module _ (old bytes : List ℕ) (trees : Trees) (long : length old ≡ 512) (sixteen : length bytes ≡ 16)
    (read : (rest : List ℕ) → trees_in (bytes ++ rest) ≡ Some (trees.curve, trees.ids)) where
  abbrev pair : Root × Root
  pair = (trees.curve, trees.ids)

  replaced_roots : (c : ℕ) → c < 4 → (roots : List Root) → roots_in old ≡ Some roots
      → roots_in (put_mid (32 + 16 * c) 16 old bytes) ≡ Some (changed_roots c trees roots)
  replaced_roots zero below roots is =
      let r = reads old roots is in
      read_by (put_mid 32 16 old bytes) pair r.second r.third r.fourth
      (here 32 old bytes (omega arith) (omega arith) long sixteen pair read)
      (behind 32 old bytes (omega arith) (omega arith) long sixteen 48 (omega arith) ∙ r.second_is)
      (behind 32 old bytes (omega arith) (omega arith) long sixteen 64 (omega arith) ∙ r.third_is)
      (behind 32 old bytes (omega arith) (omega arith) long sixteen 80 (omega arith) ∙ r.fourth_is)
      ∙ ap (λ rs. Some (changed_roots 0 trees rs)) r.are
  replaced_roots (suc zero) below roots is =
      let r = reads old roots is in
      read_by (put_mid 48 16 old bytes) r.first pair r.third r.fourth
      (before 48 old bytes (omega arith) (omega arith) long sixteen 32 (omega arith) ∙ r.first_is)
      (here 48 old bytes (omega arith) (omega arith) long sixteen pair read)
      (behind 48 old bytes (omega arith) (omega arith) long sixteen 64 (omega arith) ∙ r.third_is)
      (behind 48 old bytes (omega arith) (omega arith) long sixteen 80 (omega arith) ∙ r.fourth_is)
      ∙ ap (λ rs. Some (changed_roots 1 trees rs)) r.are
  replaced_roots (suc (suc zero)) below roots is =
      let r = reads old roots is in
      read_by (put_mid 64 16 old bytes) r.first r.second pair r.fourth
      (before 64 old bytes (omega arith) (omega arith) long sixteen 32 (omega arith) ∙ r.first_is)
      (before 64 old bytes (omega arith) (omega arith) long sixteen 48 (omega arith) ∙ r.second_is)
      (here 64 old bytes (omega arith) (omega arith) long sixteen pair read)
      (behind 64 old bytes (omega arith) (omega arith) long sixteen 80 (omega arith) ∙ r.fourth_is)
      ∙ ap (λ rs. Some (changed_roots 2 trees rs)) r.are
  replaced_roots (suc (suc (suc zero))) below roots is =
      let r = reads old roots is in
      read_by (put_mid 80 16 old bytes) r.first r.second r.third pair
      (before 80 old bytes (omega arith) (omega arith) long sixteen 32 (omega arith) ∙ r.first_is)
      (before 80 old bytes (omega arith) (omega arith) long sixteen 48 (omega arith) ∙ r.second_is)
      (before 80 old bytes (omega arith) (omega arith) long sixteen 64 (omega arith) ∙ r.third_is)
      (here 80 old bytes (omega arith) (omega arith) long sixteen pair read)
      ∙ ap (λ rs. Some (changed_roots 3 trees rs)) r.are
  replaced_roots (suc (suc (suc (suc c)))) below roots is = absurd (omega (arith, below))

  pub replaced : (c k : ℕ) → c < 4 → k ≡ 16 → (p : Profile) → profile_in old ≡ Some p
      → profile_in (put_mid (32 + 16 * c) k old bytes) ≡ Some (with_trees p c trees)
  replaced c k below size p is =
      subst (λ n. profile_in (put_mid (32 + 16 * c) n old bytes) ≡ Some (with_trees p c trees)) (sym size)
      (whole (32 + 16 * c) old bytes (omega arith) (omega (arith, below)) long sixteen (changed_roots c trees) (replaced_roots c below) p is)
