-- The bytes of slots. No other file opens the words of slots.
use Rattle.std.proofs.Common.{◌≡◌, ◌⊎◌, inl, inr, ℕ, zero, suc, ◌+◌, ◌-◌, ◌*◌, ◌<◌, ◌≤◌, ◌^◌, ◌==◌, true, false, ◌&&◌, List, ◌∷◌, ◌++◌, length, take, drop, replicate, slice_index, get_or, refl, sym, ◌∙◌, ap, subst, arith, length-append}
use Rattle.std.specs.Prelude.{nat_le, nat_lt, slice_set, if◌then◌else◌}
use Rattle.std.proofs.lemmas.Bool.{cases_lt}
use Rattle.std.proofs.lemmas.Bool.Decides.{nat_tests}
use Rattle.std.proofs.lemmas.List.{take_at, drop_at, drop-drop, get_or-take, get_or-drop, get_or-set_same, get_or-set_other, length-set, get_or_append_left, get_or-append_right, ext_get_or, length-take, length-take-le, length-drop, length-replicate}
use borrow.Rule.Slice.PartMut.{put_mid}
use Rattle.byteorder.specs.Numbers.{length-bytes_high_first, big_number-reads_back}
use Rattle.page_laws.specs.Pages.{are_zero}
use Rattle.redo_journal.specs.Header.{leading_number, number_bytes}
use Rattle.object_file.specs.Slots.{Free, Holds, Broken, is_filled_slot, id_in, slot_of, slot_bytes, SetsPlace}

-- ---- a slot among others

-- if two pages are alike outside of a slot, their other slots are alike
alike_slots : (old new : List ℕ) (place other : ℕ) → length new ≡ length old
    → ((k : ℕ) → (k < 128 * place) ⊎ (128 * place + 128 ≤ k) → slice_index new k ≡ slice_index old k)
    → (other ≡ place → ⊥) → slot_bytes new other ≡ slot_bytes old other
unfolding slot_bytes
alike_slots old new place other long same apart =
    let long_old = length-take 128 (drop (128 * other) old) in
    let long_new = length-take 128 (drop (128 * other) new) in
    let alike : length (take 128 (drop (128 * other) new)) ≡ length (take 128 (drop (128 * other) old)) =
    omega (arith, long, long_old, long_new, length-drop (128 * other) old, length-drop (128 * other) new) in
    ext_get_or 0 (take 128 (drop (128 * other) new)) (take 128 (drop (128 * other) old)) alike (λ k lt.
    let below : k < 128 = omega (arith, lt, long_new) in
    get_or-take 128 (drop (128 * other) new) k 0 below ∙ get_or-drop (128 * other) new k 0
    ∙ same (128 * other + k) (elim (cases_lt other place) [
      | inl before ↦ inl (omega (arith, before, below))
      | inr after ↦ inr (omega (arith, after, apart, below))
    ])
    ∙ sym (get_or-drop (128 * other) old k 0) ∙ sym (get_or-take 128 (drop (128 * other) old) k 0 below))

-- ---- a slot that is freed

freed : (bytes : List ℕ) → slice_index bytes 0 ≡ 255 → slot_of bytes ≡ Free
unfolding slot_of
freed bytes is =
    let mark : (slice_index bytes 0 == 255) ≡ true = grind (arith, nat_tests, is) in
    λ i. if mark i then Free else if is_filled_slot bytes then Holds (slice_index bytes 0) (id_in bytes) (take (slice_index bytes 1) (drop 8 bytes)) else Broken

first_byte : (page : List ℕ) (place : ℕ) → slice_index (slot_bytes page place) 0 ≡ slice_index page (128 * place)
unfolding slot_bytes
first_byte page place =
    let on : 128 * place + 0 ≡ 128 * place = omega arith in
    get_or-take 128 (drop (128 * place) page) 0 0 (omega arith) ∙ get_or-drop (128 * place) page 0 0 ∙ ap (λ k. get_or page k 0) on

pub sets_free : (page : List ℕ) (place : ℕ) → length page ≡ 512 → place < 4 → SetsPlace place Free page (slice_set page (128 * place) 255)
sets_free page place whole few = record {
  here = freed (slot_bytes (slice_set page (128 * place) 255) place) (first_byte (slice_set page (128 * place) 255) place
      ∙ get_or-set_same page (128 * place) 255 0 (omega (arith, whole, few)));
  others = λ other apart. alike_slots page (slice_set page (128 * place) 255) place other (length-set page (128 * place) 255) outside apart;
}
  where
    outside : (k : ℕ) → (k < 128 * place) ⊎ (128 * place + 128 ≤ k) → slice_index (slice_set page (128 * place) 255) k ≡ slice_index page k
    outside k (inl before) = get_or-set_other page (128 * place) k 255 0 (omega (arith, before))
    outside k (inr after) = get_or-set_other page (128 * place) k 255 0 (omega (arith, after))

-- ---- a slot that is filled

zeros_are : (n : ℕ) → are_zero (replicate n 0) ≡ true
unfolding are_zero
zeros_are zero = refl
zeros_are (suc n) = zeros_are n

read_back : (id : ℕ) (rest : List ℕ) → id < 2 ^ 32 → leading_number (number_bytes id ++ rest) ≡ id
unfolding leading_number number_bytes
read_back id rest fits = big_number-reads_back 4 id rest fits

length-number_bytes : (id : ℕ) → length (number_bytes id) ≡ 4
unfolding number_bytes
length-number_bytes id = length-bytes_high_first 4 id

filled : (collection id : ℕ) (object : List ℕ) (n : ℕ) → collection < 4 → id < 2 ^ 32 → length object ≤ 120
    → slot_of ((collection ∷ length object ∷ 0 ∷ 0 ∷ number_bytes id) ++ (object ++ replicate n 0)) ≡ Holds collection id object
unfolding slot_of are_zero
filled collection id object n small fits short =
    let front = collection ∷ length object ∷ 0 ∷ 0 ∷ number_bytes id in
    let full = front ++ (object ++ replicate n 0) in
    let eight : length front ≡ 8 = omega (arith, length-number_bytes id) in
    let body : drop 8 full ≡ object ++ replicate n 0 = drop_at front (object ++ replicate n 0) 8 eight in
    let mark : (collection == 255) ≡ false = grind (arith, nat_tests, small) in
    let of_four : nat_lt collection 4 ≡ true = grind (arith, nat_tests, small) in
    let enough : nat_le (length object) 120 ≡ true = grind (arith, nat_tests, short) in
    let zeros : are_zero (drop (8 + length object) full) ≡ true =
    ap are_zero (sym (drop-drop (length object) 8 full) ∙ ap (drop (length object)) body ∙ drop_at object (replicate n 0) (length object) refl)
    ∙ zeros_are n in
    let is : is_filled_slot full ≡ true = λ i. of_four i && enough i && true && zeros i in
    let number : id_in full ≡ id = read_back id (object ++ replicate n 0) fits in
    let content : take (length object) (drop 8 full) ≡ object = ap (take (length object)) body ∙ take_at object (replicate n 0) (length object) refl in
    λ i. if mark i then Free else if is i then Holds collection (number i) (content i) else Broken

put_place : (page slot : List ℕ) (place : ℕ) → length page ≡ 512 → place < 4 → length slot ≡ 128
    → slot_bytes (put_mid (128 * place) 128 page slot) place ≡ slot
unfolding slot_bytes
put_place page slot place whole few long =
    let front : length (take (128 * place) page) ≡ 128 * place = length-take-le (128 * place) page (omega (arith, whole, few)) in
    ap (take 128) (drop_at (take (128 * place) page) (slot ++ drop 128 (drop (128 * place) page)) (128 * place) front)
    ∙ take_at slot (drop 128 (drop (128 * place) page)) 128 long

module _ (page slot : List ℕ) (place : ℕ) (whole : length page ≡ 512) (few : place < 4) (long : length slot ≡ 128) where
  front_long : length (take (128 * place) page) ≡ 128 * place
  front_long = length-take-le (128 * place) page (omega (arith, whole, few))

  put_long : length (put_mid (128 * place) 128 page slot) ≡ length page
  put_long =
      let rest = drop 128 (drop (128 * place) page) in
      length-append (take (128 * place) page) (slot ++ rest)
      ∙ omega (arith, front_long, long, whole, few, length-append slot rest, length-drop 128 (drop (128 * place) page), length-drop (128 * place) page)

  put_outside : (k : ℕ) → (k < 128 * place) ⊎ (128 * place + 128 ≤ k) → slice_index (put_mid (128 * place) 128 page slot) k ≡ slice_index page k
  put_outside k (inl before) =
      get_or_append_left (take (128 * place) page) (slot ++ drop 128 (drop (128 * place) page)) 0 k (omega (arith, before, front_long))
      ∙ get_or-take (128 * place) page k 0 before
  put_outside k (inr after) =
      let on : 128 * place + (128 + (k - 128 * place - 128)) ≡ k = omega (arith, after) in
      get_or-append_right (take (128 * place) page) (slot ++ drop 128 (drop (128 * place) page)) (128 * place) k 0 front_long (omega (arith, after))
      ∙ get_or-append_right slot (drop 128 (drop (128 * place) page)) 128 (k - 128 * place) 0 long (omega (arith, after))
      ∙ get_or-drop 128 (drop (128 * place) page) (k - 128 * place - 128) 0
      ∙ get_or-drop (128 * place) page (128 + (k - 128 * place - 128)) 0
      ∙ ap (λ m. get_or page m 0) on

pub sets_filled : (page slot : List ℕ) (place collection id : ℕ) (object : List ℕ) (n count : ℕ) → length page ≡ 512 → place < 4 → count ≡ 128
    → collection < 4 → id < 2 ^ 32 → length object ≤ 120 → n ≡ 120 - length object
    → slot ≡ (collection ∷ length object ∷ 0 ∷ 0 ∷ number_bytes id) ++ (object ++ replicate n 0)
    → SetsPlace place (Holds collection id object) page (put_mid (128 * place) count page slot)
sets_filled page slot place collection id object n count whole few all small fits short left is =
    let front = collection ∷ length object ∷ 0 ∷ 0 ∷ number_bytes id in
    let long : length slot ≡ 128 = ap length is ∙ length-append front (object ++ replicate n 0)
    ∙ omega (arith, length-number_bytes id, length-append object (replicate n 0), length-replicate {A = ℕ} n 0, left, short) in
    subst (λ m. SetsPlace place (Holds collection id object) page (put_mid (128 * place) m page slot)) (sym all) (record {
      here = ap slot_of (put_place page slot place whole few long ∙ is) ∙ filled collection id object n small fits short;
      others = λ other apart. alike_slots page (put_mid (128 * place) 128 page slot) place other (put_long page slot place whole few long)
          (put_outside page slot place whole few long) apart;
    })
