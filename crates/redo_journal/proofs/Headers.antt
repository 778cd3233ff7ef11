-- The header page: what is written, and what is read.
use Rattle.std.proofs.Common.{◌≡◌, ℕ, suc, ◌+◌, ◌-◌, ◌*◌, ◌<◌, ◌≤◌, List, [], ◌∷◌, ◌++◌, length, take, drop, replicate, refl, sym, ◌∙◌, ap, subst, arith, append_assoc, length-append}
use Rattle.std.specs.List.{flat_map}
use Rattle.std.proofs.lemmas.List.{take-append-drop, drop_at, drop-drop, drop-replicate, take-replicate, length-replicate, length-drop}
use Rattle.std.proofs.Math.Seq.{take-append-add}
use borrow.Rule.Slice.PartMut.{put_mid, mid_of}
use Rattle.std.proofs.lemmas.Slice.{take-put_mid, drop-put_mid}
use Rattle.byteorder.specs.Endian.{big_bytes}
use Rattle.byteorder.specs.Numbers.{length-bytes_high_first, big_from-take}
use Rattle.redo_journal.specs.Pages.{IsHome}
use Rattle.redo_journal.specs.Header.{leading_number, number_bytes, image_count, numbers_in, page_numbers, header_page, AreHomes, FailsAt}

-- a number and then numbers, written into zeros
pub written : (size n : ℕ) (first numbers : List ℕ) → length first ≡ 4 → length numbers ≡ n → 8 + n ≤ size
    → put_mid 8 n (first ++ drop 4 (replicate size 0)) numbers ≡ first ++ (replicate 4 0 ++ (numbers ++ replicate (size - 8 - n) 0))
written size n first numbers four many fits =
    let whole = first ++ drop 4 (replicate size 0) in
    let long : length whole ≡ size = length-append first (drop 4 (replicate size 0))
    ∙ omega (arith, four, fits, length-drop {A = ℕ} 4 (replicate size 0), length-replicate {A = ℕ} size 0) in
    let zeros : drop 4 (replicate size 0) ≡ replicate (size - 4) 0 = drop-replicate 4 size 0 in
    let behind : drop 8 whole ≡ replicate (size - 8) 0 =
    sym (drop-drop 4 4 whole) ∙ ap (drop 4) (drop_at first (drop 4 (replicate size 0)) 4 four) ∙ ap (drop 4) zeros ∙ drop-replicate 4 (size - 4) 0
    ∙ ap (λ m. replicate m 0) (omega (arith, fits)) in
    let at_front : 8 ≡ length first + 4 = omega (arith, four) in
    let front : take 8 whole ≡ first ++ replicate 4 0 =
    ap (λ m. take m whole) at_front ∙ take-append-add first (drop 4 (replicate size 0)) 4 ∙ ap (λ xs. first ++ take 4 xs) zeros
    ∙ ap (λ xs. first ++ xs) (take-replicate 4 (size - 4) 0 (omega (arith, fits))) in
    let after : drop (8 + n) whole ≡ replicate (size - 8 - n) 0 = sym (drop-drop n 8 whole) ∙ ap (drop n) behind ∙ drop-replicate n (size - 8) 0 in
    sym (take-append-drop (8 + n) (put_mid 8 n whole numbers))
    ∙ ap (λ xs. xs ++ drop (8 + n) (put_mid 8 n whole numbers)) (take-put_mid 8 n whole numbers (8 + n) (omega (arith, many)) (omega (arith, long, fits))
    ∙ ap (λ xs. xs ++ numbers) front)
    ∙ ap (λ xs. first ++ replicate 4 0 ++ numbers ++ xs) (drop-put_mid 8 n whole numbers (8 + n) (omega arith) (omega (arith, long, fits)) many ∙ after)
    ∙ append_assoc (first ++ replicate 4 0) numbers (replicate (size - 8 - n) 0)
    ∙ append_assoc first (replicate 4 0) (numbers ++ replicate (size - 8 - n) 0)

pub length-number_bytes : (n : ℕ) → length (number_bytes n) ≡ 4
unfolding number_bytes
length-number_bytes n = length-bytes_high_first 4 n

numbers_long : (numbers : List ℕ) → length (flat_map number_bytes numbers) ≡ 4 * length numbers
numbers_long [] = refl
numbers_long (n ∷ ns) = length-append (number_bytes n) (flat_map number_bytes ns) ∙ omega (arith, numbers_long ns, length-number_bytes n)

pub header_written : (numbers first bytes : List ℕ) → length numbers ≤ 80 → first ≡ number_bytes (length numbers) ++ drop 4 (replicate 512 0)
    → bytes ≡ flat_map number_bytes numbers → put_mid 8 (8 + 4 * length numbers - 8) first bytes ≡ header_page numbers
unfolding header_page
header_written numbers first bytes few is are =
    let long : length bytes ≡ 4 * length numbers = ap length are ∙ numbers_long numbers in
    let count : 8 + 4 * length numbers - 8 ≡ 4 * length numbers = omega arith in
    ap (λ xs. put_mid 8 (8 + 4 * length numbers - 8) xs bytes) is
    ∙ ap (λ m. put_mid 8 m (number_bytes (length numbers) ++ drop 4 (replicate 512 0)) bytes) count
    ∙ written 512 (4 * length numbers) (number_bytes (length numbers)) bytes (length-number_bytes (length numbers)) long (omega (arith, few))
    ∙ ap (λ xs. number_bytes (length numbers) ++ (replicate 4 0 ++ (xs ++ replicate (504 - 4 * length numbers) 0))) are

-- the bytes of numbers are those of the library that writes them
pub are_bytes : (first rest : List ℕ) (n : ℕ) → first ≡ big_bytes 4 n ++ rest → first ≡ number_bytes n ++ rest
unfolding number_bytes
are_bytes first rest n is = is

pub are_all_bytes : (bytes numbers : List ℕ) → bytes ≡ flat_map (big_bytes 4) numbers → bytes ≡ flat_map number_bytes numbers
unfolding number_bytes
are_all_bytes bytes numbers are = are

-- the last of the numbers
abbrev pub last_of : ℕ → List ℕ → ℕ
last_of last [] = last
last_of last (n ∷ ns) = last_of n ns

-- one number more
pub homes_push : (total last n : ℕ) (ns : List ℕ) → AreHomes total last ns → IsHome total n → last_of last ns < n → AreHomes total last (ns ++ n ∷ [])
homes_push total last n [] homes is rises = (is, rises, tt)
homes_push total last n (m ∷ ns) homes is rises = (homes.0, homes.1, homes_push total m n ns homes.2 is rises)

pub last_push : (last n : ℕ) (ns : List ℕ) → last_of last (ns ++ n ∷ []) ≡ n
last_push last n [] = refl
last_push last n (m ∷ ns) = last_push m n ns

-- the first number that isn't in its range, after those that are
pub fails_behind : (total last n : ℕ) (ns rest : List ℕ) → AreHomes total last ns → (IsHome total n → last_of last ns < n → ⊥)
    → FailsAt total last (ns ++ n ∷ rest) (length ns) n
fails_behind total last n [] rest homes bad = (refl, bad)
fails_behind total last n (m ∷ ns) rest homes bad = (homes.0, homes.1, fails_behind total m n ns rest homes.2 bad)

-- a number in a part of the header
pub number_at : (n from size : ℕ) (header : List ℕ) → 4 ≤ size → n ≡ leading_number (mid_of from size header) → n ≡ leading_number (drop from header)
unfolding leading_number
number_at n from size header fits is = is ∙ big_from-take 0 4 size (drop from header) fits

-- nothing was read yet
pub reads_none : (total count : ℕ) (items header : List ℕ) → items ≡ [] → count ≡ image_count header
    → (length items ≡ 0) × (items ++ numbers_in (count - 0) (drop 8 header) ≡ page_numbers header) × AreHomes total 0 items × (0 ≡ last_of 0 items)
unfolding page_numbers
reads_none total count items header none is =
    let all : count - 0 ≡ image_count header = omega (arith, is) in
    subst (λ (xs : List ℕ). (length xs ≡ 0) × (xs ++ numbers_in (count - 0) (drop 8 header) ≡ page_numbers header) × AreHomes total 0 xs × (0 ≡ last_of 0 xs))
    (sym none) (refl, ap (λ n. numbers_in n (drop 8 header)) all, tt, refl)

-- one number was read, and there are more
pub reads_on : (count place : ℕ) (items header : List ℕ) → place < count
    → items ++ numbers_in (count - place) (drop (8 + 4 * place) header) ≡ page_numbers header
    → items ++ leading_number (drop (8 + 4 * place) header) ∷ numbers_in (count - (place + 1)) (drop (8 + 4 * (place + 1)) header) ≡ page_numbers header
reads_on count place items header more is =
    let next : count - place ≡ suc (count - (place + 1)) = omega (arith, more) in
    let behind : 8 + 4 * place + 4 ≡ 8 + 4 * (place + 1) = omega arith in
    ap (λ xs. items ++ leading_number (drop (8 + 4 * place) header) ∷ numbers_in (count - (place + 1)) xs) (ap (λ n. drop n header) (sym behind)
    ∙ sym (drop-drop 4 (8 + 4 * place) header))
    ∙ ap (λ n. items ++ numbers_in n (drop (8 + 4 * place) header)) (sym next)
    ∙ is

-- what the loop over the places keeps: the numbers so far, with those that are left, are those of the
-- header
abbrev pub HasRead : ℕ → List ℕ → ℕ → List ℕ → ℕ → ℕ → Type 0
HasRead total header count items last place =
    (length items ≡ place) × (items ++ numbers_in (count - place) (drop (8 + 4 * place) header) ≡ page_numbers header) × AreHomes total 0 items
    × (last ≡ last_of 0 items)

module _ (total count place last n : ℕ) (items header : List ℕ) (so_far : HasRead total header count items last place)
    (more : place < count) (is : n ≡ leading_number (drop (8 + 4 * place) header)) where
  whole : items ++ n ∷ numbers_in (count - (place + 1)) (drop (8 + 4 * (place + 1)) header) ≡ page_numbers header
  whole = ap (λ m. items ++ m ∷ numbers_in (count - (place + 1)) (drop (8 + 4 * (place + 1)) header)) is ∙ reads_on count place items header more so_far.1

  -- the next number isn't in its range
  pub reads_bad : (IsHome total n × (last < n) → ⊥) → FailsAt total 0 (page_numbers header) place n
  reads_bad bad =
      let rest = numbers_in (count - (place + 1)) (drop (8 + 4 * (place + 1)) header) in
      let here : FailsAt total 0 (items ++ n ∷ rest) (length items) n =
      fails_behind total 0 n items rest so_far.2 (λ home rises. bad (home, subst (λ (m : ℕ). m < n) (sym so_far.3) rises)) in
      subst (λ (xs : List ℕ). FailsAt total 0 xs place n) whole (subst (λ (m : ℕ). FailsAt total 0 (items ++ n ∷ rest) m n) so_far.0 here)

  -- it is
  pub reads_good : IsHome total n × (last < n) → HasRead total header count (items ++ n ∷ []) n (place + 1)
  reads_good next = (
    length-append items (n ∷ []) ∙ omega (arith, so_far.0),
    append_assoc items (n ∷ []) (numbers_in (count - (place + 1)) (drop (8 + 4 * (place + 1)) header)) ∙ whole,
    homes_push total 0 n items so_far.2 next.0 (subst (λ (m : ℕ). m < n) so_far.3 next.1),
    sym (last_push 0 n items),
  )

pub length-header_page : (numbers : List ℕ) → length numbers ≤ 80 → length (header_page numbers) ≡ 512
unfolding header_page
length-header_page numbers few =
    let zeros = replicate (504 - 4 * length numbers) 0 in
    length-append (number_bytes (length numbers)) (replicate 4 0 ++ (flat_map number_bytes numbers ++ zeros))
    ∙ omega (
      arith,
      few,
      length-number_bytes (length numbers),
      length-append (replicate {A = ℕ} 4 0) (flat_map number_bytes numbers ++ zeros),
      length-append (flat_map number_bytes numbers) zeros,
      numbers_long numbers,
      length-replicate {A = ℕ} (504 - 4 * length numbers) 0,
    )
