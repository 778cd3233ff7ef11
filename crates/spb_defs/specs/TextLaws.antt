-- Numbers with commas between them: they are read from their text, and what is read has the text.
use Rattle.std.proofs.Common.{◌≡◌, ℕ, ◌+◌, ◌<◌, ◌≤◌, ◌==◌, true, false, List, [], ◌∷◌, length, get_or, refl, sym, ap, subst, ◌∙◌, arith, Option, Some, None, suc, ◌^◌, map}
use Rattle.std.specs.Prelude.{option_and_then, All, count_by}
use Rattle.std.specs.Int.{IsInRange}
use Rattle.std.specs.List.{slice_split, count_by, join_with_byte, AllByRecursion}
use Rattle.std.proofs.lemmas.Bool.Decides.{nat_tests}
use Rattle.std.proofs.lemmas.List.{length-map}
use Rattle.std.proofs.lemmas.List.Elements.{All-from_get_or, All-cons, All-append, All-tail}
use Rattle.std.proofs.lemmas.List.Splits.{slice_split_none, length-slice_split, slice_split_at, join_with_byte-slice_split}
use Rattle.std.proofs.lemmas.Str.Parse.{digit_at}
use Rattle.spb_defs.specs.Numbers.{number_within}
use Rattle.spb_defs.specs.ObjectText.{numbers_within, numbers_in, numbers_text}
use Rattle.std.specs.Fmt.{decimal}
use Rattle.std.proofs.lemmas.Fmt.{decimal_is_IsNumeral}
use Rattle.spb_defs.specs.NumberLaws.{number_within-le, number_within-decimal, decimal-number_within}

-- ---- numbers of at most a bound

-- what is read of the first word and of the rest
pub record IsConsed (first : Option ℕ) (others : Option (List ℕ)) (ns : List ℕ) : Type 0 where
  pub number : ℕ
  pub numbers : List ℕ
  pub here : first ≡ Some number
  pub behind : others ≡ Some numbers
  pub both : ns ≡ number ∷ numbers

pub consed : (first : Option ℕ) (others : Option (List ℕ)) (ns : List ℕ) → option_and_then (λ n. option_and_then (λ ms. Some (n ∷ ms)) others) first ≡ Some ns
    → IsConsed first others ns
consed None others ns e = absurd (cc)
consed (Some n) None ns e = absurd (cc)
consed (Some n) (Some ms) ns e = record { number = n; numbers = ms; here = refl; behind = refl; both = cc }

pub nil_some : (ns : List ℕ) → ◌≡◌ {A = Option (List ℕ)} (Some []) (Some ns) → ns ≡ []
nil_some ns e = cc

pub length-numbers_within : (bound : ℕ) (words : List (List ℕ)) (ns : List ℕ) → numbers_within bound words ≡ Some ns → length ns ≡ length words
length-numbers_within bound [] ns e = ap length (nil_some ns e)
length-numbers_within bound (word ∷ words) ns e =
    let parts = consed (number_within bound word) (numbers_within bound words) ns e in
    let rest : length parts.numbers ≡ length words = length-numbers_within bound words parts.numbers parts.behind in
    ap length parts.both ∙ ap suc rest

pub All-numbers_within : (bound : ℕ) (words : List (List ℕ)) (ns : List ℕ) → numbers_within bound words ≡ Some ns → All (λ n. n ≤ bound) ns
All-numbers_within bound [] ns e = subst (All (λ n. n ≤ bound)) (sym (nil_some ns e)) (λ k d h. absurd (omega arith))
All-numbers_within bound (word ∷ words) ns e =
    let parts = consed (number_within bound word) (numbers_within bound words) ns e in
    let rest : All (λ n. n ≤ bound) parts.numbers = All-numbers_within bound words parts.numbers parts.behind in
    subst (All (λ n. n ≤ bound)) (sym parts.both)
    (All-cons (λ n. n ≤ bound) parts.number parts.numbers (number_within-le bound parts.number word parts.here) rest)

-- ---- words without a byte

abbrev pub IsFree : ℕ → List ℕ → Type 0
IsFree mark word = All (λ x. (x == mark) ≡ false) word

other_byte : (x mark : ℕ) → mark < x → (x == mark) ≡ false
other_byte x mark h = grind (arith, nat_tests)

same_byte : (mark : ℕ) → (mark == mark) ≡ true
same_byte mark = grind (arith, nat_tests)

pub IsFree-decimal : (mark n : ℕ) → mark < 48 → n < 2 ^ 64 → IsFree mark (decimal n)
IsFree-decimal mark n h small =
    All-from_get_or (λ x. (x == mark) ≡ false) (decimal n) 0 (λ k inside.
    let d : IsInRange 48 57 (get_or (decimal n) k 0) = digit_at (decimal n) k (decimal_is_IsNumeral n small).0.1 inside in
    other_byte (get_or (decimal n) k 0) mark (let low = d.0 in omega arith))

-- words that are joined are split again
pub split_joined : (mark : ℕ) (words : List (List ℕ)) → 0 < length words → AllByRecursion (IsFree mark) words
    → slice_split (λ b. b == mark) (join_with_byte mark words) ≡ words
split_joined mark [] some h = absurd (omega arith)
split_joined mark (w ∷ []) some h = slice_split_none (λ b. b == mark) w h.0
split_joined mark (w ∷ v ∷ vs) some h =
    slice_split_at (λ b. b == mark) w mark (join_with_byte mark (v ∷ vs)) h.0 (same_byte mark)
    ∙ ap (λ (ws : List (List ℕ)). w ∷ ws) (split_joined mark (v ∷ vs) (omega arith) h.1)

-- ---- numbers in words

pub numbers_within-decimals : (bound : ℕ) (words : List (List ℕ)) (ns : List ℕ) → numbers_within bound words ≡ Some ns → words ≡ map decimal ns
numbers_within-decimals bound [] ns e = ap (map decimal) (sym (nil_some ns e))
numbers_within-decimals bound (word ∷ words) ns e =
    let parts = consed (number_within bound word) (numbers_within bound words) ns e in
    let rest : words ≡ map decimal parts.numbers = numbers_within-decimals bound words parts.numbers parts.behind in
    ap (λ (w : List ℕ). w ∷ words) (number_within-decimal bound parts.number word parts.here).0 ∙ ap (λ (ws : List (List ℕ)). decimal parts.number ∷ ws) rest
    ∙ ap (map decimal) (sym parts.both)

pub decimals-numbers_within : (bound : ℕ) (ns : List ℕ) → bound < 2 ^ 64 → All (λ n. n ≤ bound) ns → numbers_within bound (map decimal ns) ≡ Some ns
decimals-numbers_within bound [] small h = refl
decimals-numbers_within bound (n ∷ ns) small h =
    let low : n ≤ bound = h 0 0 (omega arith) in
    let first : number_within bound (decimal n) ≡ Some n = decimal-number_within bound n low (omega arith) in
    let rest : numbers_within bound (map decimal ns) ≡ Some ns = decimals-numbers_within bound ns small (All-tail (λ k. k ≤ bound) n ns h) in
    ap (λ (o : Option ℕ). option_and_then (λ k. option_and_then (λ ms. Some (k ∷ ms)) (numbers_within bound (map decimal ns))) o) first
    ∙ ap (λ (o : Option (List ℕ)). option_and_then (λ ms. Some (n ∷ ms)) o) rest

pub IsFree-decimals : (mark bound : ℕ) (ns : List ℕ) → mark < 48 → bound < 2 ^ 64 → All (λ n. n ≤ bound) ns → AllByRecursion (IsFree mark) (map decimal ns)
IsFree-decimals mark bound [] h small low = tt
IsFree-decimals mark bound (n ∷ ns) h small low =
    let first : n ≤ bound = low 0 0 (omega arith) in
    (IsFree-decimal mark n h (omega arith), IsFree-decimals mark bound ns h small (All-tail (λ k. k ≤ bound) n ns low))

pub IsFree-joined : (mark other : ℕ) (words : List (List ℕ)) → (other == mark) ≡ false → AllByRecursion (IsFree mark) words
    → IsFree mark (join_with_byte other words)
IsFree-joined mark other [] e h = λ k d inside. absurd (omega arith)
IsFree-joined mark other (w ∷ []) e h = h.0
IsFree-joined mark other (w ∷ v ∷ vs) e h =
    All-append (λ x. (x == mark) ≡ false) w (other ∷ join_with_byte other (v ∷ vs)) h.0
    (All-cons (λ x. (x == mark) ≡ false) other (join_with_byte other (v ∷ vs)) e (IsFree-joined mark other (v ∷ vs) e h.1))

-- ---- numbers with commas between them

-- a text of numbers is their text, and has one at least
pub record AreRead (bound : ℕ) (text ns : List ℕ) : Type 0 where
  pub text_is : text ≡ numbers_text ns
  pub some : 0 < length ns
  pub within : All (λ n. n ≤ bound) ns

pub numbers_in-text : (bound : ℕ) (text ns : List ℕ) → numbers_in bound text ≡ Some ns → AreRead bound text ns
numbers_in-text bound text ns e =
    let words = slice_split (λ b. b == 44) text in
    let many : length words ≡ count_by (λ b. b == 44) text + 1 = length-slice_split (λ b. b == 44) text in
    let as_many : length ns ≡ length words = length-numbers_within bound words ns e in
    record {
      text_is = sym (join_with_byte-slice_split 44 text) ∙ ap (join_with_byte 44) (numbers_within-decimals bound words ns e);
      some = omega arith;
      within = All-numbers_within bound words ns e;
    }

-- the text of some numbers is read as them
pub text-numbers_in : (bound : ℕ) (ns : List ℕ) → 0 < length ns → bound < 2 ^ 64 → All (λ n. n ≤ bound) ns → numbers_in bound (numbers_text ns) ≡ Some ns
text-numbers_in bound ns some small low =
    let many : length (map decimal ns) ≡ length ns = length-map ns decimal in
    ap (numbers_within bound) (split_joined 44 (map decimal ns) (omega arith) (IsFree-decimals 44 bound ns (omega arith) small low))
    ∙ decimals-numbers_within bound ns small low

-- it has no byte below the digits but the comma
pub IsFree-numbers_text : (mark bound : ℕ) (ns : List ℕ) → mark < 48 → (44 == mark) ≡ false → bound < 2 ^ 64 → All (λ n. n ≤ bound) ns
    → IsFree mark (numbers_text ns)
IsFree-numbers_text mark bound ns h comma small low =
    IsFree-joined mark 44 (map decimal ns) comma (IsFree-decimals mark bound ns h small low)
