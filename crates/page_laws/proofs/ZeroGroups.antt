-- Zero bytes, eight at a time.
use Rattle.std.proofs.Common.{◌≡◌, ℕ, zero, suc, ◌+◌, ◌-◌, ◌*◌, ◌/◌, ◌≤◌, ◌==◌, Bool, true, ◌&&◌, List, [], ◌∷◌, length, take, drop, refl, sym, ap, ◌∙◌, arith}
use Rattle.std.specs.Int.{w64, from_le_bytes}
use Rattle.std.specs.Int.Bits.{bit_or, or_add_and}
use Rattle.std.specs.List.{list_all}
use Rattle.std.specs.Simd.{first_chunks}
use Rattle.std.proofs.Math.Bool.{and_assoc}
use Rattle.std.proofs.lemmas.Bool.Decides.{nat_tests}
use Rattle.std.proofs.lemmas.List.{take-append-drop, drop-drop, length-take-le, length-drop}
use Rattle.std.proofs.lemmas.List.Folds.{list_all-append}
use Rattle.std.proofs.lemmas.Nat.{le_or_l, le_or_r}
use Rattle.page_laws.specs.Pages.{are_zero}

-- two numbers have no bit if and only if both are zero
pub no_bits : (a b : ℕ) → (bit_or a b == 0) ≡ ((a == 0) && (b == 0))
no_bits a b = grind (arith, nat_tests, or_add_and a b, le_or_l a b, le_or_r a b)

abbrev pub is_zero_group : List ℕ → Bool
is_zero_group group = from_le_bytes w64 group == 0

eight : (a b c d e f g h : ℕ)
    → (((((((a + b * 256) + c * 65536) + d * 16777216) + e * 4294967296) + f * 1099511627776) + g * 281474976710656) + h * 72057594037927936 == 0)
    ≡ ((a == 0) && ((b == 0) && ((c == 0) && ((d == 0) && ((e == 0) && ((f == 0) && ((g == 0) && ((h == 0) && true))))))))
eight a b c d e f g h = grind (arith, nat_tests)

group_is_zero : (bytes : List ℕ) → length bytes ≡ 8 → is_zero_group bytes ≡ are_zero bytes
unfolding are_zero
group_is_zero [] long = absurd (omega (arith, long))
group_is_zero (a ∷ []) long = absurd (omega (arith, long))
group_is_zero (a ∷ b ∷ []) long = absurd (omega (arith, long))
group_is_zero (a ∷ b ∷ c ∷ []) long = absurd (omega (arith, long))
group_is_zero (a ∷ b ∷ c ∷ d ∷ []) long = absurd (omega (arith, long))
group_is_zero (a ∷ b ∷ c ∷ d ∷ e ∷ []) long = absurd (omega (arith, long))
group_is_zero (a ∷ b ∷ c ∷ d ∷ e ∷ f ∷ []) long = absurd (omega (arith, long))
group_is_zero (a ∷ b ∷ c ∷ d ∷ e ∷ f ∷ g ∷ []) long = absurd (omega (arith, long))
group_is_zero (a ∷ b ∷ c ∷ d ∷ e ∷ f ∷ g ∷ h ∷ []) long = eight a b c d e f g h
group_is_zero (a ∷ b ∷ c ∷ d ∷ e ∷ f ∷ g ∷ h ∷ i ∷ rest) long = absurd (omega (arith, long))

parted : (n : ℕ) (bytes : List ℕ) → (are_zero (take n bytes) && are_zero (drop n bytes)) ≡ are_zero bytes
unfolding are_zero
parted n bytes = sym (list_all-append (λ b. b == 0) (take n bytes) (drop n bytes)) ∙ ap are_zero (take-append-drop n bytes)

-- the bytes are zero if and only if so many groups of eight are, and what is behind them
pub groups_are_zero : (k n : ℕ) (bytes : List ℕ) → n ≡ k * 8 → n ≤ length bytes
    → (list_all is_zero_group (first_chunks 8 k bytes) && are_zero (drop n bytes)) ≡ are_zero bytes
groups_are_zero zero n bytes is fits =
    let none : n ≡ 0 = omega (arith, is) in
    ap (λ m. are_zero (drop m bytes)) none
groups_are_zero (suc k) n bytes is fits =
    let behind = drop 8 bytes in
    let more : n - 8 ≡ k * 8 = omega (arith, is) in
    let on : 8 + (n - 8) ≡ n = omega (arith, is) in
    let room : n - 8 ≤ length behind = omega (arith, fits, length-drop 8 bytes) in
    let first : is_zero_group (take 8 bytes) ≡ are_zero (take 8 bytes) = group_is_zero (take 8 bytes) (length-take-le 8 bytes (omega (arith, is, fits))) in
    let rest : (list_all is_zero_group (first_chunks 8 k behind) && are_zero (drop n bytes)) ≡ are_zero behind =
    ap (λ xs. list_all is_zero_group (first_chunks 8 k behind) && are_zero xs) (sym (drop-drop (n - 8) 8 bytes ∙ ap (λ m. drop m bytes) on))
    ∙ groups_are_zero k (n - 8) behind more room in
    and_assoc (is_zero_group (take 8 bytes)) (list_all is_zero_group (first_chunks 8 k behind)) (are_zero (drop n bytes))
    ∙ (λ i. first i && rest i)
    ∙ parted 8 bytes

-- the bytes are zero if and only if all groups of eight are, and what is behind them
pub by_groups : (bytes : List ℕ)
    → are_zero bytes
    ≡ (list_all (λ group. from_le_bytes w64 group == 0) (first_chunks 8 (length bytes / 8) bytes) && are_zero (drop (length bytes / 8 * 8) bytes))
by_groups bytes = sym (groups_are_zero (length bytes / 8) (length bytes / 8 * 8) bytes refl (omega arith))
