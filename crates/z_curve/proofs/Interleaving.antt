-- A key is the sum of its coordinates' bits, set apart and moved to their places.
use Rattle.std.proofs.Common.{◌≡◌, ℕ, zero, suc, ◌+◌, ◌-◌, ◌*◌, ◌/◌, ◌%◌, ◌^◌, ◌<◌, ◌≤◌, List, [], ◌∷◌, ◌++◌, length, length-append, take, drop, get_or, refl, sym, ap, subst, ◌∙◌, inl, inr, arith}
use Rattle.std.specs.Prelude.{All}
use Rattle.std.proofs.lemmas.Bool.{cases_lt}
use Rattle.std.proofs.lemmas.List.{length-map, take-append-drop, take_more, take_all}
use Rattle.std.proofs.lemmas.List.Elements.{All-tail}
use Rattle.std.proofs.lemmas.Nat.{pow_pos, pow-add, shr_below, mul-le, le-div}
use Rattle.std.proofs.Math.Nat.{pow-le-pow_right}
use Rattle.curve_laws.specs.Grid.{IsGrid, IsCell}
use Rattle.curve_laws.specs.GridLaws.{cell_up_to}
use Rattle.curve_laws.specs.Vectors.{IsUpTo, length-IsUpTo}
use Rattle.z_curve.specs.ZOrder.{halves, low_bits, z_key}
use Rattle.z_curve.specs.ZLaws.{z_key-below}
use Rattle.z_curve.specs.Spacing.{most_bits, pieces, spread}
use Rattle.z_curve.proofs.Pieces.{pieces-one, pieces-zero}

-- the coordinates' bits, the last coordinate's from the lowest place on, the one before it from the next
unfoldable pub interleaved : ℕ → ℕ → List ℕ → ℕ
interleaved n b [] = 0
interleaved n b (x ∷ xs) = spread n b x * 2 ^ length xs + interleaved n b xs

-- ---- a key is so interleaved

no_groups : (n : ℕ) (v : List ℕ) → 0 ≡ interleaved n zero v
unfolding interleaved pieces
no_groups n [] = refl
no_groups n (x ∷ xs) = omega (arith, no_groups n xs)

-- one place more
group_more : (p s l h bit low : ℕ) → (s * p + bit) * l + (p * h + low) ≡ p * (s * l + h) + (bit * l + low)
group_more p s l h bit low = omega arith

interleaved-suc : (n b : ℕ) (v : List ℕ) → interleaved n (suc b) v ≡ 2 ^ n * interleaved n b (halves v) + low_bits v
unfolding interleaved low_bits
interleaved-suc n b [] = omega arith
interleaved-suc n b (x ∷ xs) =
    let long : length (halves xs) ≡ length xs = length-map xs (λ y. y / 2) in
    let first : spread n (suc b) x ≡ spread n b (x / 2 ^ 1) * 2 ^ n + x % 2 ^ 1 = pieces-one 1 n b x in
    let rest : interleaved n (suc b) xs ≡ 2 ^ n * interleaved n b (halves xs) + low_bits xs = interleaved-suc n b xs in
    ap (λ t. t * 2 ^ length xs + interleaved n (suc b) xs) first
    ∙ ap (λ t. (spread n b (x / 2 ^ 1) * 2 ^ n + x % 2 ^ 1) * 2 ^ length xs + t) rest
    ∙ group_more (2 ^ n) (spread n b (x / 2 ^ 1)) (2 ^ length xs) (interleaved n b (halves xs)) (x % 2 ^ 1) (low_bits xs)
    ∙ ap (λ t. 2 ^ n * (spread n b (x / 2) * 2 ^ t + interleaved n b (halves xs)) + (x % 2 * 2 ^ length xs + low_bits xs)) (sym long)

pub z_key-interleaved : (n b : ℕ) (v : List ℕ) → length v ≡ n → z_key b v ≡ interleaved n b v
unfolding z_key
z_key-interleaved n zero v long = no_groups n v
z_key-interleaved n (suc b) v long =
    let above : z_key b (halves v) ≡ interleaved n b (halves v) = z_key-interleaved n b (halves v) (length-map v (λ y. y / 2) ∙ long) in
    ap (λ t. 2 ^ t * z_key b (halves v) + low_bits v) long ∙ ap (λ t. 2 ^ n * t + low_bits v) above ∙ sym (interleaved-suc n b v)

-- ---- one coordinate after the other

append_more : (s l m a c : ℕ) → s * (l * m) + (a * m + c) ≡ (s * l + a) * m + c
append_more s l m a c = omega arith

pub interleaved-append : (n b : ℕ) (xs ys : List ℕ) → interleaved n b (xs ++ ys) ≡ interleaved n b xs * 2 ^ length ys + interleaved n b ys
unfolding interleaved
interleaved-append n b [] ys = omega arith
interleaved-append n b (x ∷ xs) ys =
    let long : length (xs ++ ys) ≡ length xs + length ys = length-append xs ys in
    let power : 2 ^ length (xs ++ ys) ≡ 2 ^ length xs * 2 ^ length ys = ap (λ t. 2 ^ t) long ∙ pow-add 2 (length xs) (length ys) in
    ap (λ t. spread n b x * t + interleaved n b (xs ++ ys)) power
    ∙ ap (λ t. spread n b x * (2 ^ length xs * 2 ^ length ys) + t) (interleaved-append n b xs ys)
    ∙ append_more (spread n b x) (2 ^ length xs) (2 ^ length ys) (interleaved n b xs) (interleaved n b ys)

single : (n b x : ℕ) → interleaved n b (x ∷ []) ≡ spread n b x
unfolding interleaved
single n b x = omega arith

-- one coordinate more
pub interleaved_more : (n b i : ℕ) (v : List ℕ) → i < length v → interleaved n b (take (i + 1) v) ≡ interleaved n b (take i v) * 2 + spread n b (get_or v i 0)
interleaved_more n b i v h =
    ap (λ t. interleaved n b t) (take_more v i 0 h) ∙ interleaved-append n b (take i v) (get_or v i 0 ∷ [])
    ∙ ap (λ t. interleaved n b (take i v) * 2 + t) (single n b (get_or v i 0))

-- a prefix gives no more than all
pub interleaved-front : (n b i : ℕ) (v : List ℕ) → interleaved n b (take i v) ≤ interleaved n b v
interleaved-front n b i v =
    let whole : take i v ++ drop i v ≡ v = take-append-drop i v in
    let split : interleaved n b v ≡ interleaved n b (take i v) * 2 ^ length (drop i v) + interleaved n b (drop i v) =
    ap (λ t. interleaved n b t) (sym whole) ∙ interleaved-append n b (take i v) (drop i v) in
    let product : interleaved n b (take i v) * 1 ≤ interleaved n b (take i v) * 2 ^ length (drop i v) =
    mul-le (interleaved n b (take i v)) 1 (interleaved n b (take i v)) (2 ^ length (drop i v)) (omega arith) (pow_pos (length (drop i v))) in
    omega arith

-- ---- bits that aren't there

spread_more : (n b c x : ℕ) → x < 2 ^ b → spread n (b + c) x ≡ spread n b x
spread_more n zero c x small =
    let none : x ≡ 0 = omega arith in
    let count : 0 + c ≡ c = omega arith in
    ap (λ t. spread n t x) count ∙ ap (λ t. spread n c t) none ∙ pieces-zero 1 n c ∙ sym (pieces-zero 1 n 0) ∙ ap (λ t. spread n 0 t) (sym none)
spread_more n (suc b) c x small =
    let count : suc b + c ≡ suc (b + c) = omega arith in
    let level : suc b ≡ b + 1 = omega arith in
    let half : x / 2 ^ 1 < 2 ^ b = shr_below x b 1 (subst (λ t. x < 2 ^ t) level small) in
    ap (λ t. spread n t x) count ∙ pieces-one 1 n (b + c) x ∙ ap (λ t. t * 2 ^ n + x % 2 ^ 1) (spread_more n b c (x / 2 ^ 1) half) ∙ sym (pieces-one 1 n b x)

pub interleaved-longer : (n b c : ℕ) (v : List ℕ) → All (λ x. x < 2 ^ b) v → interleaved n (b + c) v ≡ interleaved n b v
unfolding interleaved
interleaved-longer n b c [] h = refl
interleaved-longer n b c (x ∷ xs) h =
    ap (λ t. t * 2 ^ length xs + interleaved n (b + c) xs) (spread_more n b c x (h 0 0 (omega arith)))
    ∙ ap (λ t. spread n b x * 2 ^ length xs + t) (interleaved-longer n b c xs (All-tail (λ y. y < 2 ^ b) x xs h))

-- ---- the order

spread-lt : (n b x y : ℕ) → 1 ≤ n → x < y → y < 2 ^ b → spread n b x < spread n b y
spread-lt n zero x y some less small = absurd (omega arith)
spread-lt n (suc b) x y some less small =
    let level : suc b ≡ b + 1 = omega arith in
    let half : y / 2 ^ 1 < 2 ^ b = shr_below y b 1 (subst (λ t. y < 2 ^ t) level small) in
    let places : 2 ^ 1 ≤ 2 ^ n = pow-le-pow_right {n = 2} (omega arith) some in
    elim (cases_lt (x / 2 ^ 1) (y / 2 ^ 1)) [
      | inl below ↦
          let above : spread n b (x / 2 ^ 1) < spread n b (y / 2 ^ 1) = spread-lt n b (x / 2 ^ 1) (y / 2 ^ 1) some below half in
          let product : (spread n b (x / 2 ^ 1) + 1) * 2 ^ n ≤ spread n b (y / 2 ^ 1) * 2 ^ n =
          mul-le (spread n b (x / 2 ^ 1) + 1) (2 ^ n) (spread n b (y / 2 ^ 1)) (2 ^ n) (omega arith) (omega arith) in
          let bits : spread n b (x / 2 ^ 1) * 2 ^ n + x % 2 ^ 1 < spread n b (y / 2 ^ 1) * 2 ^ n + y % 2 ^ 1 = omega arith in
          omega (arith, bits, pieces-one 1 n b x, pieces-one 1 n b y)
      | inr not_below ↦
          let same : x / 2 ^ 1 ≡ y / 2 ^ 1 = omega arith in
          let bits : x % 2 ^ 1 < y % 2 ^ 1 = omega arith in
          let above : spread n b (x / 2 ^ 1) * 2 ^ n ≡ spread n b (y / 2 ^ 1) * 2 ^ n = ap (λ t. spread n b t * 2 ^ n) same in
          omega (arith, bits, above, pieces-one 1 n b x, pieces-one 1 n b y)
    ]

spread-le : (n b x y : ℕ) → 1 ≤ n → x ≤ y → y < 2 ^ b → spread n b x ≤ spread n b y
spread-le n b x y some less small = elim (cases_lt x y) [
  | inl below ↦ let strict : spread n b x < spread n b y = spread-lt n b x y some below small in omega arith
  | inr not_below ↦ let same : x ≡ y = omega arith in let equal : spread n b x ≡ spread n b y = ap (λ t. spread n b t) same in omega arith
]

pub interleaved-le : (n b : ℕ) (v w : List ℕ) → 1 ≤ n → IsUpTo v w → All (λ x. x < 2 ^ b) w → interleaved n b v ≤ interleaved n b w
unfolding interleaved
interleaved-le n b [] [] some h k = omega arith
interleaved-le n b [] (y ∷ ys) some h k = absurd h
interleaved-le n b (x ∷ xs) [] some h k = absurd h
interleaved-le n b (x ∷ xs) (y ∷ ys) some h k =
    let first : spread n b x ≤ spread n b y = spread-le n b x y some h.0 (k 0 0 (omega arith)) in
    let long : length xs ≡ length ys = length-IsUpTo xs ys h.1 in
    let power : 2 ^ length xs ≡ 2 ^ length ys = ap (λ t. 2 ^ t) long in
    let rest : interleaved n b xs ≤ interleaved n b ys = interleaved-le n b xs ys some h.1 (All-tail (λ z. z < 2 ^ b) y ys k) in
    let product : spread n b x * 2 ^ length xs ≤ spread n b y * 2 ^ length ys =
    mul-le (spread n b x) (2 ^ length xs) (spread n b y) (2 ^ length ys) first (omega arith) in
    omega arith

-- of two vectors, the one that exceeds the other in no coordinate has no greater key
pub z_key-le : (n b : ℕ) (v w : List ℕ) → 1 ≤ n → length w ≡ n → IsUpTo v w → All (λ x. x < 2 ^ b) w → z_key b v ≤ z_key b w
z_key-le n b v w some long up_to below =
    let as_long : length v ≡ n = length-IsUpTo v w up_to ∙ long in
    let order : interleaved n b v ≤ interleaved n b w = interleaved-le n b v w some up_to below in
    omega (arith, z_key-interleaved n b v as_long, z_key-interleaved n b w long)

-- ---- what fits

-- coordinates in range have no more bits than there is room for
pub bits-fit : (n b : ℕ) → IsGrid n b → b ≤ most_bits n
bits-fit n b range =
    let some : 1 ≤ n = range.some_axis in
    let few : b * n ≤ 64 = omega (arith, range.fits) in
    let each : b ≤ 64 / n = le-div b 64 n some few in
    let short : b ≤ 32 = range.few_bits in
    omega arith

pub below-most_bits : (n b x : ℕ) → IsGrid n b → x < 2 ^ b → x < 2 ^ most_bits n
below-most_bits n b x range small =
    let power : 2 ^ b ≤ 2 ^ most_bits n = pow-le-pow_right {n = 2} (omega arith) (bits-fit n b range) in
    omega arith

-- the key of a cell is interleaved from its coordinates as numbers of 32 bits
pub key-interleaved : (n b : ℕ) (v : List ℕ) → IsCell n b v → z_key b v ≡ interleaved n 32 v
key-interleaved n b v cell =
    let few : b ≤ 32 = cell.grid.few_bits in
    let rest : b + (32 - b) ≡ 32 = omega arith in
    z_key-interleaved n b v cell.axes ∙ sym (interleaved-longer n b (32 - b) v cell.below) ∙ ap (λ t. interleaved n t v) rest

-- it fits
pub key-fits : (n b : ℕ) (v : List ℕ) → IsCell n b v → interleaved n 32 v < 2 ^ 64
key-fits n b v cell =
    let below : z_key b v < 2 ^ (length v * b) = z_key-below b v in
    let bits : length v * b ≤ 64 = subst (λ t. t * b ≤ 64) (sym cell.axes) cell.grid.fits in
    let power : 2 ^ (length v * b) ≤ 2 ^ 64 = pow-le-pow_right {n = 2} (omega arith) bits in
    omega (arith, below, power, key-interleaved n b v cell)

-- ---- the corners

-- a vector between two corners has a key between theirs
pub key_between : (n b : ℕ) (low v high : List ℕ) → IsCell n b high → IsUpTo low v → IsUpTo v high → (z_key b low ≤ z_key b v) × (z_key b v ≤ z_key b high)
key_between n b low v high cell above below =
    let long : length v ≡ n = length-IsUpTo v high below ∙ cell.axes in
    let some : 1 ≤ n = cell.grid.some_axis in
    (z_key-le n b low v some long above (cell_up_to n b v high cell below).below, z_key-le n b v high some cell.axes below cell.below)

-- without coordinates there is nothing
pub nothing_interleaved : (n b : ℕ) → 0 ≡ interleaved n b []
unfolding interleaved
nothing_interleaved n b = refl

-- one coordinate more fits, and is interleaved
pub one_more : (n b i key s : ℕ) (v : List ℕ) → IsCell n b v → i < length v → key ≡ interleaved n 32 (take i v) → s ≡ spread n 32 (get_or v i 0) →
    (key * 2 + s ≡ interleaved n 32 (take (i + 1) v)) × (key * 2 + s < 2 ^ 64)
one_more n b i key s v cell h front bits =
    let more : interleaved n 32 (take (i + 1) v) ≡ interleaved n 32 (take i v) * 2 + spread n 32 (get_or v i 0) = interleaved_more n 32 i v h in
    let part : interleaved n 32 (take (i + 1) v) ≤ interleaved n 32 v = interleaved-front n 32 (i + 1) v in
    let whole : interleaved n 32 v < 2 ^ 64 = key-fits n b v cell in
    (omega (arith, more, front, bits), omega (arith, more, front, bits, part, whole))

-- a coordinate has the bits that there is room for
pub coordinate-below : (n b i : ℕ) (v : List ℕ) → IsCell n b v → i < length v → get_or v i 0 < 2 ^ most_bits n
coordinate-below n b i v cell h = below-most_bits n b (get_or v i 0) cell.grid (cell.below i 0 h)

-- all coordinates are the key
pub whole_key : (n b i key : ℕ) (v : List ℕ) → IsCell n b v → key ≡ interleaved n 32 (take i v) → length v ≤ i → key ≡ z_key b v
whole_key n b i key v cell front ended =
    front ∙ ap (λ t. interleaved n 32 t) (take_all i v ended) ∙ sym (key-interleaved n b v cell)
