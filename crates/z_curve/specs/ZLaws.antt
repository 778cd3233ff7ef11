-- Laws of the Z-order curve: cells and keys belong to each other, one to one.
use Rattle.std.proofs.Common.{◌≡◌, ℕ, zero, suc, ◌+◌, ◌*◌, ◌/◌, ◌%◌, ◌^◌, ◌<◌, List, [], ◌∷◌, length, refl, sym, ap, subst, ◌∙◌, arith}
use Rattle.std.specs.Prelude.{All}
use Rattle.std.proofs.lemmas.List.{length-map}
use Rattle.std.proofs.lemmas.List.Elements.{All-tail}
use Rattle.std.proofs.lemmas.Nat.{pow_pos, pow-add, shr-shr, mod-pow-add, mul-add-lt, same_from_place, div-add-mod', shr_high, mod_low, shr_below}
use Rattle.std.proofs.Math.Nat.{add_comm}
use Rattle.curve_laws.specs.Laws.{IsCurve}
use Rattle.z_curve.specs.ZOrder.{halves, low_bits, z_key, gathered, last_coordinates, z_cell}

-- ---- bounds

-- the lowest bits of a row are as many as the row is long
pub low_bits-below : (v : List ℕ) → low_bits v < 2 ^ length v
unfolding low_bits
low_bits-below [] = omega arith
low_bits-below (x ∷ xs) =
    let bit : x % 2 < 2 = omega arith in
    let row : (x % 2) * 2 ^ length xs + low_bits xs < 2 ^ length xs * 2 = mul-add-lt (x % 2) (2 ^ length xs) (low_bits xs) 2 bit (low_bits-below xs) in
    let twice : 2 ^ (1 + length xs) ≡ 2 ^ 1 * 2 ^ length xs = pow-add 2 1 (length xs) in
    let same : 1 + length xs ≡ suc (length xs) = omega arith in
    subst (λ n. (x % 2) * 2 ^ length xs + low_bits xs < 2 ^ n) same (omega (arith, row, twice))

-- one group more
group_more : (n b : ℕ) → 2 ^ (n * suc b) ≡ 2 ^ n * 2 ^ (n * b)
group_more n b =
    let same : n * suc b ≡ n + n * b = omega arith in
    ap (λ k. 2 ^ k) same ∙ pow-add 2 n (n * b)

-- a key has as many bits as the coordinates together
pub z_key-below : (b : ℕ) (v : List ℕ) → z_key b v < 2 ^ (length v * b)
unfolding z_key
z_key-below zero v = pow_pos (length v * zero)
z_key-below (suc b) v =
    let above : z_key b (halves v) < 2 ^ (length v * b) =
    subst (λ n. z_key b (halves v) < 2 ^ (n * b)) (length-map v (λ x. x / 2)) (z_key-below b (halves v)) in
    let row : z_key b (halves v) * 2 ^ length v + low_bits v < 2 ^ length v * 2 ^ (length v * b) =
    mul-add-lt (z_key b (halves v)) (2 ^ length v) (low_bits v) (2 ^ (length v * b)) above (low_bits-below v) in
    omega (arith, row, group_more (length v) b)

-- a gathered number has its bits
pub gathered-below : (n b k : ℕ) → gathered n b k < 2 ^ b
unfolding gathered
gathered-below n zero k = omega arith
gathered-below n (suc b) k =
    let rest : gathered n b (k / 2 ^ n) < 2 ^ b = gathered-below n b (k / 2 ^ n) in
    let same : 1 + b ≡ suc b = omega arith in
    subst (λ j. 2 * gathered n b (k / 2 ^ n) + k % 2 < 2 ^ j) same (omega (arith, rest, pow-add 2 1 b))

-- the coordinates of a key have their bits
pub All-last_coordinates : (n b m k : ℕ) → All (λ x. x < 2 ^ b) (last_coordinates n b m k)
unfolding last_coordinates
All-last_coordinates n b zero k i d h = absurd (omega arith)
All-last_coordinates n b (suc m) k zero d h = gathered-below n b (k / 2 ^ m)
All-last_coordinates n b (suc m) k (suc i) d h = All-last_coordinates n b m k i d (omega arith)

pub length-last_coordinates : (n b m k : ℕ) → length (last_coordinates n b m k) ≡ m
unfolding last_coordinates
length-last_coordinates n b zero k = refl
length-last_coordinates n b (suc m) k = ap suc (length-last_coordinates n b m k)

-- ---- from a cell to its key and back

-- the order of two shifts is free
shifts_swap : (k i j : ℕ) → k / 2 ^ i / 2 ^ j ≡ k / 2 ^ j / 2 ^ i
shifts_swap k i j = shr-shr k i j ∙ ap (λ n. k / 2 ^ n) (add_comm i j) ∙ sym (shr-shr k j i)

-- the first of a row of lowest bits, and the others
first_bit : (q x m : ℕ) (xs : List ℕ) → length xs ≡ m → q % 2 ^ suc m ≡ low_bits (x ∷ xs) →
    (q / 2 ^ m % 2 ≡ x % 2) × (q % 2 ^ m ≡ low_bits xs)
unfolding low_bits
first_bit q x m xs long e =
    let same : 1 + m ≡ suc m = omega arith in
    let split : q % 2 ^ (1 + m) ≡ (q / 2 ^ m % 2 ^ 1) * 2 ^ m + q % 2 ^ m = mod-pow-add q 1 m in
    let whole : q % 2 ^ (1 + m) ≡ q % 2 ^ suc m = ap (λ n. q % 2 ^ n) same in
    let row : low_bits (x ∷ xs) ≡ (x % 2) * 2 ^ m + low_bits xs = ap (λ n. (x % 2) * 2 ^ n + low_bits xs) long in
    let small : low_bits xs < 2 ^ m = subst (λ n. low_bits xs < 2 ^ n) long (low_bits-below xs) in
    let positive : 0 < 2 ^ m = pow_pos m in
    let other : q % 2 ^ m < 2 ^ m = omega arith in
    same_from_place (q / 2 ^ m % 2) (q % 2 ^ m) (x % 2) (low_bits xs) (2 ^ m) other small (sym split ∙ whole ∙ e ∙ row)

-- one group more gives each coordinate one bit more
coordinates_back : (n b q : ℕ) (xs : List ℕ) → q % 2 ^ length xs ≡ low_bits xs →
    last_coordinates n b (length xs) (q / 2 ^ n) ≡ halves xs → last_coordinates n (suc b) (length xs) q ≡ xs
unfolding last_coordinates gathered
coordinates_back n b q [] e h = refl
coordinates_back n b q (x ∷ xs) e h =
    let bits = first_bit q x (length xs) xs refl e in
    let half : gathered n b (q / 2 ^ n / 2 ^ length xs) ≡ x / 2 = cc in
    let others : last_coordinates n b (length xs) (q / 2 ^ n) ≡ halves xs = cc in
    let swap : q / 2 ^ length xs / 2 ^ n ≡ q / 2 ^ n / 2 ^ length xs = shifts_swap q (length xs) n in
    let first : 2 * gathered n b (q / 2 ^ length xs / 2 ^ n) + q / 2 ^ length xs % 2 ≡ x =
    rw swap (omega (arith, half, bits.0)) in
    let rest : last_coordinates n (suc b) (length xs) q ≡ xs = coordinates_back n b q xs bits.1 others in
    cc

-- coordinates without bits are zero
no_bits : (n k : ℕ) (v : List ℕ) → All (λ x. x < 2 ^ 0) v → last_coordinates n 0 (length v) k ≡ v
unfolding last_coordinates gathered
no_bits n k [] h = refl
no_bits n k (x ∷ xs) h =
    let none : x < 2 ^ 0 = h 0 0 (omega arith) in
    let first : 0 ≡ x = omega arith in
    let rest : last_coordinates n 0 (length xs) k ≡ xs = no_bits n k xs (All-tail (λ y. y < 2 ^ 0) x xs h) in
    cc

-- halves have a bit less
All-halves : (b : ℕ) (v : List ℕ) → All (λ x. x < 2 ^ suc b) v → All (λ x. x < 2 ^ b) (halves v)
All-halves b [] h i d k = absurd (omega arith)
All-halves b (x ∷ xs) h zero d k =
    let below : x < 2 ^ suc b = h 0 0 (omega arith) in
    let same : suc b ≡ b + 1 = omega arith in
    shr_below x b 1 (subst (λ n. x < 2 ^ n) same below)
All-halves b (x ∷ xs) h (suc i) d k = All-halves b xs (All-tail (λ y. y < 2 ^ suc b) x xs h) i d (omega arith)

pub cell_back : (b : ℕ) (v : List ℕ) → All (λ x. x < 2 ^ b) v → z_cell (length v) b (z_key b v) ≡ v
unfolding z_key
cell_back zero v h = no_bits (length v) 0 v h
cell_back (suc b) v h =
    let above : z_cell (length (halves v)) b (z_key b (halves v)) ≡ halves v = cell_back b (halves v) (All-halves b v h) in
    let upper : z_cell (length v) b (z_key b (halves v)) ≡ halves v =
    subst (λ n. z_cell n b (z_key b (halves v)) ≡ halves v) (length-map v (λ x. x / 2)) above in
    let low : low_bits v < 2 ^ length v = low_bits-below v in
    let turned : 2 ^ length v * z_key b (halves v) + low_bits v ≡ z_key b (halves v) * 2 ^ length v + low_bits v = omega arith in
    let high : (2 ^ length v * z_key b (halves v) + low_bits v) / 2 ^ length v ≡ z_key b (halves v) =
    ap (λ q. q / 2 ^ length v) turned ∙ shr_high (z_key b (halves v)) (length v) (low_bits v) low in
    let group : (2 ^ length v * z_key b (halves v) + low_bits v) % 2 ^ length v ≡ low_bits v =
    ap (λ q. q % 2 ^ length v) turned ∙ mod_low (z_key b (halves v)) (length v) (low_bits v) low in
    coordinates_back (length v) b (2 ^ length v * z_key b (halves v) + low_bits v) v group
    (ap (λ k. last_coordinates (length v) b (length v) k) high ∙ upper)

-- ---- from a key to its cell and back

-- without their lowest bits the coordinates are those of the key without its lowest group
halves-last_coordinates : (n b m k : ℕ) → halves (last_coordinates n (suc b) m k) ≡ last_coordinates n b m (k / 2 ^ n)
unfolding last_coordinates gathered
halves-last_coordinates n b zero k = refl
halves-last_coordinates n b (suc m) k =
    let swap : k / 2 ^ m / 2 ^ n ≡ k / 2 ^ n / 2 ^ m = shifts_swap k m n in
    let half : (2 * gathered n b (k / 2 ^ m / 2 ^ n) + k / 2 ^ m % 2) / 2 ≡ gathered n b (k / 2 ^ m / 2 ^ n) = omega arith in
    let first : (2 * gathered n b (k / 2 ^ m / 2 ^ n) + k / 2 ^ m % 2) / 2 ≡ gathered n b (k / 2 ^ n / 2 ^ m) = half ∙ ap (λ q. gathered n b q) swap in
    let rest : halves (last_coordinates n (suc b) m k) ≡ last_coordinates n b m (k / 2 ^ n) = halves-last_coordinates n b m k in
    cc

-- their lowest bits are the key's lowest group
low_bits-last_coordinates : (n b m k : ℕ) → low_bits (last_coordinates n (suc b) m k) ≡ k % 2 ^ m
unfolding last_coordinates gathered low_bits
low_bits-last_coordinates n b zero k = omega arith
low_bits-last_coordinates n b (suc m) k =
    let long : length (last_coordinates n (suc b) m k) ≡ m = length-last_coordinates n (suc b) m k in
    let bit : (2 * gathered n b (k / 2 ^ m / 2 ^ n) + k / 2 ^ m % 2) % 2 ≡ k / 2 ^ m % 2 = omega arith in
    let rest : low_bits (last_coordinates n (suc b) m k) ≡ k % 2 ^ m = low_bits-last_coordinates n b m k in
    let same : 1 + m ≡ suc m = omega arith in
    let split : (k / 2 ^ m % 2) * 2 ^ m + k % 2 ^ m ≡ k % 2 ^ suc m = sym (mod-pow-add k 1 m) ∙ ap (λ n. k % 2 ^ n) same in
    rw (long, bit, rest) split

pub key_back : (n b k : ℕ) → k < 2 ^ (n * b) → z_key b (z_cell n b k) ≡ k
unfolding z_key
key_back n zero k h =
    let same : n * zero ≡ 0 = omega arith in
    let none : k < 2 ^ 0 = subst (λ j. k < 2 ^ j) same h in
    omega (arith, none)
key_back n (suc b) k h =
    let same : n * suc b ≡ n * b + n = omega arith in
    let below : k / 2 ^ n < 2 ^ (n * b) = shr_below k (n * b) n (subst (λ j. k < 2 ^ j) same h) in
    let above : z_key b (last_coordinates n b n (k / 2 ^ n)) ≡ k / 2 ^ n = key_back n b (k / 2 ^ n) below in
    let split : k / 2 ^ n * 2 ^ n + k % 2 ^ n ≡ k = div-add-mod' k (2 ^ n) in
    rw (length-last_coordinates n (suc b) n k, halves-last_coordinates n b n k, low_bits-last_coordinates n b n k, above) (omega (arith, split))

-- ---- the curve

pub is_curve : (n b : ℕ) → IsCurve n b (z_key b) (z_cell n b)
is_curve n b = record {
  key_of_cell = λ v cell. record {
    grid = cell.grid;
    below = subst (λ m. z_key b v < 2 ^ (m * b)) cell.axes (z_key-below b v);
  };
  cell_of_key = λ k key. record {
    grid = key.grid;
    axes = length-last_coordinates n b n k;
    below = All-last_coordinates n b n k;
  };
  cell_back = λ v cell. subst (λ m. z_cell m b (z_key b v) ≡ v) cell.axes (cell_back b v cell.below);
  key_back = λ k key. key_back n b k key.below;
}
