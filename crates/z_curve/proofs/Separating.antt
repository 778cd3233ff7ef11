-- The coordinates of a key, place by place.
use Rattle.std.proofs.Common.{◌≡◌, ℕ, zero, suc, ◌+◌, ◌-◌, ◌*◌, ◌/◌, ◌%◌, ◌^◌, ◌<◌, List, [], ◌∷◌, length, get_or, refl, sym, ap, subst, ◌∙◌, arith}
use Rattle.std.proofs.lemmas.Nat.{shr_below, shr_le}
use Rattle.curve_laws.specs.Grid.{IsKey}
use Rattle.z_curve.specs.ZOrder.{gathered, last_coordinates, z_cell}
use Rattle.z_curve.specs.Spacing.{most_bits}
use Rattle.z_curve.proofs.Interleaving.{bits-fit}

gathered-suc : (n b k : ℕ) → gathered n (suc b) k ≡ 2 * gathered n b (k / 2 ^ n) + k % 2
unfolding gathered
gathered-suc n b k = refl

gathered-zero : (n b : ℕ) → gathered n b 0 ≡ 0
unfolding gathered
gathered-zero n zero = refl
gathered-zero n (suc b) =
    let none : 0 / 2 ^ n ≡ 0 = omega arith in
    rw (none, gathered-zero n b) (omega arith)

-- of a short key nothing is left for more bits
gathered-longer : (n b c k : ℕ) → k < 2 ^ (n * b) → gathered n (b + c) k ≡ gathered n b k
gathered-longer n zero c k small =
    let count : n * zero ≡ 0 = omega arith in
    let few : k < 2 ^ 0 = subst (λ t. k < 2 ^ t) count small in
    let none : k ≡ 0 = omega arith in
    ap (λ t. gathered n (0 + c) t) none ∙ gathered-zero n (0 + c) ∙ sym (gathered-zero n 0) ∙ ap (λ t. gathered n 0 t) (sym none)
gathered-longer n (suc b) c k small =
    let count : suc b + c ≡ suc (b + c) = omega arith in
    let level : n * suc b ≡ n * b + n = omega arith in
    let below : k / 2 ^ n < 2 ^ (n * b) = shr_below k (n * b) n (subst (λ t. k < 2 ^ t) level small) in
    ap (λ t. gathered n t k) count ∙ gathered-suc n (b + c) k ∙ ap (λ t. 2 * t + k % 2) (gathered-longer n b c (k / 2 ^ n) below) ∙ sym (gathered-suc n b k)

-- a list that has the coordinates at their places is the cell
cell_by_places : (n b m k : ℕ) (v : List ℕ) → length v ≡ m → ((i : ℕ) → i < m → get_or v i 0 ≡ gathered n b (k / 2 ^ (m - 1 - i)))
    → v ≡ last_coordinates n b m k
unfolding last_coordinates
cell_by_places n b zero k [] long each = refl
cell_by_places n b zero k (x ∷ xs) long each = absurd (omega arith)
cell_by_places n b (suc m) k [] long each = absurd (omega arith)
cell_by_places n b (suc m) k (x ∷ xs) long each =
    let place : suc m - 1 - 0 ≡ m = omega arith in
    let first : x ≡ gathered n b (k / 2 ^ m) = each 0 (omega arith) ∙ ap (λ t. gathered n b (k / 2 ^ t)) place in
    let rest : xs ≡ last_coordinates n b m k = cell_by_places n b m k xs (omega arith) (λ i h.
    let next : suc m - 1 - suc i ≡ m - 1 - i = omega arith in
    each (suc i) (omega arith) ∙ ap (λ t. gathered n b (k / 2 ^ t)) next) in
    cc

pub separated : (n b k : ℕ) (v : List ℕ) → IsKey n b k → length v ≡ n → ((i : ℕ) → i < n → get_or v i 0 ≡ gathered n (most_bits n) (k / 2 ^ (n - 1 - i)))
    → v ≡ z_cell n b k
separated n b k v key long each =
    let room : b + (most_bits n - b) ≡ most_bits n = omega (arith, bits-fit n b key.grid) in
    cell_by_places n b n k v long (λ i h.
    let short : k / 2 ^ (n - 1 - i) < 2 ^ (n * b) = omega (arith, shr_le k (n - 1 - i), key.below) in
    each i h ∙ ap (λ t. gathered n t (k / 2 ^ (n - 1 - i))) (sym room) ∙ gathered-longer n b (most_bits n - b) (k / 2 ^ (n - 1 - i)) short)
