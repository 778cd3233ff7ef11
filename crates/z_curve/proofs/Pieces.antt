-- Pieces of a number, cut in two or joined by one shift and one mask.
use Rattle.std.proofs.Common.{◌≡◌, ℕ, zero, suc, ◌+◌, ◌-◌, ◌*◌, ◌/◌, ◌%◌, ◌^◌, ◌<◌, ◌≤◌, bit_and, bit_or, refl, sym, ap, subst, ◌∙◌, arith}
use Rattle.std.proofs.lemmas.Nat.{pow_pos, pow-add, shr-shr, shr_split, mod-pow-add, and_mod, and_shr, and_block, or_block, or_shr, or_mod, or_lt, or_shifted, or_comm, and_le_r, shr_high, mod_low, mod_below, mul-le, mul-add-lt, shl_below}
use Rattle.std.proofs.Math.Nat.{pow-le-pow_right, add_comm}
use Rattle.z_curve.specs.Spacing.{pieces}
use Rattle.z_curve.specs.ZOrder.{gathered}

-- ---- masks

-- a mask of k bits sees no bit above them
pub and_low : (y k m : ℕ) → m < 2 ^ k → bit_and y m ≡ bit_and (y % 2 ^ k) m
and_low y k m h =
    let whole : y / 2 ^ k * 2 ^ k + y % 2 ^ k ≡ y = shr_split y k in
    let below : y % 2 ^ k < 2 ^ k = mod_below y (2 ^ k) (pow_pos k) in
    let block : bit_and (y / 2 ^ k * 2 ^ k + y % 2 ^ k) (0 * 2 ^ k + m) ≡ bit_and (y / 2 ^ k) 0 * 2 ^ k + bit_and (y % 2 ^ k) m =
    and_block k (y / 2 ^ k) 0 (y % 2 ^ k) m below h in
    let none : bit_and (y / 2 ^ k) 0 ≡ 0 = omega (arith, and_le_r (y / 2 ^ k) 0) in
    let mask : 0 * 2 ^ k + m ≡ m = omega arith in
    let front : bit_and (y / 2 ^ k * 2 ^ k + y % 2 ^ k) (0 * 2 ^ k + m) ≡ bit_and y m = cc in
    let back : bit_and (y / 2 ^ k) 0 * 2 ^ k + bit_and (y % 2 ^ k) m ≡ bit_and (y % 2 ^ k) m = rw none (omega arith) in
    sym front ∙ block ∙ back

-- what a shift carries past the mask doesn't matter
pub or_within : (a s m k : ℕ) → m < 2 ^ k → bit_and (bit_or a (s % 2 ^ k)) m ≡ bit_and (bit_or a s) m
or_within a s m k h =
    let positive : 0 < 2 ^ k = pow_pos k in
    let below : s % 2 ^ k < 2 ^ k = mod_below s (2 ^ k) positive in
    let alone : 0 * 2 ^ k + s % 2 ^ k ≡ s % 2 ^ k = omega arith in
    let twice : s % 2 ^ k % 2 ^ k ≡ s % 2 ^ k = ap (λ t. t % 2 ^ k) (sym alone) ∙ mod_low 0 k (s % 2 ^ k) below in
    let same : bit_or a (s % 2 ^ k) % 2 ^ k ≡ bit_or a s % 2 ^ k =
    or_mod a (s % 2 ^ k) k ∙ ap (λ t. bit_or (a % 2 ^ k) t) twice ∙ sym (or_mod a s k) in
    and_low (bit_or a (s % 2 ^ k)) k m h ∙ ap (λ t. bit_and t m) same ∙ sym (and_low (bit_or a s) k m h)

-- the lowest piece of what two numbers share, and the piece above it
and_first : (x m p : ℕ) → bit_and (x % 2 ^ p) (m % 2 ^ p) ≡ bit_and x m % 2 ^ p
and_first x m p = sym (and_mod x m p)

and_second : (x m p : ℕ) → bit_and (x / 2 ^ p % 2 ^ p) (m / 2 ^ p % 2 ^ p) ≡ bit_and x m / 2 ^ p % 2 ^ p
and_second x m p = sym (ap (λ t. t % 2 ^ p) (and_shr x m p) ∙ and_mod (x / 2 ^ p) (m / 2 ^ p) p)

-- ---- pieces

-- two pieces of p bits, d places apart
abbrev two : ℕ → ℕ → ℕ → ℕ
two p d x = x % 2 ^ p + 2 ^ d * (x / 2 ^ p % 2 ^ p)

-- the two lowest pieces, and the others
pieces-two : (p d n x : ℕ) → pieces p d (suc (suc n)) x ≡ pieces p d n (x / 2 ^ (p + p)) * 2 ^ (d + d) + two p d x
unfolding pieces
pieces-two p d n x =
    let rest : x / 2 ^ p / 2 ^ p ≡ x / 2 ^ (p + p) = shr-shr x p p in
    let apart : 2 ^ (d + d) ≡ 2 ^ d * 2 ^ d = pow-add 2 d d in
    rw (rest, apart) (omega arith)

-- the lowest piece, and the others
pub pieces-one : (p d n x : ℕ) → pieces p d (suc n) x ≡ pieces p d n (x / 2 ^ p) * 2 ^ d + x % 2 ^ p
unfolding pieces
pieces-one p d n x = omega arith

-- ---- a cut

-- a piece of twice the bits has room between two pieces
two_fit : (p e d h l : ℕ) → d ≡ e + p → p ≤ e → h < 2 ^ p → l < 2 ^ p → h * 2 ^ p + l < 2 ^ d
two_fit p e d h l apart room high low =
    let both : h * 2 ^ p + l < 2 ^ p * 2 ^ p = mul-add-lt h (2 ^ p) l (2 ^ p) high low in
    let wider : 2 ^ p ≤ 2 ^ e = pow-le-pow_right {n = 2} (omega arith) room in
    let product : 2 ^ p * 2 ^ p ≤ 2 ^ e * 2 ^ p = mul-le (2 ^ p) (2 ^ p) (2 ^ e) (2 ^ p) wider (omega arith) in
    let places : 2 ^ d ≡ 2 ^ e * 2 ^ p = ap (λ n. 2 ^ n) apart ∙ pow-add 2 e p in
    omega arith

-- and so has a piece
piece_fits : (p e d l : ℕ) → d ≡ e + p → p ≤ e → l < 2 ^ p → l < 2 ^ d
piece_fits p e d l apart room low =
    let both : 0 * 2 ^ p + l < 2 ^ d = two_fit p e d 0 l apart room (pow_pos p) low in
    omega arith

-- two pieces that touch, moved and masked
two_cut_at : (p e d h l mh ml : ℕ) → d ≡ e + p → p ≤ e → h < 2 ^ p → l < 2 ^ p → ml < 2 ^ p →
    bit_and (bit_or (h * 2 ^ p + l) ((h * 2 ^ p + l) * 2 ^ e)) (ml + 2 ^ d * mh) ≡ bit_and l ml + 2 ^ d * bit_and h mh
two_cut_at p e d h l mh ml apart room high low mask =
    let places : 2 ^ d ≡ 2 ^ e * 2 ^ p = ap (λ n. 2 ^ n) apart ∙ pow-add 2 e p in
    let moved : (h * 2 ^ p + l) * 2 ^ e ≡ h * 2 ^ d + l * 2 ^ e = rw places (omega arith) in
    let turned : p + e ≡ d = omega arith in
    let low_moved : l * 2 ^ e < 2 ^ d = subst (λ n. l * 2 ^ e < 2 ^ n) turned (shl_below l p e low) in
    let fits : h * 2 ^ p + l < 2 ^ d = two_fit p e d h l apart room high low in
    let joined : bit_or (0 * 2 ^ d + (h * 2 ^ p + l)) (h * 2 ^ d + l * 2 ^ e) ≡ bit_or 0 h * 2 ^ d + bit_or (h * 2 ^ p + l) (l * 2 ^ e) =
    or_block d 0 h (h * 2 ^ p + l) (l * 2 ^ e) fits low_moved in
    let alone : 0 * 2 ^ d + (h * 2 ^ p + l) ≡ h * 2 ^ p + l = omega arith in
    let union : bit_or (h * 2 ^ p + l) ((h * 2 ^ p + l) * 2 ^ e) ≡ h * 2 ^ d + bit_or (h * 2 ^ p + l) (l * 2 ^ e) =
    rw moved (ap (λ t. bit_or t (h * 2 ^ d + l * 2 ^ e)) (sym alone) ∙ joined) in
    let union_fits : bit_or (h * 2 ^ p + l) (l * 2 ^ e) < 2 ^ d = or_lt d (h * 2 ^ p + l) (l * 2 ^ e) fits low_moved in
    let wide_mask : ml < 2 ^ d = piece_fits p e d ml apart room mask in
    let masked : bit_and (h * 2 ^ d + bit_or (h * 2 ^ p + l) (l * 2 ^ e)) (mh * 2 ^ d + ml)
    ≡ bit_and h mh * 2 ^ d + bit_and (bit_or (h * 2 ^ p + l) (l * 2 ^ e)) ml =
    and_block d h mh (bit_or (h * 2 ^ p + l) (l * 2 ^ e)) ml union_fits wide_mask in
    let shift : e ≡ (e - p) + p = omega arith in
    let past : l * 2 ^ e ≡ l * 2 ^ (e - p) * 2 ^ p + 0 = rw (ap (λ n. 2 ^ n) shift ∙ pow-add 2 (e - p) p) (omega arith) in
    let none : l * 2 ^ e % 2 ^ p ≡ 0 = ap (λ t. t % 2 ^ p) past ∙ mod_low (l * 2 ^ (e - p)) p 0 (pow_pos p) in
    let first : (h * 2 ^ p + l) % 2 ^ p ≡ l = mod_low h p l low in
    let lowest : bit_or (h * 2 ^ p + l) (l * 2 ^ e) % 2 ^ p ≡ l = or_mod (h * 2 ^ p + l) (l * 2 ^ e) p ∙ rw (none, first) (or_comm l 0) in
    let rest : bit_and (bit_or (h * 2 ^ p + l) (l * 2 ^ e)) ml ≡ bit_and l ml =
    and_low (bit_or (h * 2 ^ p + l) (l * 2 ^ e)) p ml mask ∙ ap (λ t. bit_and t ml) lowest in
    let order : ml + 2 ^ d * mh ≡ mh * 2 ^ d + ml = omega arith in
    rw (union, order, masked, rest) (omega arith)

two_cut : (p e d x m : ℕ) → d ≡ e + p → p ≤ e →
    bit_and (bit_or (x % 2 ^ (p + p)) (x % 2 ^ (p + p) * 2 ^ e)) (two p d m) ≡ two p d (bit_and x m)
two_cut p e d x m apart room =
    let positive : 0 < 2 ^ p = pow_pos p in
    let cut : bit_and (bit_or (x / 2 ^ p % 2 ^ p * 2 ^ p + x % 2 ^ p) ((x / 2 ^ p % 2 ^ p * 2 ^ p + x % 2 ^ p) * 2 ^ e)) (two p d m)
    ≡ bit_and (x % 2 ^ p) (m % 2 ^ p) + 2 ^ d * bit_and (x / 2 ^ p % 2 ^ p) (m / 2 ^ p % 2 ^ p) =
    two_cut_at p e d (x / 2 ^ p % 2 ^ p) (x % 2 ^ p) (m / 2 ^ p % 2 ^ p) (m % 2 ^ p) apart room
    (mod_below (x / 2 ^ p) (2 ^ p) positive) (mod_below x (2 ^ p) positive) (mod_below m (2 ^ p) positive) in
    ap (λ t. bit_and (bit_or t (t * 2 ^ e)) (two p d m)) (mod-pow-add x p p) ∙ cut
    ∙ ap (λ t. t + 2 ^ d * bit_and (x / 2 ^ p % 2 ^ p) (m / 2 ^ p % 2 ^ p)) (and_first x m p)
    ∙ ap (λ t. bit_and x m % 2 ^ p + 2 ^ d * t) (and_second x m p)

-- two pieces apart are below the next two
two-below : (p e d x : ℕ) → d ≡ e + p → p ≤ e → two p d x < 2 ^ (d + d)
two-below p e d x apart room =
    let positive : 0 < 2 ^ p = pow_pos p in
    let low : x % 2 ^ p < 2 ^ d = piece_fits p e d (x % 2 ^ p) apart room (mod_below x (2 ^ p) positive) in
    let high : x / 2 ^ p % 2 ^ p < 2 ^ d = piece_fits p e d (x / 2 ^ p % 2 ^ p) apart room (mod_below (x / 2 ^ p) (2 ^ p) positive) in
    let both : x / 2 ^ p % 2 ^ p * 2 ^ d + x % 2 ^ p < 2 ^ d * 2 ^ d = mul-add-lt (x / 2 ^ p % 2 ^ p) (2 ^ d) (x % 2 ^ p) (2 ^ d) high low in
    let twice : 2 ^ (d + d) ≡ 2 ^ d * 2 ^ d = pow-add 2 d d in
    omega arith

-- no pieces stay none
cut_none : (p e d x m : ℕ) → bit_and (bit_or (pieces (p + p) (d + d) zero x) (pieces (p + p) (d + d) zero x * 2 ^ e)) (pieces p d zero m)
    ≡ pieces p d zero (bit_and x m)
unfolding pieces
cut_none p e d x m = omega (arith, and_le_r (bit_or 0 (0 * 2 ^ e)) 0)

-- what is above a piece of twice the bits is moved and masked by itself
cut_above : (p e d a l am lm : ℕ) → d ≡ e + p → p ≤ e → l < 2 ^ (p + p) → lm < 2 ^ (d + d) →
    (x : ℕ) → x ≡ a * 2 ^ (d + d) + l → (m : ℕ) → m ≡ am * 2 ^ (d + d) + lm →
    bit_and (bit_or x (x * 2 ^ e)) m ≡ bit_and (bit_or a (a * 2 ^ e)) am * 2 ^ (d + d) + bit_and (bit_or l (l * 2 ^ e)) lm
cut_above p e d a l am lm apart room fits mask_fits x whole m mask =
    let moved : x * 2 ^ e ≡ a * 2 ^ e * 2 ^ (d + d) + l * 2 ^ e = rw whole (omega arith) in
    let high : l * 2 ^ e < 2 ^ (p + p + e) = shl_below l (p + p) e fits in
    let few : 2 ^ (p + p + e) ≤ 2 ^ (d + d) = pow-le-pow_right {n = 2} (omega arith) (omega arith) in
    let fewer : 2 ^ (p + p) ≤ 2 ^ (d + d) = pow-le-pow_right {n = 2} (omega arith) (omega arith) in
    let joined : bit_or (a * 2 ^ (d + d) + l) (a * 2 ^ e * 2 ^ (d + d) + l * 2 ^ e) ≡ bit_or a (a * 2 ^ e) * 2 ^ (d + d) + bit_or l (l * 2 ^ e) =
    or_block (d + d) a (a * 2 ^ e) l (l * 2 ^ e) (omega arith) (omega arith) in
    let union : bit_or x (x * 2 ^ e) ≡ bit_or a (a * 2 ^ e) * 2 ^ (d + d) + bit_or l (l * 2 ^ e) =
    rw moved (ap (λ t. bit_or t (a * 2 ^ e * 2 ^ (d + d) + l * 2 ^ e)) whole ∙ joined) in
    rw (union, mask) (and_block (d + d) (bit_or a (a * 2 ^ e)) am (bit_or l (l * 2 ^ e)) lm
    (or_lt (d + d) l (l * 2 ^ e) (omega arith) (omega arith)) mask_fits)

-- the pieces of twice the bits, moved and masked, are the pieces
pub cut : (p e d j n x m : ℕ) → d ≡ e + p → p ≤ e → n ≡ j + j →
    bit_and (bit_or (pieces (p + p) (d + d) j x) (pieces (p + p) (d + d) j x * 2 ^ e)) (pieces p d n m) ≡ pieces p d n (bit_and x m)
cut p e d zero zero x m apart room count = cut_none p e d x m
cut p e d zero (suc n) x m apart room count = absurd (omega arith)
cut p e d (suc j) zero x m apart room count = absurd (omega arith)
cut p e d (suc j) (suc zero) x m apart room count = absurd (omega arith)
cut p e d (suc j) (suc (suc n)) x m apart room count =
    let above : bit_and (bit_or (pieces (p + p) (d + d) j (x / 2 ^ (p + p))) (pieces (p + p) (d + d) j (x / 2 ^ (p + p)) * 2 ^ e))
    (pieces p d n (m / 2 ^ (p + p))) ≡ pieces p d n (bit_and (x / 2 ^ (p + p)) (m / 2 ^ (p + p))) =
    cut p e d j n (x / 2 ^ (p + p)) (m / 2 ^ (p + p)) apart room (omega arith) in
    let shared : bit_and (x / 2 ^ (p + p)) (m / 2 ^ (p + p)) ≡ bit_and x m / 2 ^ (p + p) = sym (and_shr x m (p + p)) in
    let here : bit_and (bit_or (x % 2 ^ (p + p)) (x % 2 ^ (p + p) * 2 ^ e)) (two p d m) ≡ two p d (bit_and x m) = two_cut p e d x m apart room in
    let positive : 0 < 2 ^ (p + p) = pow_pos (p + p) in
    let fits : x % 2 ^ (p + p) < 2 ^ (p + p) = mod_below x (2 ^ (p + p)) positive in
    cut_above p e d (pieces (p + p) (d + d) j (x / 2 ^ (p + p))) (x % 2 ^ (p + p)) (pieces p d n (m / 2 ^ (p + p))) (two p d m) apart room fits
    (two-below p e d m apart room)
    (pieces (p + p) (d + d) (suc j) x) (pieces-one (p + p) (d + d) j x) (pieces p d (suc (suc n)) m) (pieces-two p d n m)
    ∙ ap (λ t. t * 2 ^ (d + d) + bit_and (bit_or (x % 2 ^ (p + p)) (x % 2 ^ (p + p) * 2 ^ e)) (two p d m)) (above ∙ ap (λ t. pieces p d n t) shared)
    ∙ ap (λ t. pieces p d n (bit_and x m / 2 ^ (p + p)) * 2 ^ (d + d) + t) here
    ∙ sym (pieces-two p d n (bit_and x m))

-- ---- a joint

-- a number under a mask that has k bits, and others from place n on
joint_masked : (y k n am lm a l : ℕ) → lm < 2 ^ k → lm < 2 ^ n → y / 2 ^ n ≡ a → y % 2 ^ k ≡ l →
    (m : ℕ) → m ≡ am * 2 ^ n + lm → bit_and y m ≡ bit_and a am * 2 ^ n + bit_and l lm
joint_masked y k n am lm a l few wide high low m mask =
    let whole : y / 2 ^ n * 2 ^ n + y % 2 ^ n ≡ y = shr_split y n in
    let block : bit_and (y / 2 ^ n * 2 ^ n + y % 2 ^ n) (am * 2 ^ n + lm) ≡ bit_and (y / 2 ^ n) am * 2 ^ n + bit_and (y % 2 ^ n) lm =
    and_block n (y / 2 ^ n) am (y % 2 ^ n) lm (mod_below y (2 ^ n) (pow_pos n)) wide in
    let rest : bit_and (y % 2 ^ n) lm ≡ bit_and l lm = sym (and_low y n lm wide) ∙ and_low y k lm few ∙ ap (λ t. bit_and t lm) low in
    ap (λ t. bit_and y t) mask ∙ ap (λ t. bit_and t (am * 2 ^ n + lm)) (sym whole) ∙ block
    ∙ ap (λ t. bit_and t am * 2 ^ n + bit_and (y % 2 ^ n) lm) high ∙ ap (λ t. bit_and a am * 2 ^ n + t) rest

-- what is above two pieces is moved back and masked by itself
joint_above : (p f e d b h l am lm : ℕ) → e ≡ p + f → d ≡ e + p → h < 2 ^ p → l < 2 ^ p → lm < 2 ^ (p + p) →
    (x : ℕ) → x ≡ b * 2 ^ (d + d) + (l + 2 ^ d * h) → (m : ℕ) → m ≡ am * 2 ^ (d + d) + lm →
    bit_and (bit_or x (x / 2 ^ e)) m ≡ bit_and (bit_or b (b / 2 ^ e)) am * 2 ^ (d + d) + bit_and (h * 2 ^ p + l) lm
joint_above p f e d b h l am lm shift apart high low mask_fits x whole m mask =
    let room : p ≤ e = omega arith in
    let shift_split : e ≡ f + p = omega arith in
    let apart_split : d ≡ f + (p + p) = omega arith in
    let piece : 2 ^ e ≡ 2 ^ f * 2 ^ p = ap (λ n. 2 ^ n) shift_split ∙ pow-add 2 f p in
    let places : 2 ^ d ≡ 2 ^ f * 2 ^ (p + p) = ap (λ n. 2 ^ n) apart_split ∙ pow-add 2 f (p + p) in
    let near : 2 ^ d ≡ 2 ^ e * 2 ^ p = ap (λ n. 2 ^ n) apart ∙ pow-add 2 e p in
    let both : 2 ^ (d + d) ≡ 2 ^ d * 2 ^ d = pow-add 2 d d in
    let wide : 2 ^ (p + p) ≡ 2 ^ p * 2 ^ p = pow-add 2 p p in
    let fewer : 2 ^ (p + p) ≤ 2 ^ (d + d) = pow-le-pow_right {n = 2} (omega arith) (omega arith) in
    let l_wide : 0 * 2 ^ p + l < 2 ^ p * 2 ^ p = mul-add-lt 0 (2 ^ p) l (2 ^ p) (pow_pos p) low in
    let h_wide : h * 2 ^ p + 0 < 2 ^ p * 2 ^ p = mul-add-lt h (2 ^ p) 0 (2 ^ p) high (pow_pos p) in
    let l_shift : 2 ^ p ≤ 2 ^ e = pow-le-pow_right {n = 2} (omega arith) room in
    let two_fits : h * 2 ^ d + l < 2 ^ d * 2 ^ d =
    mul-add-lt h (2 ^ d) l (2 ^ d) (piece_fits p e d h apart room high) (piece_fits p e d l apart room low) in
    let turned : l + 2 ^ d * h ≡ h * 2 ^ d + l = omega arith in
    let by_two : x ≡ b * 2 ^ (d + d) + (h * 2 ^ d + l) = rw whole (ap (λ t. b * 2 ^ (d + d) + t) turned) in
    let above : x / 2 ^ (d + d) ≡ b = rw by_two (shr_high b (d + d) (h * 2 ^ d + l) (omega arith)) in
    let above_moved : x / 2 ^ e / 2 ^ (d + d) ≡ b / 2 ^ e =
    shr-shr x e (d + d) ∙ ap (λ n. x / 2 ^ n) (add_comm e (d + d)) ∙ sym (shr-shr x (d + d) e) ∙ ap (λ t. t / 2 ^ e) above in
    let by_piece : x ≡ (b * 2 ^ d + h) * 2 ^ f * 2 ^ (p + p) + l = rw (whole, both) (rw places (omega arith)) in
    let lowest : x % 2 ^ (p + p) ≡ l = rw by_piece (mod_low ((b * 2 ^ d + h) * 2 ^ f) (p + p) l (omega arith)) in
    let by_shift : x ≡ (b * 2 ^ d + h) * 2 ^ p * 2 ^ e + l = rw (whole, both) (rw near (omega arith)) in
    let moved : x / 2 ^ e ≡ (b * 2 ^ d + h) * 2 ^ p = rw by_shift (shr_high ((b * 2 ^ d + h) * 2 ^ p) e l (omega arith)) in
    let by_moved : (b * 2 ^ d + h) * 2 ^ p ≡ b * 2 ^ e * 2 ^ (p + p) + h * 2 ^ p = rw (near, wide) (omega arith) in
    let next : x / 2 ^ e % 2 ^ (p + p) ≡ h * 2 ^ p = rw (moved, by_moved) (mod_low (b * 2 ^ e) (p + p) (h * 2 ^ p) (omega arith)) in
    let low_union : bit_or x (x / 2 ^ e) % 2 ^ (p + p) ≡ h * 2 ^ p + l =
    or_mod x (x / 2 ^ e) (p + p) ∙ ap (λ t. bit_or t (x / 2 ^ e % 2 ^ (p + p))) lowest ∙ ap (λ t. bit_or l t) next ∙ or_comm l (h * 2 ^ p)
    ∙ or_shifted h p l low in
    let high_union : bit_or x (x / 2 ^ e) / 2 ^ (d + d) ≡ bit_or b (b / 2 ^ e) =
    or_shr x (x / 2 ^ e) (d + d) ∙ ap (λ t. bit_or t (x / 2 ^ e / 2 ^ (d + d))) above ∙ ap (λ t. bit_or b t) above_moved in
    joint_masked (bit_or x (x / 2 ^ e)) (p + p) (d + d) am lm (bit_or b (b / 2 ^ e)) (h * 2 ^ p + l) mask_fits (omega arith) high_union low_union m mask

-- no pieces stay none
joint_none : (p e d x m : ℕ) → bit_and (bit_or (pieces p d zero x) (pieces p d zero x / 2 ^ e)) (pieces (p + p) (d + d) zero m)
    ≡ pieces (p + p) (d + d) zero (bit_and x m)
unfolding pieces
joint_none p e d x m = omega (arith, and_le_r (bit_or 0 (0 / 2 ^ e)) 0)

-- the pieces, moved back and masked, are the pieces of twice the bits
pub joint : (p f e d j n x m : ℕ) → e ≡ p + f → d ≡ e + p → n ≡ j + j →
    bit_and (bit_or (pieces p d n x) (pieces p d n x / 2 ^ e)) (pieces (p + p) (d + d) j m) ≡ pieces (p + p) (d + d) j (bit_and x m)
joint p f e d zero zero x m shift apart count = joint_none p e d x m
joint p f e d zero (suc n) x m shift apart count = absurd (omega arith)
joint p f e d (suc j) zero x m shift apart count = absurd (omega arith)
joint p f e d (suc j) (suc zero) x m shift apart count = absurd (omega arith)
joint p f e d (suc j) (suc (suc n)) x m shift apart count =
    let above : bit_and (bit_or (pieces p d n (x / 2 ^ (p + p))) (pieces p d n (x / 2 ^ (p + p)) / 2 ^ e)) (pieces (p + p) (d + d) j (m / 2 ^ (p + p)))
    ≡ pieces (p + p) (d + d) j (bit_and (x / 2 ^ (p + p)) (m / 2 ^ (p + p))) =
    joint p f e d j n (x / 2 ^ (p + p)) (m / 2 ^ (p + p)) shift apart (omega arith) in
    let shared : bit_and (x / 2 ^ (p + p)) (m / 2 ^ (p + p)) ≡ bit_and x m / 2 ^ (p + p) = sym (and_shr x m (p + p)) in
    let piece : 0 < 2 ^ p = pow_pos p in
    let whole : bit_and (x / 2 ^ p % 2 ^ p * 2 ^ p + x % 2 ^ p) (m % 2 ^ (p + p)) ≡ bit_and x m % 2 ^ (p + p) =
    ap (λ t. bit_and t (m % 2 ^ (p + p))) (sym (mod-pow-add x p p)) ∙ and_first x m (p + p) in
    joint_above p f e d (pieces p d n (x / 2 ^ (p + p))) (x / 2 ^ p % 2 ^ p) (x % 2 ^ p) (pieces (p + p) (d + d) j (m / 2 ^ (p + p))) (m % 2 ^ (p + p))
    shift apart
    (mod_below (x / 2 ^ p) (2 ^ p) piece) (mod_below x (2 ^ p) piece) (mod_below m (2 ^ (p + p)) (pow_pos (p + p)))
    (pieces p d (suc (suc n)) x) (pieces-two p d n x) (pieces (p + p) (d + d) (suc j) m) (pieces-one (p + p) (d + d) j m)
    ∙ ap (λ t. t * 2 ^ (d + d) + bit_and (x / 2 ^ p % 2 ^ p * 2 ^ p + x % 2 ^ p) (m % 2 ^ (p + p))) (above ∙ ap (λ t. pieces (p + p) (d + d) j t) shared)
    ∙ ap (λ t. pieces (p + p) (d + d) j (bit_and x m / 2 ^ (p + p)) * 2 ^ (d + d) + t) whole
    ∙ sym (pieces-one (p + p) (d + d) j (bit_and x m))

-- ---- single bits

-- no bits stay none
first_none : (n k m : ℕ) → bit_and k (pieces 1 n zero m) ≡ pieces 1 n zero (bit_and (gathered n zero k) m)
unfolding pieces
first_none n k m = omega (arith, and_le_r k 0)

-- without bits nothing is gathered
gathered_none : (n c k : ℕ) → gathered n (0 + c) k % 2 ^ 0 ≡ gathered n zero k
unfolding gathered
gathered_none n c k = omega arith

gathered_turned : (n w k : ℕ) → gathered n w (k / 2 ^ n) * 2 ^ 1 + k % 2 ^ 1 ≡ gathered n (suc w) k
unfolding gathered
gathered_turned n w k = omega arith

-- a gathered number has the key's lowest bit, and above it the others
gathered_parts : (n j k : ℕ) → (gathered n (suc j) k / 2 ^ 1 ≡ gathered n j (k / 2 ^ n)) × (gathered n (suc j) k % 2 ^ 1 ≡ k % 2 ^ 1)
unfolding gathered
gathered_parts n j k = (omega arith, omega arith)

-- the lowest bits of a gathered number are gathered from fewer
pub gathered-mod : (n w c k : ℕ) → gathered n (w + c) k % 2 ^ w ≡ gathered n w k
gathered-mod n zero c k = gathered_none n c k
gathered-mod n (suc w) c k =
    let count : suc w + c ≡ suc (w + c) = omega arith in
    let level : w + 1 ≡ suc w = omega arith in
    let parts = gathered_parts n (w + c) k in
    let split : gathered n (suc (w + c)) k % 2 ^ (w + 1) ≡ (gathered n (suc (w + c)) k / 2 ^ 1 % 2 ^ w) * 2 ^ 1 + gathered n (suc (w + c)) k % 2 ^ 1 =
    mod-pow-add (gathered n (suc (w + c)) k) w 1 in
    let upper : gathered n (suc (w + c)) k / 2 ^ 1 % 2 ^ w ≡ gathered n w (k / 2 ^ n) = ap (λ t. t % 2 ^ w) parts.0 ∙ gathered-mod n w c (k / 2 ^ n) in
    ap (λ t. gathered n t k % 2 ^ suc w) count ∙ ap (λ t. gathered n (suc (w + c)) k % 2 ^ t) (sym level) ∙ split
    ∙ ap (λ t. t * 2 ^ 1 + gathered n (suc (w + c)) k % 2 ^ 1) upper ∙ ap (λ t. gathered n w (k / 2 ^ n) * 2 ^ 1 + t) parts.1 ∙ gathered_turned n w k

-- what a mask of bits that are n places apart leaves is the number gathered from there
pub first_mask : (n j k m : ℕ) → 1 ≤ n → bit_and k (pieces 1 n j m) ≡ pieces 1 n j (bit_and (gathered n j k) m)
first_mask n zero k m some = first_none n k m
first_mask n (suc j) k m some =
    let above : bit_and (k / 2 ^ n) (pieces 1 n j (m / 2 ^ 1)) ≡ pieces 1 n j (bit_and (gathered n j (k / 2 ^ n)) (m / 2 ^ 1)) =
    first_mask n j (k / 2 ^ n) (m / 2 ^ 1) some in
    let bit : m % 2 ^ 1 < 2 ^ 1 = omega arith in
    let fewer : 2 ^ 1 ≤ 2 ^ n = pow-le-pow_right {n = 2} (omega arith) some in
    let next : gathered n (suc j) k / 2 ^ 1 ≡ gathered n j (k / 2 ^ n) = (gathered_parts n j k).0 in
    let last : gathered n (suc j) k % 2 ^ 1 ≡ k % 2 ^ 1 = (gathered_parts n j k).1 in
    let upper : bit_and (gathered n j (k / 2 ^ n)) (m / 2 ^ 1) ≡ bit_and (gathered n (suc j) k) m / 2 ^ 1 =
    ap (λ t. bit_and t (m / 2 ^ 1)) (sym next) ∙ sym (and_shr (gathered n (suc j) k) m 1) in
    let lower : bit_and (k % 2 ^ 1) (m % 2 ^ 1) ≡ bit_and (gathered n (suc j) k) m % 2 ^ 1 =
    ap (λ t. bit_and t (m % 2 ^ 1)) (sym last) ∙ and_first (gathered n (suc j) k) m 1 in
    joint_masked k 1 n (pieces 1 n j (m / 2 ^ 1)) (m % 2 ^ 1) (k / 2 ^ n) (k % 2 ^ 1) bit (omega arith) refl refl (pieces 1 n (suc j) m) (pieces-one 1 n j m)
    ∙ ap (λ t. t * 2 ^ n + bit_and (k % 2 ^ 1) (m % 2 ^ 1)) (above ∙ ap (λ t. pieces 1 n j t) upper)
    ∙ ap (λ t. pieces 1 n j (bit_and (gathered n (suc j) k) m / 2 ^ 1) * 2 ^ n + t) lower
    ∙ sym (pieces-one 1 n j (bit_and (gathered n (suc j) k) m))

-- ---- one piece

-- the pieces of 0 are 0
pub pieces-zero : (p d j : ℕ) → pieces p d j 0 ≡ 0
unfolding pieces
pieces-zero p d zero = refl
pieces-zero p d (suc j) =
    let none : 0 / 2 ^ p ≡ 0 = omega arith in
    let zero_bits : 0 % 2 ^ p ≡ 0 = omega arith in
    rw (none, zero_bits, pieces-zero p d j) (omega arith)

last : (x y : ℕ) → 0 * y + x ≡ x
last x y = omega arith

-- a number of p bits is one piece
pub pieces-small : (p d j x : ℕ) → 1 ≤ j → x < 2 ^ p → pieces p d j x ≡ x
pieces-small p d zero x some small = absurd (omega arith)
pieces-small p d (suc j) x some small =
    let alone : 0 * 2 ^ p + x ≡ x = omega arith in
    let lowest : x % 2 ^ p ≡ x = ap (λ t. t % 2 ^ p) (sym alone) ∙ mod_low 0 p x small in
    let none : x / 2 ^ p ≡ 0 = ap (λ t. t / 2 ^ p) (sym alone) ∙ shr_high 0 p x small in
    pieces-one p d j x ∙ ap (λ t. pieces p d j t * 2 ^ d + x % 2 ^ p) none ∙ ap (λ t. t * 2 ^ d + x % 2 ^ p) (pieces-zero p d j)
    ∙ ap (λ t. 0 * 2 ^ d + t) lowest ∙ last x (2 ^ d)

-- no pieces have no bits
touch_none : (p x : ℕ) → pieces p p zero x ≡ x % 2 ^ (0 * p)
unfolding pieces
touch_none p x =
    let count : 0 * p ≡ 0 = omega arith in
    rw count (omega arith)

-- pieces that touch are the number's lowest bits
pub pieces-touch : (p j x : ℕ) → pieces p p j x ≡ x % 2 ^ (j * p)
pieces-touch p zero x = touch_none p x
pieces-touch p (suc j) x =
    let rest : pieces p p j (x / 2 ^ p) ≡ x / 2 ^ p % 2 ^ (j * p) = pieces-touch p j (x / 2 ^ p) in
    let count : j * p + p ≡ suc j * p = omega arith in
    pieces-one p p j x ∙ ap (λ t. t * 2 ^ p + x % 2 ^ p) rest ∙ sym (mod-pow-add x (j * p) p) ∙ ap (λ n. x % 2 ^ n) count
