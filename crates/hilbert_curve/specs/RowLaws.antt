-- What the checked rows of the tables say, row by row.
use Rattle.std.proofs.Common.{◌≡◌, ℕ, zero, suc, ◌+◌, ◌-◌, ◌*◌, ◌/◌, ◌%◌, ◌^◌, ◌<◌, ◌≤◌, Bool, true, ◌&&◌, ◌==◌, if◌then◌else◌, nat_lt, arith}
use Rattle.std.specs.Int.{bit_at}
use Rattle.std.specs.Int.Bits.{bit_xor, xor_lt}
use Rattle.std.proofs.lemmas.Bool.{and_parts}
use Rattle.std.proofs.lemmas.Bool.Decides.{nat_tests}
use Rattle.std.proofs.lemmas.Nat.{pow_pos, shr_le, mod_below}
use Rattle.hilbert_curve.specs.Tables.{gray, ungray, trailing_ones, entry, direction, is_inner, is_last, is_row}

-- a row before the last: the next code differs in one bit, and where the curve leaves this part it enters the next
pub record IsInner (n w : ℕ) : Type 0 where
  pub axis : trailing_ones w < n
  pub next_code : bit_xor (gray w) (gray (w + 1)) ≡ 2 ^ trailing_ones w
  pub enters : entry (w + 1) ≡ bit_xor (bit_xor (entry w) (2 ^ direction n w)) (2 ^ trailing_ones w)
  pub across : bit_at (bit_xor (entry w) (2 ^ direction n w)) (trailing_ones w) + bit_at (gray w) (trailing_ones w) ≡ 1

-- the last row: the curve leaves the whole at the corner along the highest axis
pub record IsLast (n w : ℕ) : Type 0 where
  pub code : gray w ≡ 2 ^ (n - 1)
  pub leaves : bit_xor (entry w) (2 ^ direction n w) ≡ 2 ^ (n - 1)

-- what every row has
pub record IsRow (n w : ℕ) : Type 0 where
  -- codes and numbers belong to each other
  pub code_back : ungray n (gray w) ≡ w
  pub code_forth : gray (ungray n w) ≡ w
  pub inner : w + 1 < 2 ^ n → IsInner n w
  pub last : w + 1 ≡ 2 ^ n → IsLast n w

eq_from : (a b : ℕ) → (a == b) ≡ true → a ≡ b
eq_from a b h = grind (arith, nat_tests)

lt_from : (a b : ℕ) → nat_lt a b ≡ true → a < b
lt_from a b h = grind (arith, nat_tests)

inner_from : (n w : ℕ) → is_inner n w ≡ true → IsInner n w
inner_from n w h =
    let a = nat_lt (trailing_ones w) n in
    let b = bit_xor (gray w) (gray (w + 1)) == 2 ^ trailing_ones w in
    let c = entry (w + 1) == bit_xor (bit_xor (entry w) (2 ^ direction n w)) (2 ^ trailing_ones w) in
    let d = bit_at (bit_xor (entry w) (2 ^ direction n w)) (trailing_ones w) + bit_at (gray w) (trailing_ones w) == 1 in
    let abc = and_parts (a && b && c) d h in
    let ab = and_parts (a && b) c abc.0 in
    let one = and_parts a b ab.0 in
    record {
      axis = lt_from (trailing_ones w) n one.0;
      next_code = eq_from (bit_xor (gray w) (gray (w + 1))) (2 ^ trailing_ones w) one.1;
      enters = eq_from (entry (w + 1)) (bit_xor (bit_xor (entry w) (2 ^ direction n w)) (2 ^ trailing_ones w)) ab.1;
      across = eq_from (bit_at (bit_xor (entry w) (2 ^ direction n w)) (trailing_ones w) + bit_at (gray w) (trailing_ones w)) 1 abc.1;
    }

last_from : (n w : ℕ) → is_last n w ≡ true → IsLast n w
last_from n w h =
    let both = and_parts (gray w == 2 ^ (n - 1)) (bit_xor (entry w) (2 ^ direction n w) == 2 ^ (n - 1)) h in
    record {
      code = eq_from (gray w) (2 ^ (n - 1)) both.0;
      leaves = eq_from (bit_xor (entry w) (2 ^ direction n w)) (2 ^ (n - 1)) both.1;
    }

choice_true : (a b : ℕ) (x y : Bool) → (if a == b then x else y) ≡ true → a ≡ b → x ≡ true
choice_true a b x y h e = grind (arith, nat_tests)

choice_false : (a b : ℕ) (x y : Bool) → (if a == b then x else y) ≡ true → a < b → y ≡ true
choice_false a b x y h l = grind (arith, nat_tests)

-- the test of a row, read as the facts that it tests
row_from : (n w g e d : ℕ) → is_row n w g e d ≡ true → IsRow n w
row_from n w g e d h =
    let columns = (g == gray w) && (e == entry w) && (d == direction n w) in
    let choice = if w + 1 == 2 ^ n then is_last n w else is_inner n w in
    let all = and_parts (columns && (ungray n (gray w) == w) && (gray (ungray n w) == w)) choice h in
    let codes = and_parts (columns && (ungray n (gray w) == w)) (gray (ungray n w) == w) all.0 in
    let back = and_parts columns (ungray n (gray w) == w) codes.0 in
    record {
      code_back = eq_from (ungray n (gray w)) w back.1;
      code_forth = eq_from (gray (ungray n w)) w codes.1;
      inner = λ l. inner_from n w (choice_false (w + 1) (2 ^ n) (is_last n w) (is_inner n w) all.1 l);
      last = λ i. last_from n w (choice_true (w + 1) (2 ^ n) (is_last n w) (is_inner n w) all.1 i);
    }

-- the columns of a row as a table has them, and its facts
pub record IsTableRow (n w g e d : ℕ) : Type 0 where
  pub gray : g ≡ gray w
  pub entry : e ≡ entry w
  pub direction : d ≡ direction n w
  pub facts : IsRow n w

pub table_row : (n w g e d : ℕ) → is_row n w g e d ≡ true → IsTableRow n w g e d
table_row n w g e d h =
    let columns = (g == gray w) && (e == entry w) && (d == direction n w) in
    let choice = if w + 1 == 2 ^ n then is_last n w else is_inner n w in
    let all = and_parts (columns && (ungray n (gray w) == w) && (gray (ungray n w) == w)) choice h in
    let codes = and_parts (columns && (ungray n (gray w) == w)) (gray (ungray n w) == w) all.0 in
    let three = and_parts columns (ungray n (gray w) == w) codes.0 in
    let two = and_parts ((g == gray w) && (e == entry w)) (d == direction n w) three.0 in
    let one = and_parts (g == gray w) (e == entry w) two.0 in
    record {
      gray = eq_from g (gray w) one.0;
      entry = eq_from e (entry w) one.1;
      direction = eq_from d (direction n w) two.1;
      facts = row_from n w g e d h;
    }

-- codes, entries and directions stay within their bits
pub gray-lt : (n w : ℕ) → w < 2 ^ n → gray w < 2 ^ n
gray-lt n w h = xor_lt n w (w / 2) h (half_lt w (2 ^ n) h)
  where
    half_lt : (a b : ℕ) → a < b → a / 2 < b
    half_lt a b h = omega arith

pub entry-lt : (n w : ℕ) → w < 2 ^ n → entry w < 2 ^ n
entry-lt n zero h = pow_pos n
entry-lt n (suc i) h = gray-lt n (2 * (i / 2)) (twice_half i (2 ^ n) h)
  where
    twice_half : (i m : ℕ) → suc i < m → 2 * (i / 2) < m
    twice_half i m h = omega arith

pub ungray-lt : (n m x : ℕ) → x < 2 ^ m → ungray n x < 2 ^ m
ungray-lt zero m x h = pow_pos m
ungray-lt (suc n) m x h = xor_lt m (ungray n x) (x / 2 ^ n) (ungray-lt n m x h) (le-lt (x / 2 ^ n) x (2 ^ m) (shr_le x n) h)
  where
    le-lt : (a b c : ℕ) → a ≤ b → b < c → a < c
    le-lt a b c h k = omega arith

pub direction-lt : (n w : ℕ) → 0 < n → direction n w < n
direction-lt n zero some = some
direction-lt n (suc i) some = mod_below (trailing_ones (if i % 2 == 1 then i else suc i)) n some
