-- Pages in memory: there is room for each page that is given back.
use Rattle.std.proofs.Common.{◌≡◌, ℕ, zero, suc, ◌+◌, ◌-◌, ◌≤◌, ◌<◌, IsTrue, List, [], ◌∷◌, ◌++◌, length, ap, ◌∙◌, arith}
use Rattle.std.specs.Prelude.{nat_le, nat_lt}
use Rattle.std.specs.List.{range_with_len}
use Rattle.std.proofs.lemmas.Bool.{and_parts}
use Rattle.std.proofs.lemmas.Bool.Decides.{nat_tests}
use Rattle.page_laws.specs.Pages.{is_live, AreFree}
use Rattle.page_laws.specs.FreeLaws.{range_free, free_fits, given_fits}
use Rattle.page_laws.specs.PlainPages.{Plain, IsPlain, in_pool}

within : (p : Plain) (n : ℕ) → IsTrue (in_pool p n) → (p.first ≤ n) × (n < p.first + (length p.pages - p.first))
within p n is =
    let parts = and_parts (nat_le p.first n) (nat_lt n (length p.pages)) is in
    let least : p.first ≤ n = grind (arith, nat_tests, parts.0) in
    let below : n < length p.pages = grind (arith, nat_tests, parts.1) in
    (least, omega (arith, least, below))

-- the free pages are no more than the pool has
pub fits : (p : Plain) → AreFree (in_pool p) p.free → length p.free ≤ length p.pages - p.first
fits p are = free_fits (in_pool p) p.first (length p.pages - p.first) p.free (within p) are

-- and fewer if another one is given back
pub fits_one : (p : Plain) (n : ℕ) → AreFree (in_pool p) p.free → IsTrue (is_live (in_pool p) p.free n) → length p.free < length p.pages - p.first
fits_one p n are live = given_fits (in_pool p) p.first (length p.pages - p.first) p.free n (within p) are live

-- at first all of the pool is free
pub all_free : (p : Plain) → p.free ≡ range_with_len p.first (length p.pages - p.first) → AreFree (in_pool p) p.free
all_free p is = rw is (range_free (in_pool p) p.first (length p.pages - p.first) (λ n least below. grind (arith, nat_tests, least, below)))

-- one number more at the end of a range
range_on : (from count : ℕ) → range_with_len from (suc count) ≡ range_with_len from count ++ (from + count) ∷ []
range_on from zero = ap (λ n. n ∷ []) (omega arith)
range_on from (suc count) =
    let last : from + 1 + count ≡ from + suc count = omega arith in
    ap (λ ns. from ∷ ns) (range_on (from + 1) count ∙ ap (λ n. range_with_len (from + 1) count ++ n ∷ []) last)

pub range_more : (from count : ℕ) → range_with_len from (count + 1) ≡ range_with_len from count ++ (from + count) ∷ []
range_more from count =
    let one : count + 1 ≡ suc count = omega arith in
    ap (range_with_len from) one ∙ range_on from count
