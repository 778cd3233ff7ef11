-- The laws of each space that fits.
use Rattle.std.proofs.Common.{ℕ, ◌*◌, ◌^◌, ◌<◌, ◌≤◌, List, arith}
use Rattle.std.specs.Prelude.{IsTrue}
use Rattle.std.proofs.lemmas.Bool.Decides.{nat_tests}
use Rattle.std.proofs.lemmas.Nat.{mul-le}
use Rattle.metric_laws.specs.Laws.{IsMetric}
use Rattle.metrics_builtin.specs.declared.Space.{Space}
use Rattle.metrics_builtin.specs.declared.Space.TheVariants.{L1, LInf, Hamming, Sets}
use Rattle.metrics_builtin.specs.Space.{fits, IsValid, dist, top}
use Rattle.metrics_builtin.specs.L1Laws.{l1_metric}
use Rattle.metrics_builtin.specs.LInfLaws.{linf_metric}
use Rattle.metrics_builtin.specs.HammingLaws.{hamming_metric}
use Rattle.metrics_builtin.specs.SetLaws.{set_metric}

-- the ranges of a space L1 that fits
pub record L1Ranges (dim most : ℕ) : Type 0 where
  pub dim_low : 1 ≤ dim
  pub dim_high : dim ≤ 30
  pub most_low : 1 ≤ most
  pub most_high : most < 2 ^ 32
  pub product_high : dim * most < 2 ^ 32

most_below : (dim most : ℕ) → 1 ≤ dim → dim * most < 2 ^ 32 → most < 2 ^ 32
most_below dim most low high =
    let whole : 1 * most ≤ dim * most = mul-le 1 most dim most low (omega arith) in
    omega arith

pub l1_ranges : (dim most : ℕ) → IsTrue (fits (L1 dim most)) → L1Ranges dim most
l1_ranges dim most h =
    let low : 1 ≤ dim = grind (arith, nat_tests) in
    let product : dim * most < 2 ^ 32 = grind (arith, nat_tests) in
    record {
      dim_low = low;
      dim_high = grind (arith, nat_tests);
      most_low = grind (arith, nat_tests);
      most_high = most_below dim most low product;
      product_high = product;
    }

-- the components of a space LInf that fits are in 32 bits
pub linf_small : (dim most : ℕ) → IsTrue (fits (LInf dim most)) → most < 2 ^ 32
linf_small dim most h = grind (arith, nat_tests)

-- strings are short
pub hamming_small : (len : ℕ) → IsTrue (fits (Hamming len)) → len ≤ 120
hamming_small len h = grind (arith, nat_tests)

-- the elements of a space Sets that fits are in 32 bits
pub sets_small : (universe most : ℕ) → IsTrue (fits (Sets universe most)) → universe < 2 ^ 32
sets_small universe most h = grind (arith, nat_tests)

-- the greatest distance is in 32 bits
pub top-below : (space : Space) → IsTrue (fits space) → top space < 2 ^ 32
top-below (L1 dim most) h = (l1_ranges dim most h).product_high
top-below (LInf dim most) h = linf_small dim most h
top-below (Hamming len) h = omega (arith, hamming_small len h)
top-below (Sets universe most) h = omega (arith, sets_small universe most h)

-- the distance of a space that fits is a metric on its objects
pub is_metric : (space : Space) → IsTrue (fits space) → IsMetric (IsValid space) (dist space) (top space)
is_metric (L1 dim most) h = l1_metric dim most (l1_ranges dim most h).most_high
is_metric (LInf dim most) h = linf_metric dim most (linf_small dim most h)
is_metric (Hamming len) h = hamming_metric len
is_metric (Sets universe most) h = set_metric universe most (sets_small universe most h)

-- a distance is in 32 bits
pub dist-below : (space : Space) (a b : List ℕ) → IsTrue (fits space) → IsValid space a →
    IsValid space b → dist space a b < 2 ^ 32
dist-below space a b h v w =
    let bounded : dist space a b ≤ top space = (is_metric space h).bounded a b v w in
    let below : top space < 2 ^ 32 = top-below space h in
    omega arith
