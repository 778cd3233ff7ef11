-- The pages of a change, the free pages, and how often pages were asked for.
use Rattle.std.proofs.Common.{◌≡◌, ℕ, zero, suc, ◌+◌, ◌-◌, ◌^◌, ◌<◌, ◌≤◌, ◌==◌, Bool, not, ◌&&◌, List, length, ap, ◌∙◌, arith}
use Rattle.std.specs.Prelude.{min, IsTrue, count_by}
use Rattle.std.specs.List.{AllByRecursion, list_all, list_any, IsDistinct}
use Rattle.std.proofs.lemmas.List.Sums.{count_by-le-length}
use Rattle.page_laws.specs.declared.pages.TheConstants.{CHANGE_LIMIT}

-- a count of 64 bits with this many more, which stays at its last value
abbrev pub risen : ℕ → ℕ → ℕ
risen n more = min (n + more) (2 ^ 64 - 1)

-- such a count after so many more: after none it is the same, whatever it is
abbrev pub count_after : ℕ → ℕ → ℕ
count_after n zero = n
count_after n (suc more) = risen n (suc more)

pub count_after-add : (n a b : ℕ) → count_after (count_after n a) b ≡ count_after n (a + b)
count_after-add n zero b = ap (count_after n) (omega arith)
count_after-add n (suc a) zero = let same : suc a ≡ suc a + zero = omega arith in ap (count_after n) same
count_after-add n (suc a) (suc b) =
    let total : suc (suc a + b) ≡ suc a + suc b = omega arith in
    let most : risen (risen n (suc a)) (suc b) ≡ risen n (suc (suc a + b)) = omega arith in
    most ∙ ap (count_after n) total

-- whether all of the bytes are zero
unfoldable pub are_zero : List ℕ → Bool
are_zero bytes = list_all (λ b. b == 0) bytes

-- whether the number is among these
abbrev pub is_among : ℕ → List ℕ → Bool
is_among n numbers = list_any (λ m. m == n) numbers

-- whether the page is of the pool and isn't free
abbrev pub is_live : (ℕ → Bool) → List ℕ → ℕ → Bool
is_live in_pool free n = in_pool n && not (is_among n free)

-- the free pages are of the pool, and none is there twice
pub record AreFree (in_pool : ℕ → Bool) (free : List ℕ) : Type 0 where
  pub pool : AllByRecursion (λ n. IsTrue (in_pool n)) free
  pub distinct : IsDistinct (λ a b. a == b) free

-- fewer pages but this one were put than a change may put
abbrev pub HasRoom : ℕ → List ℕ → Type 0
HasRoom n put = count_by (λ m. not (m == n)) put < CHANGE_LIMIT

-- no page but this one joins those that were put
pub record JoinsAtMost (n : ℕ) (old new : List ℕ) : Type 0 where
  pub others_are : (m : ℕ) → (m ≡ n → ⊥) → is_among m new ≡ is_among m old
  pub one_more : length new ≤ length old + 1

-- if fewer pages were put than a change may put, there is room for any
pub few_have_room : (n : ℕ) (put : List ℕ) → length put < CHANGE_LIMIT → HasRoom n put
few_have_room n put few = omega (arith, few, count_by-le-length (λ m. not (m == n)) put)
