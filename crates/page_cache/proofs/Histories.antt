-- Requests one after another, and lists with less room and with more.
use Rattle.std.proofs.Common.{◌≡◌, ℕ, zero, suc, ◌+◌, ◌≤◌, ◌==◌, ◌||◌, not, Bool, true, false, if◌then◌else◌, List, [], ◌∷◌, ◌++◌, map, length, take, cond, refl, sym, ap, subst, ◌∙◌, arith}
use Rattle.std.specs.List.{IsDistinct}
use Rattle.std.proofs.lemmas.List.{take-take}
use Rattle.page_laws.specs.Pages.{is_among}
use Rattle.page_cache.specs.Misses.{MostRecent, Request, Get, Put, EndChange, without, misses_of, after_get, after_put, after_change, after_all, misses}
use Rattle.page_cache.proofs.Lists.{neither, without_none, all_other, same_number, after_distinct}

-- the misses of requests add up
pub added_up : (room : ℕ) (r : MostRecent) (first rest : List Request)
    → misses room r (first ++ rest) ≡ misses room r first + misses room (after_all room r first) rest
added_up room r [] rest = omega arith
added_up room r (Get n ∷ first) rest =
    let more = added_up room (after_get room n r) first rest in
    omega (arith, more)
added_up room r (Put n ∷ first) rest = added_up room (after_put n r) first rest
added_up room r (EndChange ∷ first) rest = added_up room (after_change r) first rest

-- a number that is taken out of the front of a list, and out of the whole
front_step : (b : Bool) (k n x : ℕ) (xs : List ℕ) → (b ≡ true → take k (without n (take k xs)) ≡ take k (without n xs))
    → take k (x ∷ without n (take k xs)) ≡ take k (x ∷ without n xs)
    → take k (cond (not b) (x ∷ without n (take k xs)) (without n (take k xs))) ≡ take k (cond (not b) (x ∷ without n xs) (without n xs))
front_step true k n x xs gone stays = gone refl
front_step false k n x xs gone stays = stays

none_taken : (n k : ℕ) (xs : List ℕ) → is_among n xs ≡ false → is_among n (take k xs) ≡ false
none_taken n zero xs none = refl
none_taken n (suc k) [] none = refl
none_taken n (suc k) (x ∷ xs) none =
    let parts = neither (x == n) (is_among n xs) none in
    ap (λ b. b || is_among n (take k xs)) parts.0 ∙ none_taken n k xs parts.1

taken_out : (n k : ℕ) (xs : List ℕ) → is_among n xs ≡ false → take k (without n (take k xs)) ≡ take k (without n xs)
taken_out n k xs none =
    ap (take k) (without_none n (take k xs) (none_taken n k xs none))
    ∙ take-take k k xs (omega arith)
    ∙ ap (take k) (sym (without_none n xs none))

front_without : (n k : ℕ) (xs : List ℕ) → IsDistinct (λ a b. a == b) xs → take k (without n (take (suc k) xs)) ≡ take k (without n xs)
unfolding IsDistinct
front_without n zero xs distinct = refl
front_without n (suc k) [] distinct = refl
front_without n (suc k) (x ∷ xs) distinct =
    front_step (x == n) (suc k) n x xs
    (λ is. taken_out n (suc k) xs (subst (λ (m : ℕ). is_among m xs ≡ false) (same_number x n is) (all_other x xs distinct.0)))
    (ap (λ (l : List ℕ). x ∷ l) (front_without n k xs distinct.1))

-- a page goes first in a list with less room as in one with more
both_first : (n room more : ℕ) (xs : List ℕ) → room ≤ more → IsDistinct (λ a b. a == b) xs
    → take room (n ∷ without n (take room xs)) ≡ take room (take more (n ∷ without n xs))
both_first n zero more xs less distinct = refl
both_first n (suc room) more xs less distinct =
    ap (λ (l : List ℕ). n ∷ l) (front_without n room xs distinct) ∙ sym (take-take (suc room) more (n ∷ without n xs) less)

-- no page is put
abbrev none_put : List ℕ → MostRecent
none_put pages = record { pages = pages; is_put = λ _. false }

pub first_part : (room more : ℕ) (small big asked : List ℕ) → room ≤ more → small ≡ take room big → IsDistinct (λ a b. a == b) big
    → (after_all room (none_put small) (map Get asked)).pages ≡ take room (after_all more (none_put big) (map Get asked)).pages
first_part room more small big [] less is distinct = is
first_part room more small big (n ∷ asked) less is distinct =
    first_part room more (take room (n ∷ without n small)) (take more (n ∷ without n big)) asked less
    (ap (λ (l : List ℕ). take room (n ∷ without n l)) is ∙ both_first n room more big less distinct)
    (after_distinct n more big distinct)

-- a list of no page
pub none_twice : IsDistinct (λ a b. a == b) ([])
unfolding IsDistinct
none_twice = tt

pub none_of_none : (room : ℕ) → take {A = ℕ} room [] ≡ []
none_of_none zero = refl
none_of_none (suc room) = refl
