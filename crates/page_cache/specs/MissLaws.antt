-- Requests for pages, with their misses worked out by hand.
use Rattle.std.specs.Prelude.{◌≡◌, ℕ, List, [], ◌∷◌}
use Rattle.page_cache.specs.Misses.{MostRecent, Request, Get, Put, EndChange, nothing_yet, after_all, misses}

-- 90, 91, 92, 90, 93, 90 with room for three: 90 is read once, and 91 goes for 93
abbrev pub with_three : List Request
with_three = Get 90 ∷ Get 91 ∷ Get 92 ∷ Get 90 ∷ Get 93 ∷ Get 90 ∷ []

-- a page that is put is not read until the change ends, and once then
abbrev pub with_a_put : List Request
with_a_put = Get 90 ∷ Put 90 ∷ Get 90 ∷ Get 90 ∷ EndChange ∷ Get 90 ∷ Get 90 ∷ []

pub record WorkedMisses : Type 0 where
  pub three : misses 3 nothing_yet with_three ≡ 4
  pub left_of_three : (after_all 3 nothing_yet with_three).pages ≡ 90 ∷ 93 ∷ 92 ∷ []
  pub once_more : misses 3 (after_all 3 nothing_yet with_three) (Get 91 ∷ []) ≡ 1
  pub one : misses 1 nothing_yet (Get 90 ∷ Get 91 ∷ Get 90 ∷ []) ≡ 3
  pub put : misses 3 nothing_yet with_a_put ≡ 2
