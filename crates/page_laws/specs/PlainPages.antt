-- Pages in memory.
use Rattle.std.specs.Prelude.{◌≡◌, ℕ, ◌-◌, ◌≤◌, Bool, true, IsTrue, ◌&&◌, nat_le, nat_lt, List, [], length, slice_index_or, replicate}
use Rattle.std.proofs.lemmas.Bool.{and_parts}
use Rattle.std.specs.List.{range_with_len}
use Rattle.page_laws.specs.declared.pages.TheConstants.{PAGE_SIZE}
use Rattle.page_laws.specs.Pages.{AreFree}

-- the pages, the first one of the pool, the free ones, and how many were asked for
pub record Plain : Type 0 where
  pub pages : List (List ℕ)
  pub first : ℕ
  pub free : List ℕ
  pub fetches : ℕ

-- whether there is a page of this number
abbrev pub has : Plain → ℕ → Bool
has p n = nat_lt n (length p.pages)

-- what each page holds
abbrev pub page_at : Plain → ℕ → List ℕ
page_at p n = slice_index_or p.pages n []

-- whether the page is one from the pool's first on
abbrev pub in_pool : Plain → ℕ → Bool
in_pool p n = nat_le p.first n && nat_lt n (length p.pages)

-- the pages of the pool are there
pub pool_is_there : (p : Plain) (n : ℕ) → IsTrue (in_pool p n) → IsTrue (has p n)
pool_is_there p n is = (and_parts (nat_le p.first n) (nat_lt n (length p.pages)) is).1

-- so many zero pages, of which those from `first` on are the pool, all of it free
abbrev pub zeros : ℕ → ℕ → Plain
zeros count first = record {
  pages = replicate count (replicate PAGE_SIZE 0);
  first = first;
  free = range_with_len first (count - first);
  fetches = 0;
}

-- there are at most 2^32 - 1 pages, the free ones are of the pool, and there is room for all of the pool
pub record IsPlain (p : Plain) (capacity : ℕ) : Type 0 where
  pub count : length p.pages ≤ 4294967295
  pub free : AreFree (in_pool p) p.free
  pub room : length p.pages - p.first ≤ capacity
