-- The keys of a cache, as a list of the most recent pages.
use Rattle.std.proofs.Common.{◌≡◌, ℕ, ◌-◌, ◌<◌, ◌≤◌, ◌==◌, ◌||◌, not, Bool, true, false, List, [], ◌∷◌, length, take, cond, Option, Some, None, refl, sym, ap, subst, ◌∙◌}
use Rattle.std.specs.Prelude.{nat_eq, is_some}
use Rattle.std.specs.Option.{option_map_or}
use Rattle.std.specs.List.{IsDistinct, list_any}
use Rattle.std.specs.Cmp.{nat_eq_equiv}
use Rattle.std.specs.Map.{keys_of, lookup, lookup_entry, remove_entry}
use Rattle.std.proofs.lemmas.Bool.{false≢true}
use Rattle.std.proofs.lemmas.List.{take-map}
use Rattle.std.proofs.lemmas.Map.Entries.{length-keys_of}
use Rattle.std.proofs.lemmas.Map.Made.{is_some-lookup}
use Rattle.lru.specs.LruCache.{LruCache, lru_cache, promoted, put_entries}
use Rattle.lru.proofs.CallerLemmas.{Contains-lookup_entry}
use Rattle.page_laws.specs.Pages.{is_among}
use Rattle.page_cache.specs.Misses.{without}
use Rattle.page_cache.proofs.Lists.{same_number, without_none, all_other, front_fits, front_new}

-- the test of a cache's key, and that of a list
turned : (n : ℕ) (ks : List ℕ) → list_any (nat_eq n) ks ≡ is_among n ks
turned n [] = refl
turned n (k ∷ ks) = ap (λ b. b || list_any (nat_eq n) ks) (nat_eq_equiv.symm n k) ∙ ap (λ b. (k == n) || b) (turned n ks)

-- whether a page is cached
pub found : (n : ℕ) (es : List (ℕ × List ℕ)) → is_some (lookup (nat_eq n) es) ≡ is_among n (keys_of es)
found n es = is_some-lookup (nat_eq n) es ∙ turned n (keys_of es)

-- a look-up of the value and one of the entry
both_found : (n : ℕ) (es : List (ℕ × List ℕ)) → is_some (lookup (nat_eq n) es) ≡ is_some (lookup_entry (nat_eq n) es)
both_found n [] = refl
both_found n (e ∷ es) = step (nat_eq n e.0) (lookup (nat_eq n) es) (lookup_entry (nat_eq n) es) (both_found n es)
  where
    step : (b : Bool) (x : Option (List ℕ)) (y : Option (ℕ × List ℕ)) → is_some x ≡ is_some y
        → is_some (cond b (Some e.1) x) ≡ is_some (cond b (Some e) y)
    step true x y is = refl
    step false x y is = is

pub removed_step : (b : Bool) (n : ℕ) (e : ℕ × List ℕ) (es : List (ℕ × List ℕ)) → nat_eq n e.0 ≡ b
    → keys_of (remove_entry (nat_eq n) es) ≡ without n (keys_of es) → (nat_eq n e.0 ≡ true → without n (keys_of es) ≡ keys_of es)
    → keys_of (cond b es (e ∷ remove_entry (nat_eq n) es)) ≡ cond (not b) (e.0 ∷ without n (keys_of es)) (without n (keys_of es))
removed_step true n e es is rest alone = sym (alone is)
removed_step false n e es is rest alone = ap (λ (ks : List ℕ). e.0 ∷ ks) rest

-- the cache without a page
pub removed : (n : ℕ) (es : List (ℕ × List ℕ)) → IsDistinct (λ a b. a == b) (keys_of es) → keys_of (remove_entry (nat_eq n) es) ≡ without n (keys_of es)
unfolding IsDistinct
removed n [] distinct = refl
removed n (e ∷ es) distinct =
    removed_step (nat_eq n e.0) n e es refl (removed n es distinct.1)
    (λ is. without_none n (keys_of es)
    (subst (λ k. is_among k (keys_of es) ≡ false) (sym (same_number n e.0 is)) (all_other e.0 (keys_of es) distinct.0)))
    ∙ ap (λ b. cond (not b) (e.0 ∷ without n (keys_of es)) (without n (keys_of es))) (nat_eq_equiv.symm n e.0)

-- a page that isn't cached can't be moved
pub unmoved : (n : ℕ) (c : LruCache ℕ (List ℕ)) → is_some (lookup (nat_eq n) c.entries) ≡ false → lru_cache (promoted (nat_eq n) c.entries) c.cap ≡ c
unmoved n c none = by (lookup_entry (nat_eq n) c.entries) (sym (both_found n c.entries) ∙ none)
  where
    by : (o : Option (ℕ × List ℕ)) → is_some o ≡ false → lru_cache (option_map_or (λ e. e ∷ remove_entry (nat_eq n) c.entries) o c.entries) c.cap ≡ c
    by None is = refl
    by (Some e) is = absurd (false≢true (sym is))

module _ (n : ℕ) (c : LruCache ℕ (List ℕ)) (some : 0 < c.cap) (fits : length c.entries ≤ c.cap) (distinct : IsDistinct (λ a b. a == b) (keys_of c.entries)) where
  moved_by : (o : Option (ℕ × List ℕ)) → lookup_entry (nat_eq n) c.entries ≡ o → is_some o ≡ true
      → keys_of (option_map_or (λ e. e ∷ remove_entry (nat_eq n) c.entries) o c.entries) ≡ n ∷ without n (keys_of c.entries)
  moved_by None is there = absurd (false≢true there)
  moved_by (Some e) is there =
      ap (λ (k : ℕ). k ∷ keys_of (remove_entry (nat_eq n) c.entries)) (sym (same_number n e.0 (Contains-lookup_entry (nat_eq n) c.entries e is).1))
      ∙ ap (λ (ks : List ℕ). n ∷ ks) (removed n c.entries distinct)

  -- with a cached page in front
  pub moved : is_among n (keys_of c.entries) ≡ true → keys_of (promoted (nat_eq n) c.entries) ≡ take c.cap (n ∷ without n (keys_of c.entries))
  moved there =
      moved_by (lookup_entry (nat_eq n) c.entries) refl (sym (both_found n c.entries) ∙ found n c.entries ∙ there)
      ∙ sym (front_fits n c.cap (keys_of c.entries) (subst (λ m. m ≤ c.cap) (sym (length-keys_of c.entries)) fits) there)

  put_by : (v : List ℕ) (o : Option (ℕ × List ℕ)) → lookup_entry (nat_eq n) c.entries ≡ o → is_some o ≡ false
      → keys_of (option_map_or (λ e. (e.0, v) ∷ remove_entry (nat_eq n) c.entries) o ((n, v) ∷ take (c.cap - 1) c.entries)) ≡ n ∷ take (c.cap - 1) (keys_of c.entries)
  put_by v None is none = ap (λ (ks : List ℕ). n ∷ ks) (sym (take-map (λ (e : ℕ × List ℕ). e.0) (c.cap - 1) c.entries))
  put_by v (Some e) is none = absurd (false≢true (sym none))

  -- with a new page in front
  pub put : (v : List ℕ) → is_among n (keys_of c.entries) ≡ false → keys_of (put_entries nat_eq c n v) ≡ take c.cap (n ∷ without n (keys_of c.entries))
  put v none =
      put_by v (lookup_entry (nat_eq n) c.entries) refl (sym (both_found n c.entries) ∙ found n c.entries ∙ none)
      ∙ sym (front_new n c.cap (keys_of c.entries) some none)
