-- An index from ids to places, after a row comes and after one goes.
use Rattle.std.proofs.Common.{Bor, ◌≡◌, ◌≢◌, ◌⊎◌, inl, inr, length-append, ℕ, ◌+◌, ◌-◌, ◌<◌, ◌≤◌, true, false, Option, Some, None, List, [], ◌∷◌, ◌++◌, length, get_or, slice_index, subst, swap_remove, set, length-set, length-take-le, get_or-take, get_or-set_same, get_or-set_other, IsPermutation, refl, sym, ap, ◌∙◌, ⊎_elim, arith, nat_cmp, is_some}
use Rattle.std.specs.Slice.{IsItemAt}
use Rattle.std.specs.Option.{option_copied}
use Rattle.std.specs.Map.{lookup}
use Rattle.std.specs.BTreeMap.{BTreeMap, get, UpdatesBy, is_at}
use Rattle.std.proofs.lemmas.Bool.{cases_eq, cases_lt}
use Rattle.std.proofs.lemmas.Bool.Decides.{nat_tests}
use Rattle.std.proofs.lemmas.List.{length-map, map-append, get_or-map, get_or_default}
use Rattle.std.proofs.Math.ListN.{get_or-append}
use Rattle.std.proofs.Math.Seq.{get_or-append_seam}
use Rattle.pivot_map.specs.declared.row.Row.{Row}
use Rattle.row_table.specs.Tables.{has_id, row_with, rows_without, ids_of, HasDistinctIds}
use Rattle.row_table.specs.Places.{IsIndexed}
use Rattle.row_table.specs.Finding.{find-at, find-none}
use Rattle.row_table.specs.TableLaws.{not_equal, equal, none_is_row, rows_without-permutation, rows_without-cons, without_absent}
use Rattle.std.proofs.lemmas.List.Sorted.{IsPermutation-swap_remove, IsPermutation-refl}

-- ---- what an index says of rows

id_at : (rows : List Row) (place : ℕ) (d : Row) → place < length rows → slice_index (ids_of rows) place ≡ (get_or rows place d).id
id_at rows place d below = get_or-map (λ (row : Row). row.id) rows place d 0 below

pub in_range : (rows : List Row) (place_of : ℕ → Option ℕ) → IsIndexed place_of (ids_of rows) → (id place : ℕ) → place_of id ≡ Some place → place < length rows
in_range rows place_of indexed id place is =
    let below = (indexed.held id place is).0 in let same = length-map rows (λ (row : Row). row.id) in omega (arith, below, same)

same_place : (i j : ℕ) → ◌≡◌ {A = Option ℕ} (Some i) (Some j) → i ≡ j
same_place i j h = cc

-- the row at a place of the index has the id
has_it : (rows : List Row) (place_of : ℕ → Option ℕ) → IsIndexed place_of (ids_of rows) → (id place : ℕ) (d : Row) → place_of id ≡ Some place
    → (get_or rows place d).id ≡ id
has_it rows place_of indexed id place d is = sym (id_at rows place d (in_range rows place_of indexed id place is)) ∙ (indexed.held id place is).1

-- the rows at two places have two ids
pub apart : (rows : List Row) (place_of : ℕ → Option ℕ) → IsIndexed place_of (ids_of rows) → (i j : ℕ) (d e : Row) → i < j → j < length rows
    → (get_or rows i d).id ≢ (get_or rows j e).id
apart rows place_of indexed i j d e less below same =
    let count = length-map rows (λ (row : Row). row.id) in
    let left = ap place_of (sym (id_at rows i d (omega (arith, less, below)))) ∙ indexed.here i (omega (arith, less, below, count)) in
    let right = ap place_of (sym (id_at rows j e below)) ∙ indexed.here j (omega (arith, below, count)) in
    let one = same_place i j (sym left ∙ ap place_of same ∙ right) in
    omega (arith, less, one)

pub distinct : (rows : List Row) (place_of : ℕ → Option ℕ) → IsIndexed place_of (ids_of rows) → HasDistinctIds rows
distinct rows place_of indexed i j d less below = apart rows place_of indexed i j d d less below

-- the row at the id's place is that of the id
pub found : (rows : List Row) (place_of : ℕ → Option ℕ) → IsIndexed place_of (ids_of rows) → (id place : ℕ) (row : Row) → place_of id ≡ Some place
    → row ≡ get_or rows place row → row_with id rows ≡ Some row
found rows place_of indexed id place row is at =
    let below = in_range rows place_of indexed id place is in
    let mine = ap (λ (r : Row). r.id) at ∙ has_it rows place_of indexed id place row is in
    find-at (has_id id) rows place row below at (equal row.id id mine) (λ k d before. not_equal (get_or rows k d).id id (λ same.
    apart rows place_of indexed k place d row before below (same ∙ sym (has_it rows place_of indexed id place row is))))

-- an id without a place has no row
pub missing : (rows : List Row) (place_of : ℕ → Option ℕ) → IsIndexed place_of (ids_of rows) → (id : ℕ) → place_of id ≡ None → row_with id rows ≡ None
missing rows place_of indexed id none = find-none (has_id id) rows (λ k d below. not_equal (get_or rows k d).id id (λ same.
    let count = length-map rows (λ (row : Row). row.id) in
    let there = indexed.here k (omega (arith, below, count)) in
    none_is_some k (sym none ∙ ap place_of (sym (id_at rows k d below ∙ same)) ∙ there)))
  where
    none_is_some : (k : ℕ) → ◌≡◌ {A = Option ℕ} None (Some k) → ⊥
    none_is_some k h = cc

-- an id with a row has a place
pub known : (rows : List Row) (place_of : ℕ → Option ℕ) → IsIndexed place_of (ids_of rows) → (id : ℕ) (row : Row) → row_with id rows ≡ Some row
    → is_some (place_of id) ≡ true
known rows place_of indexed id row there = from (place_of id) refl
  where
    from : (place : Option ℕ) → place_of id ≡ place → is_some (place_of id) ≡ true
    from (Some place) is = ap is_some is
    from None is = absurd (none_is_row row (sym (missing rows place_of indexed id is) ∙ there))

-- an id without a row has no place
pub free : (rows : List Row) (place_of : ℕ → Option ℕ) → IsIndexed place_of (ids_of rows) → (id : ℕ) → row_with id rows ≡ None → place_of id ≡ None
free rows place_of indexed id none = from (place_of id) refl
  where
    from : (place : Option ℕ) → place_of id ≡ place → place_of id ≡ None
    from None is = is
    from (Some place) is = absurd (row_is_none rows place (in_range rows place_of indexed id place is) (λ row at. sym none
        ∙ found rows place_of indexed id place row is at))
      where
        row_is_none : (rows : List Row) (place : ℕ) → place < length rows → ((row : Row) → row ≡ get_or rows place row → ◌≡◌ {A = Option Row} None (Some row))
            → ⊥
        row_is_none [] place below h = omega (arith, below)
        row_is_none (r ∷ rs) place below h = none_is_row _ (h (get_or (r ∷ rs) place r) (get_or_default (r ∷ rs) place r _ below))

-- ---- changes of an index

-- the index after one id gets a place, or loses it
pub record Puts (old new : ℕ → Option ℕ) (id : ℕ) (place : Option ℕ) : Type 0 where
  pub here : new id ≡ place
  pub others : (other : ℕ) → other ≢ id → new other ≡ old other

other_key : (id other : ℕ) → other ≢ id → is_at (nat_cmp id) other ≡ false
other_key id other h = ⊎_elim (λ less. grind (arith, nat_tests)) (λ more. grind (arith, nat_tests)) (cases_lt id other)

pub puts : (m n : BTreeMap ℕ ℕ) (id : ℕ) (place : Option ℕ) → UpdatesBy nat_cmp (nat_cmp id) m n place → Puts (get nat_cmp m) (get nat_cmp n) id place
puts m n id place updates = record {
  here = updates.1;
  others = λ other h. updates.2 other (other_key id other h);
}

-- ---- an index after a change of the rows

some_is_none : (k : ℕ) → ◌≡◌ {A = Option ℕ} (Some k) None → ⊥
some_is_none k h = cc

pub indexed-push : (ids : List ℕ) (old new : ℕ → Option ℕ) (id : ℕ) → IsIndexed old ids → old id ≡ None → Puts old new id (Some (length ids))
    → IsIndexed new (ids ++ id ∷ [])
indexed-push ids old new id indexed none put = record {
  here = λ place below. ⊎_elim (earlier place) (at_end place) (cases_eq_end place below);
  held = λ other place is. ⊎_elim (λ same. last other place same is) (λ another. older other place another is) (cases_eq other id);
}
  where
    many : length (ids ++ id ∷ []) ≡ length ids + 1
    many = length-append ids (id ∷ [])

    cases_eq_end : (place : ℕ) → place < length (ids ++ id ∷ []) → (place < length ids) ⊎ (place ≡ length ids)
    cases_eq_end place below = ⊎_elim inl (λ from. inr (omega (arith, from, below, many))) (cases_lt place (length ids))

    earlier : (place : ℕ) → place < length ids → new (slice_index (ids ++ id ∷ []) place) ≡ Some place
    earlier place below =
        let at : slice_index (ids ++ id ∷ []) place ≡ slice_index ids place = get_or-append ids (id ∷ []) 0 place below in
        let there = indexed.here place below in
        ap new at ∙ put.others (slice_index ids place) (λ same. some_is_none place (sym there ∙ ap old same ∙ none)) ∙ there

    at_end : (place : ℕ) → place ≡ length ids → new (slice_index (ids ++ id ∷ []) place) ≡ Some place
    at_end place is =
        let at : slice_index (ids ++ id ∷ []) place ≡ id = ap (slice_index (ids ++ id ∷ [])) is ∙ get_or-append_seam ids id [] 0 in
        ap new at ∙ put.here ∙ ap Some (sym is)

    last : (other place : ℕ) → other ≡ id → new other ≡ Some place → (place < length (ids ++ id ∷ [])) × (slice_index (ids ++ id ∷ []) place ≡ other)
    last other place same is =
        let at : place ≡ length ids = same_place place (length ids) (sym is ∙ ap new same ∙ put.here) in
        (omega (arith, at, many), ap (slice_index (ids ++ id ∷ [])) at ∙ get_or-append_seam ids id [] 0 ∙ sym same)

    older : (other place : ℕ) → other ≢ id → new other ≡ Some place → (place < length (ids ++ id ∷ [])) × (slice_index (ids ++ id ∷ []) place ≡ other)
    older other place another is =
        let there = indexed.held other place (sym (put.others other another) ∙ is) in
        (let below = there.0 in omega (arith, below, many), get_or-append ids (id ∷ []) 0 place there.0 ∙ there.1)

-- the ids after the last of them moved to the place of another one that goes
pub record Moves (old new : List ℕ) (place : ℕ) : Type 0 where
  pub count : length new + 1 ≡ length old
  pub moved : place + 1 < length old → slice_index new place ≡ slice_index old (length old - 1)
  pub others : (k : ℕ) → k ≢ place → k + 1 < length old → slice_index new k ≡ slice_index old k

module _ (ids new : List ℕ) (f g : ℕ → Option ℕ) (id place : ℕ) (indexed : IsIndexed f ids) (is : f id ≡ Some place) (moves : Moves ids new place)
    (cut : Puts f g id None) where
  at_id : slice_index ids place ≡ id
  at_id = (indexed.held id place is).1

  below_old : place < length ids
  below_old = (indexed.held id place is).0

  -- an id at another place is another id
  other_id : (k : ℕ) → k < length ids → k ≢ place → slice_index ids k ≢ id
  other_id k below other same = other (same_place k place (sym (indexed.here k below) ∙ ap f same ∙ is))

  -- and an id at another place than the last is not the last
  not_last : (k : ℕ) → k + 1 < length ids → slice_index ids k ≢ slice_index ids (length ids - 1)
  not_last k below same =
      let one = same_place k (length ids - 1) (sym (indexed.here k (omega (arith, below))) ∙ ap f same
      ∙ indexed.here (length ids - 1) (omega (arith, below))) in
      omega (arith, below, one)

  kept : (k : ℕ) → k < length ids → k ≢ place → g (slice_index ids k) ≡ Some k
  kept k below other = cut.others (slice_index ids k) (other_id k below other) ∙ indexed.here k below

  not_id : (other k : ℕ) → g other ≡ Some k → other ≢ id
  not_id other k there same = some_is_none k (sym there ∙ ap g same ∙ cut.here)

  -- what the index without the id still has
  still : (other k : ℕ) → g other ≡ Some k → (k < length ids) × (slice_index ids k ≡ other)
  still other k there = indexed.held other k (sym (cut.others other (not_id other k there)) ∙ there)

  not_place : (other k : ℕ) → g other ≡ Some k → k ≢ place
  not_place other k there same = not_id other k there (sym (still other k there).1 ∙ ap (slice_index ids) same ∙ at_id)

  -- the last one went
  pub indexed-last : place + 1 ≡ length ids → IsIndexed g new
  indexed-last last = record {
    here = λ k below.
        let count = moves.count in
        let other : k ≢ place = λ same. omega (arith, same, below, last, count) in
        ap g (moves.others k other (omega (arith, below, count))) ∙ kept k (omega (arith, below, count)) other;
    held = λ other k there.
        let old = still other k there in
        let apart = not_place other k there in
        let count = moves.count in
        let under = old.0 in
        let short : k + 1 < length ids = below_last k under apart in
        (omega (arith, short, count), moves.others k apart short ∙ old.1);
  }
    where
      below_last : (k : ℕ) → k < length ids → k ≢ place → k + 1 < length ids
      below_last k under apart = ⊎_elim (λ less. less) (λ from. absurd (apart (omega (arith, from, under, last)))) (cases_lt (k + 1) (length ids))

  -- another one went, and the last has its place
  pub indexed-moved : (h : ℕ → Option ℕ) → place + 1 < length ids → Puts g h (slice_index new place) (Some place) → IsIndexed h new
  indexed-moved h more put = record {
    here = λ k below. ⊎_elim (at_place k) (elsewhere k below) (cases_eq k place);
    held = λ other k there. ⊎_elim (λ same. the_last other k same there) (λ another. the_others other k another there) (cases_eq other (slice_index new place));
  }
    where
      last_is : slice_index new place ≡ slice_index ids (length ids - 1)
      last_is = moves.moved more

      at_place : (k : ℕ) → k ≡ place → h (slice_index new k) ≡ Some k
      at_place k same = ap (λ j. h (slice_index new j)) same ∙ put.here ∙ ap Some (sym same)

      elsewhere : (k : ℕ) → k < length new → (k ≡ place → ⊥) → h (slice_index new k) ≡ Some k
      elsewhere k below other =
          let count = moves.count in
          let short : k + 1 < length ids = omega (arith, below, count) in
          let same = moves.others k other short in
          ap h same ∙ put.others (slice_index ids k) (λ e. not_last k short (e ∙ last_is)) ∙ kept k (omega (arith, short)) other

      the_last : (other k : ℕ) → other ≡ slice_index new place → h other ≡ Some k → (k < length new) × (slice_index new k ≡ other)
      the_last other k same there =
          let count = moves.count in
          let at : k ≡ place = same_place k place (sym there ∙ ap h same ∙ put.here) in
          (omega (arith, at, more, count), ap (slice_index new) at ∙ sym same)

      the_others : (other k : ℕ) → (other ≡ slice_index new place → ⊥) → h other ≡ Some k → (k < length new) × (slice_index new k ≡ other)
      the_others other k another there =
          let was = sym (put.others other another) ∙ there in
          let old = still other k was in
          let count = moves.count in
          let under = old.0 in
          let apart = not_place other k was in
          let short : k + 1 < length ids = ⊎_elim (λ less. less) (λ from. absurd (another (sym old.1 ∙ ap (slice_index ids) (end k from under) ∙ sym last_is)))
          (cases_lt (k + 1) (length ids)) in
          (omega (arith, short, count), moves.others k apart short ∙ old.1)
        where
          end : (k : ℕ) → length ids ≤ k + 1 → k < length ids → k ≡ length ids - 1
          end k from under = omega (arith, from, under)

  -- the index without the id still has the last one
  pub last_stays : place + 1 < length ids → g (slice_index new place) ≡ Some (length ids - 1)
  last_stays more = ap g (moves.moved more) ∙ kept (length ids - 1) (omega (arith, more)) (λ same. omega (arith, more, same))

  -- and doesn't get the id when the last one moves
  pub id_gone : (h : ℕ → Option ℕ) → place + 1 < length ids → Puts g h (slice_index new place) (Some place) → h id ≡ None
  id_gone h more put = put.others id (λ same. not_last place more (at_id ∙ same ∙ moves.moved more)) ∙ cut.here

-- ---- an index of rows

-- an index with the same entries
pub same_entries : (m n : BTreeMap ℕ ℕ) (ids : List ℕ) → n.entries ≡ m.entries → IsIndexed (get nat_cmp m) ids → IsIndexed (get nat_cmp n) ids
same_entries m n ids same indexed = subst (λ es. IsIndexed (λ q. lookup (is_at (nat_cmp q)) es) ids) (sym same) indexed

-- one more row after the others
pub pushed : (rows : List Row) (row : Row) (old new : ℕ → Option ℕ) (place : ℕ) → IsIndexed old (ids_of rows) → row_with row.id rows ≡ None
    → place ≡ length rows → Puts old new row.id (Some place) → IsIndexed new (ids_of (rows ++ row ∷ []))
pushed rows row old new place indexed none is put =
    let count : place ≡ length (ids_of rows) = is ∙ sym (length-map rows (λ (row : Row). row.id)) in
    subst (IsIndexed new) (sym (map-append (λ (row : Row). row.id) rows (row ∷ [])))
    (indexed-push (ids_of rows) old new row.id indexed (free rows old indexed row.id none) (subst (λ n. Puts old new row.id (Some n)) count put))

-- the row at a place goes, and the last moves there
module _ (rows : List Row) (place : ℕ) (row : Row) (below : place < length rows) where
  after : List Row
  after = swap_remove rows place row

  pub count_after : length (swap_remove rows place row) + 1 ≡ length rows
  count_after =
      let changed = length-set rows place (get_or rows (length rows - 1) row) in
      let cut = length-take-le (length rows - 1) (set rows place (get_or rows (length rows - 1) row)) (omega (arith, changed)) in
      omega (arith, below, cut)

  pub moved_after : (d : Row) → place + 1 < length rows → get_or (swap_remove rows place row) place d ≡ get_or rows (length rows - 1) d
  moved_after d more =
      get_or-take (length rows - 1) (set rows place (get_or rows (length rows - 1) row)) place d (omega (arith, more))
      ∙ get_or-set_same rows place (get_or rows (length rows - 1) row) d below
      ∙ get_or_default rows (length rows - 1) row d (omega (arith, more))

  pub others_after : (k : ℕ) (d : Row) → k ≢ place → k + 1 < length rows → get_or (swap_remove rows place row) k d ≡ get_or rows k d
  others_after k d other less =
      get_or-take (length rows - 1) (set rows place (get_or rows (length rows - 1) row)) k d (omega (arith, less))
      ∙ get_or-set_other rows place k (get_or rows (length rows - 1) row) d other

-- what `swap_remove` leaves, as moved ids
moves_of : (rows new : List Row) (place : ℕ) → place < length rows → length new + 1 ≡ length rows
    → ((d : Row) → place + 1 < length rows → get_or new place d ≡ get_or rows (length rows - 1) d)
    → ((k : ℕ) (d : Row) → k ≢ place → k + 1 < length rows → get_or new k d ≡ get_or rows k d)
    → Moves (ids_of rows) (ids_of new) place
moves_of [] new place below count moved others = absurd (omega (arith, below))
moves_of (r ∷ rs) new place below count moved others = record {
  count = omega (arith, count, old_count, new_count);
  moved = λ more.
      let less : place + 1 < length (r ∷ rs) = omega (arith, more, old_count) in
      id_at new place r (omega (arith, less, count)) ∙ ap (λ (r : Row). r.id) (moved r less) ∙ sym (id_at (r ∷ rs) (length (r ∷ rs) - 1) r (omega arith))
      ∙ ap (λ n. slice_index (ids_of (r ∷ rs)) (n - 1)) (sym old_count);
  others = λ k other more.
      let less : k + 1 < length (r ∷ rs) = omega (arith, more, old_count) in
      id_at new k r (omega (arith, less, count)) ∙ ap (λ (r : Row). r.id) (others k r other less) ∙ sym (id_at (r ∷ rs) k r (omega (arith, less)));
}
  where
    old_count : length (ids_of (r ∷ rs)) ≡ length (r ∷ rs)
    old_count = length-map (r ∷ rs) (λ (row : Row). row.id)

    new_count : length (ids_of new) ≡ length new
    new_count = length-map new (λ (row : Row). row.id)

-- the rows without an id are a permutation of what `swap_remove` leaves
remaining : (rows : List Row) (place : ℕ) (row : Row) (id : ℕ) → place < length rows → row ≡ get_or rows place row → row.id ≡ id
    → row_with id (swap_remove rows place row) ≡ None → IsPermutation (rows_without id rows) (swap_remove rows place row)
remaining rows place row id below at mine none =
    let new = swap_remove rows place row in
    let all = rows_without-permutation rows (row ∷ new) id (IsPermutation-swap_remove rows place row below at) in
    subst (IsPermutation (rows_without id rows)) (rows_without-cons row new id true (equal row.id id mine) ∙ without_absent new id none) all

-- a place that isn't that of the last row has one after it
pub more_after : (place n m : ℕ) → place < n → m + 1 ≡ n → place ≢ m → place + 1 < n
more_after place n m below count other = ⊎_elim (λ less. less) (λ from. absurd (other (omega (arith, below, count, from)))) (cases_lt (place + 1) n)

-- the row with the id goes from its place, and the last moves there: `f` is the index before, `g` that without the id
pub record Goes (rows new : List Row) (place : ℕ) (row : Row) (id : ℕ) (f g : ℕ → Option ℕ) : Type 0 where
  pub indexed : IsIndexed f (ids_of rows)
  pub there : f id ≡ Some place
  pub at : row ≡ get_or rows place row
  pub cut : Puts f g id None
  pub items : new ≡ swap_remove rows place row

module _ {rows new : List Row} {place : ℕ} {row : Row} {id : ℕ} {f g : ℕ → Option ℕ} (goes : Goes rows new place row id f g) where
  pub within : place < length rows
  within = in_range rows f goes.indexed id place goes.there

  pub found_there : row_with id rows ≡ Some row
  found_there = found rows f goes.indexed id place row goes.there goes.at

  -- so it isn't absent
  pub there_was : row_with id rows ≡ None → new ≡ rows
  there_was none = absurd (none_is_row row (sym none ∙ found_there))

  pub one_fewer : length new + 1 ≡ length rows
  one_fewer = ap (λ xs. length xs + 1) goes.items ∙ count_after rows place row within

  ids_count : length (ids_of rows) ≡ length rows
  ids_count = length-map rows (λ (row : Row). row.id)

  moved_ids : Moves (ids_of rows) (ids_of new) place
  moved_ids = subst (λ xs. Moves (ids_of rows) (ids_of xs) place) (sym goes.items)
      (moves_of rows (swap_remove rows place row) place within (count_after rows place row within) (moved_after rows place row within)
      (others_after rows place row within))

  left : row_with id new ≡ None → IsPermutation (rows_without id rows) new
  left none =
      let mine = ap (λ (r : Row). r.id) goes.at ∙ has_it rows f goes.indexed id place row goes.there in
      subst (IsPermutation (rows_without id rows)) (sym goes.items)
      (remaining rows place row id within goes.at mine (subst (λ xs. row_with id xs ≡ None) goes.items none))

  -- the last row went
  pub last_gone : place + 1 ≡ length rows → IsIndexed g (ids_of new)
  last_gone last = indexed-last (ids_of rows) (ids_of new) f g id place goes.indexed goes.there moved_ids goes.cut (omega (arith, last, ids_count))

  pub last_remaining : place + 1 ≡ length rows → IsPermutation (rows_without id rows) new
  last_remaining last = left (missing new g (last_gone last) id goes.cut.here)

  -- another row went: `moved` is the one at its place, and `h` the index with its new place
  module _ (more : place + 1 < length rows) (moved : Row) (is : moved ≡ get_or new place moved) where
    more_ids : place + 1 < length (ids_of rows)
    more_ids = omega (arith, more, ids_count)

    moved_id : slice_index (ids_of new) place ≡ moved.id
    moved_id = let count = one_fewer in id_at new place moved (omega (arith, more, count)) ∙ ap (λ (r : Row). r.id) (sym is)

    pub moved_known : is_some (g moved.id) ≡ true
    moved_known = ap (λ n. is_some (g n)) (sym moved_id)
        ∙ ap is_some (last_stays (ids_of rows) (ids_of new) f g id place goes.indexed goes.there moved_ids goes.cut more_ids)

    module _ (h : ℕ → Option ℕ) (put : Puts g h moved.id (Some place)) where
      put_there : Puts g h (slice_index (ids_of new) place) (Some place)
      put_there = subst (λ n. Puts g h n (Some place)) (sym moved_id) put

      pub another_gone : IsIndexed h (ids_of new)
      another_gone = indexed-moved (ids_of rows) (ids_of new) f g id place goes.indexed goes.there moved_ids goes.cut h more_ids put_there

      pub another_remaining : IsPermutation (rows_without id rows) new
      another_remaining = left (missing new h another_gone id
          (id_gone (ids_of rows) (ids_of new) f g id place goes.indexed goes.there moved_ids goes.cut h more_ids put_there))

-- if no row has the id
pub all_remaining : (rows : List Row) (id : ℕ) → row_with id rows ≡ None → IsPermutation (rows_without id rows) rows
all_remaining rows id none = subst (λ xs. IsPermutation xs rows) (sym (without_absent rows id none)) (IsPermutation-refl rows)

-- what `get` of a slice returns at the id's place
pub lent : (rows : List Row) (place_of : ℕ → Option ℕ) → IsIndexed place_of (ids_of rows) → (id place : ℕ) → place_of id ≡ Some place
    → (result : Option (Bor Row)) → IsItemAt rows place result → option_copied result ≡ row_with id rows
lent rows place_of indexed id place is (Some row) item = sym (found rows place_of indexed id place row.now is item.1)
lent rows place_of indexed id place is None item =
    absurd (let below = in_range rows place_of indexed id place is in let past = item.3 in omega (arith, below, past))
