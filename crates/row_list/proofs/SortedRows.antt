-- What a sort by id leaves, and the search for an id that repeats.
use Rattle.std.proofs.Common.{◌≡◌, ℕ, ◌+◌, ◌<◌, ◌&&◌, Bool, true, false, not, cond, Option, Some, None, List, [], ◌∷◌, length, get_or, Contains, IsPermutation, is_lt, refl, sym, ap, subst, ◌∙◌, zero, suc, arith}
use Rattle.std.specs.List.{AllPairs, filter}
use Rattle.std.specs.List.Sorted.{IsStableByKey}
use Rattle.std.specs.Ordering.{nat_cmp}
use Rattle.std.specs.Cmp.{nat_cmp_is}
use Rattle.std.specs.declared.cmp.Ordering.TheVariants.{Equal}
use Rattle.std.proofs.lemmas.List.{get_or_default, length-map, get_or-map}
use Rattle.std.proofs.lemmas.List.Kept.{AllPairs-filter}
use Rattle.std.proofs.lemmas.List.Sorted.{Contains-permutation, IsPermutation-sym}
use Rattle.pivot_map.specs.declared.row.Row.{Row}
use Rattle.row_list.specs.declared.sorting.SlottedRow.{SlottedRow}
use Rattle.row_list.specs.Slotted.{id_of, rows_of, slots_of, HasAscendingIds, HasAscendingSlots, HasRepeatAt, RepeatsId}
use Rattle.row_list.specs.Lists.{IsInOrder, IsListed, slotted}

-- ---- the search for an id that repeats

-- the rows so far, and the id of the last of them
pub record IsPassed (rows : List SlottedRow) (count : ℕ) (last : Option ℕ) : Type 0 where
  pub ascending : (j k : ℕ) (d : SlottedRow) → j < k → k < count → id_of (get_or rows j d) < id_of (get_or rows k d)
  pub none : count ≡ 0 → last ≡ None
  pub some : (k : ℕ) (d : SlottedRow) → k + 1 ≡ count → last ≡ Some (id_of (get_or rows k d))

none_is_some : (n : ℕ) → ◌≡◌ {A = Option ℕ} None (Some n) → ⊥
none_is_some n h = cc

same_number : (m n : ℕ) → ◌≡◌ {A = Option ℕ} (Some m) (Some n) → m ≡ n
same_number m n h = cc

-- a row that repeats the id of the one before
pub repeat_found : (rows : List SlottedRow) (count : ℕ) (last : Option ℕ) (row : SlottedRow) → IsPassed rows count last → count < length rows
    → row ≡ get_or rows count row → last ≡ Some (id_of row) → HasRepeatAt rows row.slot
repeat_found rows zero last row passed below is same = absurd (none_is_some (id_of row) (sym (passed.none refl) ∙ same))
repeat_found rows (suc k) last row passed below is same =
    let next : k + 1 ≡ suc k = omega arith in record {
      place = k;
      within = omega (arith, below);
      same = λ d. same_number _ _ (sym (passed.some k d next) ∙ same) ∙ ap id_of (is ∙ get_or_default rows (suc k) row d below)
          ∙ ap (λ n. id_of (get_or rows n d)) (sym next);
      is = λ d. ap (λ n. (get_or rows n d).slot) next ∙ ap (λ (r : SlottedRow). r.slot) (sym (is ∙ get_or_default rows (suc k) row d below));
    }

-- ---- an id that repeats is that of a row of a lower slot

tail_of : {X : Type 0} (R : X → X → Type 0) (b : Bool) (x : X) (xs : List X) → AllPairs R (cond b (x ∷ xs) xs) → AllPairs R xs
tail_of R true x xs h = λ i j d less below. h (suc i) (suc j) d (omega (arith, less)) (omega (arith, below))
tail_of R false x xs h = h

-- neighbours that both pass a filter are neighbours in what passes it
neighbours : {X : Type 0} (R : X → X → Type 0) (p : X → Bool) (xs : List X) (k : ℕ) (d : X) → suc k < length xs → p (get_or xs k d) ≡ true
    → p (get_or xs (suc k) d) ≡ true → AllPairs R (filter p xs) → R (get_or xs k d) (get_or xs (suc k) d)
neighbours R p [] k d within here next h = absurd (omega (arith, within))
neighbours R p (a ∷ []) k d within here next h = absurd (omega (arith, within))
neighbours R p (a ∷ b ∷ xs) zero d within here next h =
    let both : filter p (a ∷ b ∷ xs) ≡ a ∷ b ∷ filter p xs =
    ap (λ t. cond t (a ∷ filter p (b ∷ xs)) (filter p (b ∷ xs))) here ∙ ap (λ t. a ∷ cond t (b ∷ filter p xs) (filter p xs)) next in
    subst (AllPairs R) both h 0 1 d (omega arith) (omega arith)
neighbours R p (a ∷ b ∷ xs) (suc k) d within here next h =
    neighbours R p (b ∷ xs) k d (omega (arith, within)) here next (tail_of R (p a) a (filter p (b ∷ xs)) h)

tie : (m n : ℕ) → m ≡ n → (not (is_lt (nat_cmp m n)) && not (is_lt (nat_cmp n m))) ≡ true
tie m n same =
    ap (λ o. not (is_lt o) && not (is_lt (nat_cmp n m))) (sym (nat_cmp_is m n Equal same))
    ∙ ap (λ o. not (is_lt o)) (sym (nat_cmp_is n m Equal (sym same)))

item : (rows : List SlottedRow) (place : ℕ) (d : SlottedRow) → place < length rows → Contains rows (get_or rows place d)
item rows place d below = (place, below, get_or_default rows place (get_or rows place d) d below)

repeat_from : (given rows : List SlottedRow) (slot : ℕ) → HasAscendingSlots given → IsPermutation given rows → IsStableByKey id_of nat_cmp given rows
    → HasRepeatAt rows slot → (d : SlottedRow) → RepeatsId given slot
repeat_from given rows slot ascending moved stable repeat d =
    let k = repeat.place in
    let a = get_or rows k d in
    let b = get_or rows (suc k) d in
    let next : k + 1 ≡ suc k = omega arith in
    let same : id_of a ≡ id_of b = repeat.same d ∙ ap (λ n. id_of (get_or rows n d)) next in
    let within : suc k < length rows = let inside = repeat.within in omega (arith, inside) in
    let back = IsPermutation-sym given rows moved in
    let among = λ (row : SlottedRow). not (is_lt (nat_cmp (id_of a) (id_of row))) && not (is_lt (nat_cmp (id_of row) (id_of a))) in
    record {
      lower = a;
      greater = b;
      has_lower = Contains-permutation rows given a back (item rows k d (omega (arith, within)));
      has_greater = Contains-permutation rows given b back (item rows (suc k) d within);
      same = same;
      below = neighbours (λ (a b : SlottedRow). a.slot < b.slot) among rows k d within (tie (id_of a) (id_of a) refl) (tie (id_of a) (id_of b) same)
          (subst (AllPairs (λ (a b : SlottedRow). a.slot < b.slot)) (sym (stable a))
          (AllPairs-filter (λ (a b : SlottedRow). a.slot < b.slot) among given ascending));
      is = ap (λ n. (get_or rows n d).slot) (sym next) ∙ repeat.is d;
    }

pub repeat_of_lower : (given rows : List SlottedRow) (slot : ℕ) → HasAscendingSlots given → IsPermutation given rows → IsStableByKey id_of nat_cmp given rows
    → HasRepeatAt rows slot → RepeatsId given slot
repeat_of_lower given [] slot ascending moved stable repeat = let within = repeat.within in absurd (omega (arith, within))
repeat_of_lower given (first ∷ rest) slot ascending moved stable repeat = repeat_from given (first ∷ rest) slot ascending moved stable repeat first

-- ---- the columns of sorted rows

slotted-columns : (rows : List SlottedRow) → slotted (rows_of rows) (slots_of rows) ≡ rows
slotted-columns [] = refl
slotted-columns (row ∷ rows) = ap (λ more. row ∷ more) (slotted-columns rows)

pub columns_are : (given all : List SlottedRow) (rows : List Row) (slots : List ℕ) → IsPermutation given all → rows ≡ rows_of all → slots ≡ slots_of all
    → IsPermutation given (slotted rows slots)
columns_are given all rows slots moved rows_are slots_are =
    subst (λ more. IsPermutation given (slotted rows more)) (sym slots_are)
    (subst (λ more. IsPermutation given (slotted more (slots_of all))) (sym rows_are) (subst (IsPermutation given) (sym (slotted-columns all)) moved))

in_order : (all : List SlottedRow) → HasAscendingIds all → IsInOrder (rows_of all)
in_order [] ascending = λ i j d less below. absurd (omega (arith, below))
in_order (first ∷ rest) ascending = λ i j d less below.
    let all = first ∷ rest in
    let row = λ (row : SlottedRow). row.row in
    let inside : j < length all = (let many = length-map all row in omega (arith, many, below)) in
    let left = get_or-map row all i first d (omega (arith, less, inside)) in
    let right = get_or-map row all j first d inside in
    subst (λ (r : Row). r.id < (get_or (rows_of all) j d).id) (sym left)
    (subst (λ (r : Row). (get_or all i first).row.id < r.id) (sym right) (ascending i j first less inside))

pub columns_listed : (all : List SlottedRow) (rows : List Row) (slots : List ℕ) → HasAscendingIds all → rows ≡ rows_of all → slots ≡ slots_of all
    → IsListed rows slots
columns_listed all rows slots ascending rows_are slots_are =
    subst (λ more. IsListed rows more) (sym slots_are) (subst (λ more. IsListed more (slots_of all)) (sym rows_are) (record {
      order = in_order all ascending;
      same_length = length-map all (λ (row : SlottedRow). row.slot) ∙ sym (length-map all (λ (row : SlottedRow). row.row));
    }))
