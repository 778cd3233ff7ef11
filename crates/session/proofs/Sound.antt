-- What a sound store holds, and what its collections answer.
use Rattle.std.proofs.Common.{◌≡◌, ℕ, ◌^◌, ◌<◌, ◌≤◌, Bool, true, false, Option, Some, None, List, [], ◌∷◌, ◌++◌, length, get_or, All, IsPermutation, refl, sym, ap, subst, ◌∙◌, arith}
use Rattle.std.specs.Prelude.{is_some, min, slice_set, sum_by, if◌then◌else◌}
use Rattle.std.specs.Option.{option_map}
use Rattle.std.proofs.lemmas.List.{length-set, set-get_or, get_or_default}
use Rattle.std.proofs.lemmas.List.Elements.{All-set}
use Rattle.metrics_builtin.specs.Space.{IsValid, dist}
use Rattle.spb_defs.specs.declared.TheConstants.{MEMORY_CAP}
use Rattle.spb_defs.specs.declared.Reply.TheVariants.{Done, Exists, Absent, Full, Object, Count}
use Rattle.spb_defs.specs.declared.Command.{Command}
use Rattle.spb_defs.specs.declared.Command.TheVariants as command
use Rattle.spb_defs.specs.MetricOf.{IsMetricOf}
use Rattle.spb_defs.specs.Pivots.{cells_of}
use Rattle.spb_defs.specs.State.{with_samples_closed, pivots_after_sampling, object_at, without_object}
use Rattle.spb_defs.specs.Step.{reply_of, evals_of}
use Rattle.spb_defs.specs.Choice.{chosen_samples}
use Rattle.pivot_map.specs.declared.row.Row.{Row}
use Rattle.pivot_map.specs.Rows.{ArePivots, AreRows}
use Rattle.row_table.specs.Members.{rows_at, object_under, count_under, length_under, rows_under, length-part, members_of-pushed, sum-pushed, AreRows-push, members_of-rows_without, sum-rows_without, AreRows-rows_without}
use Rattle.row_table.specs.Tables.{row_with, rows_without, HasDistinctIds}
use Rattle.row_table.specs.TableLaws.{Contains-row_with}
use Rattle.session.specs.declared.store.Store.{Store}
use Rattle.session.specs.Queries.{HoldsRows}
use Rattle.session.specs.Store.{state_of, with_member, IsStore}
use Rattle.session.proofs.Evaluations.{evals-few}
use Rattle.session.proofs.QueryLaws.{measured_pivots, measured_rows}
use Rattle.session.proofs.StoreLaws.{Says, closed_already, add_existing, add_full, add_new, drop_absent, drop_there, get_absent, get_there, counted}

-- a store that keeps no samples stands for a closed state
pub closed_store : (store : Store) → store.sampling ≡ false → state_of store ≡ with_samples_closed (state_of store)
closed_store store shut = closed_already (state_of store) (ap (λ (b : Bool). if b then Some store.samples.items else None) shut)

some_mapped : (o : Option Row) → is_some (option_map (λ (row : Row). row.object) o) ≡ is_some o
some_mapped None = refl
some_mapped (Some row) = refl

pub not_there : (o : Option Row) → is_some o ≡ false → o ≡ None
not_there None none = refl
not_there (Some row) none = absurd (let both : true ≡ false = none in cc)

-- a reply reports few distance computations
pub few_evals : (store : Store) → IsStore store → (asked : Command) → evals_of (reply_of (state_of store) asked) ≤ 2 ^ 32
few_evals store sound asked =
    let many = length_under store.tables in
    let room = sound.room in evals-few (state_of store) sound.pivots.few (omega (arith, many, room)) asked

module _ (store : Store) (sound : IsStore store) where
  distinct : All HasDistinctIds store.tables
  distinct = λ k d below. (sound.rows k d below).ids

  module _ (c : ℕ) (low : c < 4) where
    below : c < length store.tables
    below = let four = sound.four in omega (arith, four, low)

    -- a table by its place, whatever is past the last
    pub at_place : (default : List Row) → get_or store.tables c default ≡ rows_at store.tables c
    at_place default = get_or_default store.tables c default [] below

    held : AreRows (IsValid store.space) (dist store.space) store.pivots.items (rows_at store.tables c)
    held = sound.rows c [] below

    -- what a query is asked over: a table, and the pivots
    pub holds_rows : (rows : List Row) (pivots : List (List ℕ)) → rows ≡ rows_at store.tables c → pivots ≡ store.pivots.items
        → HoldsRows (state_of store) c pivots rows
    holds_rows rows pivots is are =
        subst (λ (rows : List Row). HoldsRows (state_of store) c pivots rows) (sym is)
        (subst (λ (pivots : List (List ℕ)). HoldsRows (state_of store) c pivots (rows_at store.tables c)) (sym are)
        (record { pivots = refl; rows = rows_under store.tables c }))

    pub are_rows : (admitted : List ℕ → Type 0) (distance : List ℕ → List ℕ → ℕ) → IsMetricOf admitted distance store.space
        → (rows : List Row) (pivots : List (List ℕ)) → rows ≡ rows_at store.tables c → pivots ≡ store.pivots.items → AreRows admitted distance pivots rows
    are_rows admitted distance metric rows pivots is are =
        subst (λ (rows : List Row). AreRows admitted distance pivots rows) (sym is)
        (subst (λ (pivots : List (List ℕ)). AreRows admitted distance pivots (rows_at store.tables c)) (sym are)
        (measured_rows admitted distance store.space metric store.pivots.items (rows_at store.tables c) held))

    -- a table put back changes nothing
    pub same_store : (default rows : List Row) → rows ≡ get_or store.tables c default → record store { tables = slice_set store.tables c rows } ≡ store
    same_store default rows is = ap (λ (tables : List (List Row)). record store { tables = tables }) (ap (slice_set store.tables c) is
        ∙ set-get_or store.tables c default)

    pub few_rows : length (rows_at store.tables c) ≤ MEMORY_CAP
    few_rows = let some = length-part store.tables c in let room = sound.room in omega (arith, some, room)

    pub counted_in : (many : ℕ) → many ≡ length (rows_at store.tables c) → reply_of (state_of store) (command.Count c) ≡ Count many
    counted_in many is = counted (state_of store) c many (is ∙ sym (count_under store.tables c))

    -- ---- look-ups

    pub got : (id : ℕ) (row : Row) → row_with id (rows_at store.tables c) ≡ Some row → reply_of (state_of store) (command.Get c id) ≡ Object row.object
    got id row there = get_there (state_of store) c id row.object (object_under store.tables c id ∙ ap (option_map (λ (row : Row). row.object)) there)

    pub got_nothing : (id : ℕ) → row_with id (rows_at store.tables c) ≡ None → reply_of (state_of store) (command.Get c id) ≡ Absent
    got_nothing id none = get_absent (state_of store) c id (object_under store.tables c id ∙ ap (option_map (λ (row : Row). row.object)) none)

    pub got_valid : (id : ℕ) (row : Row) → row_with id (rows_at store.tables c) ≡ Some row → IsValid store.space row.object
    got_valid id row there =
        let at = Contains-row_with (rows_at store.tables c) id row there in
        subst (λ (r : Row). IsValid store.space r.object) at.2 (held.objects at.0 row at.1)

    -- whether there is an object under the key
    there_if : {there : Bool} (id : ℕ) → is_some (row_with id (rows_at store.tables c)) ≡ there → is_some (object_at (state_of store) c id) ≡ there
    there_if id is = ap is_some (object_under store.tables c id) ∙ some_mapped (row_with id (rows_at store.tables c)) ∙ is

    -- ---- additions

    pub added_existing : (id : ℕ) (object : List ℕ) → is_some (row_with id (rows_at store.tables c)) ≡ true
        → Says (state_of store) (command.Add c id object) Exists (state_of store)
    added_existing id object there = add_existing (state_of store) c id object (there_if id there)

    pub added_full : (id : ℕ) (object : List ℕ) → is_some (row_with id (rows_at store.tables c)) ≡ false → MEMORY_CAP ≤ sum_by length store.tables
        → Says (state_of store) (command.Add c id object) Full (state_of store)
    added_full id object none full =
        let many = length_under store.tables in add_full (state_of store) c id object (there_if id none) (omega (arith, many, full))

    pub added_new : (id : ℕ) (object : List ℕ) → is_some (row_with id (rows_at store.tables c)) ≡ false → sum_by length store.tables < MEMORY_CAP
        → Says (state_of store) (command.Add c id object) Done (with_member (state_of store) c id object)
    added_new id object none room =
        let many = length_under store.tables in add_new (state_of store) c id object (there_if id none) (omega (arith, many, room))

    module _ (row : Row) (rows : List Row) (none : row_with row.id (rows_at store.tables c) ≡ None) (is : rows ≡ rows_at store.tables c ++ row ∷ []) where
      pub put_state : state_of (record store { tables = slice_set store.tables c rows }) ≡ with_member (state_of store) c row.id row.object
      put_state = ap (λ members. record (state_of store) { members = members }) (members_of-pushed store.tables c row rows below is distinct none)

      pub put_sound : store.sampling ≡ false → sum_by length store.tables < MEMORY_CAP → IsValid store.space row.object
          → row.vect ≡ cells_of (dist store.space) store.pivots.items row.object → IsStore (record store { tables = slice_set store.tables c rows })
      put_sound shut room valid vect = record {
        in_range = sound.in_range;
        few_wanted = sound.few_wanted;
        samples = sound.samples;
        few_samples = sound.few_samples;
        pivots = sound.pivots;
        rows = All-set (AreRows (IsValid store.space) (dist store.space) store.pivots.items) store.tables c rows
            (subst (AreRows (IsValid store.space) (dist store.space) store.pivots.items) (sym is)
            (AreRows-push (IsValid store.space) (dist store.space) store.pivots.items (rows_at store.tables c) row held (let few = few_rows in
            omega (arith, few)) none valid vect))
            sound.rows;
        room = let more = sum-pushed store.tables c row rows below is in omega (arith, more, room);
        four = length-set store.tables c rows ∙ sound.four;
        none_yet = λ opened. absurd (let both : true ≡ false = sym opened ∙ shut in cc);
      }

    -- ---- removals

    pub dropped : (id : ℕ) → is_some (row_with id (rows_at store.tables c)) ≡ true
        → Says (state_of store) (command.Discard c id) Done (record (state_of store) { members = without_object (state_of store).members c id })
    dropped id there = drop_there (state_of store) c id (there_if id there)

    pub dropped_nothing : (id : ℕ) → is_some (row_with id (rows_at store.tables c)) ≡ false
        → Says (state_of store) (command.Discard c id) Absent (state_of store)
    dropped_nothing id none = drop_absent (state_of store) c id (there_if id none)

    module _ (id : ℕ) (left : List Row) (moved : IsPermutation (rows_without id (rows_at store.tables c)) left) where
      pub cut_state : state_of (record store { tables = slice_set store.tables c left })
          ≡ record (state_of store) { members = without_object (state_of store).members c id }
      cut_state = ap (λ members. record (state_of store) { members = members }) (members_of-rows_without store.tables c id left below moved distinct)

      pub cut_sound : store.sampling ≡ false → IsStore (record store { tables = slice_set store.tables c left })
      cut_sound shut = record {
        in_range = sound.in_range;
        few_wanted = sound.few_wanted;
        samples = sound.samples;
        few_samples = sound.few_samples;
        pivots = sound.pivots;
        rows = All-set (AreRows (IsValid store.space) (dist store.space) store.pivots.items) store.tables c left
            (AreRows-rows_without (IsValid store.space) (dist store.space) store.pivots.items (rows_at store.tables c) left id moved held) sound.rows;
        room = let less = sum-rows_without store.tables c id left below moved in let room = sound.room in omega (arith, less, room);
        four = length-set store.tables c left ∙ sound.four;
        none_yet = λ opened. absurd (let both : true ≡ false = sym opened ∙ shut in cc);
      }

  pub are_pivots : (admitted : List ℕ → Type 0) (distance : List ℕ → List ℕ → ℕ) → IsMetricOf admitted distance store.space → (pivots : List (List ℕ))
      → pivots ≡ store.pivots.items → ArePivots admitted pivots
  are_pivots admitted distance metric pivots is =
      subst (ArePivots admitted) (sym is) (measured_pivots admitted distance store.space metric store.pivots.items sound.pivots)

-- ---- the close

-- the state with pivots by its samples, which it keeps no more
pub closed_by : (store : Store) (pivots : List (List ℕ)) → store.sampling ≡ true
    → pivots ≡ chosen_samples (dist store.space) store.samples.items (min store.wanted (length store.samples.items))
    → record (state_of store) { pivots = pivots; samples = None } ≡ with_samples_closed (state_of store)
closed_by store pivots kept is =
    ap (λ (pivots : List (List ℕ)). record (state_of store) { pivots = pivots; samples = None })
    (is ∙ sym (ap (λ (b : Bool). pivots_after_sampling (state_of store) (if b then Some store.samples.items else None)) kept))
