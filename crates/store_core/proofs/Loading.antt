-- The store over pages whose slots were read.
use Rattle.std.proofs.Common.{◌≡◌, ℕ, ◌+◌, Bool, false, IsTrue, List, [], length, All, sym, ap, subst, arith}
use Rattle.std.specs.Prelude.{None}
use Rattle.std.specs.List.{IsDistinct}
use Rattle.std.proofs.lemmas.List.Elements.{All-weaker}
use Rattle.metric_laws.specs.Objects.{Object, Distance}
use Rattle.metrics_builtin.specs.Space.{IsValid}
use Rattle.spb_defs.specs.MetricOf.{IsMetricOf}
use Rattle.page_laws.specs.Pages.{is_among, AreFree}
use Rattle.redo_journal.specs.Pages.{page}
use Rattle.redo_journal.specs.Redo.{has_open_gate, overlay}
use Rattle.row_list.specs.declared.sorting.SlottedRow.{SlottedRow}
use Rattle.row_list.specs.Lists.{ListedRows}
use Rattle.page_store.specs.PageStore.{PagesView, in_pool, page_at}
use Rattle.object_file.specs.ObjectFile.{Slots, slot_at}
use Rattle.store_check.specs.declared.profile.Profile.{Profile}
use Rattle.store_check.specs.Layout.{slot_pages, pool_pages, file_pages}
use Rattle.store_check.specs.Profile.{IsInRange}
use Rattle.store_check.specs.Stands.{are_empty}
use Rattle.store_check.specs.Opened.{state_in}
use Rattle.slot_laws.specs.FreeSlots.{AreFreeSlots}
use Rattle.open_store.specs.SlotChange.{IsReady}
use Rattle.open_store.specs.Store.{IsStore, IsInState, store_of}
use Rattle.store_core.specs.Finish.{IsOpened}
use Rattle.store_core.specs.SlotContents.{HasTables, HoldsTables, AreListsOf}
use Rattle.store_core.proofs.OpenedImages.{pivots_are, keeps_state}
use Rattle.store_core.proofs.LoadedTables.{four_tables, are_tables, counts, rows_are, holds_members}

-- no page is free
pub none_are_free : (pool : ℕ → Bool) → AreFree pool []
unfolding IsDistinct
none_are_free pool = record { pool = tt; distinct = tt }

-- without staged pages, what pages hold is what the disk has
pub disk_pages : {D : Type 0} (image : D → List ℕ) (p : PagesView D) (P : (ℕ → List ℕ) → Type 0) → p.staged ≡ [] → P (page_at image p) → P (page (image p.disk))
disk_pages image p P none holds = subst (λ (es : List (ℕ × List ℕ)). P (overlay es (page (image p.disk)))) none holds

module _ {D M : Type 0} (is_known : D → Bool) (image : D → List ℕ) (admitted : M → Object → Type 0) (dist : M → Distance) (pages : PagesView D) (profile : Profile)
    (pivots : List Object) (metric : M) (lists : List ListedRows) (slots : Slots) (given : List (List SlottedRow)) (free : List ℕ) (range : IsInRange profile)
    (has : HasTables (admitted metric) (dist metric) pivots profile.cap given free) (are : AreListsOf given lists)
    (slots_are : slots ≡ record { cap = profile.cap; free = free }) where
  cap_is : slots.cap ≡ profile.cap
  cap_is = ap (λ (s : Slots). s.cap) slots_are

  free_is : slots.free ≡ free
  free_is = ap (λ (s : Slots). s.free) slots_are

  pub store_is : IsMetricOf (admitted metric) (dist metric) profile.space → length pivots ≡ profile.pivots → All (IsValid profile.space) pivots
      → pages.total ≡ file_pages profile.cap → pages.first ≡ 85 + slot_pages profile.cap → pages.count ≡ pool_pages profile.cap → IsReady pages
      → (IsTrue (is_known pages.disk) → has_open_gate (image pages.disk) ≡ false)
      → IsStore is_known image admitted dist (store_of pages slots lists pivots profile metric None)
  store_is metric_is count objects total first many shut closed =
      let same = counts given lists are (admitted metric) (dist metric) pivots profile.cap free has range.few in
      let counted = has.counted in
      let free_same = ap length free_is in
      record {
        in_range = range;
        metric_is = metric_is;
        total_is = total;
        first_is = first;
        count_is = many;
        cap_is = cap_is;
        pivots_are = record {
          few = let few = range.few_pivots in omega (arith, count, few);
          objects = All-weaker (IsValid profile.space) (admitted metric) (λ object valid. (metric_is.admits object).1 valid) pivots objects;
        };
        pivot_count = count;
        four = four_tables given lists are;
        each = are_tables given lists are (admitted metric) (dist metric) pivots profile.cap free has range.few;
        few = omega (arith, same, counted);
        counted = λ none. omega (arith, same, counted, free_same);
        ready = λ none. shut;
        closed = λ none known. closed known;
      }

  pub in_state : IsTrue (is_known pages.disk) → IsTrue (are_empty profile.roots) → IsOpened (image pages.disk) profile pivots
      → HoldsTables profile.space profile.cap (page (image pages.disk)) given free → ((n : ℕ) → is_among n pages.free ≡ in_pool pages n)
      → IsInState is_known image (store_of pages slots lists pivots profile metric None) (state_in (page (image pages.disk)) profile)
  in_state known empty opened read pool = record {
    known = known;
    stored = record {
      size = opened.size;
      marks_are = opened.marks_are;
      closed = opened.closed;
      keeps = keeps_state (image pages.disk) profile pivots opened range empty (holds_members given lists are profile.space profile.cap (page (image pages.disk)) free read);
    };
    profile_is = opened.reads;
    pivots_are = pivots_are (page (image pages.disk)) pivots profile.pivots opened.pivots_are opened.count;
    rows_are = rows_are given lists are profile.space profile.cap (page (image pages.disk)) free read;
    free_are = subst (AreFreeSlots profile.cap (slot_at (page (image pages.disk)))) (sym free_is) read.unused;
    pool_is = pool;
  }
