-- The tables of the collections, put in order of id one after another.
use Rattle.std.proofs.Common.{◌≡◌, inl, inr, ℕ, ◌+◌, ◌<◌, ◌≤◌, List, [], length, get_or, refl, sym, ap, subst, ◌∙◌, arith}
use Rattle.std.specs.Prelude.{slice_set}
use Rattle.std.proofs.lemmas.Bool.{cases_eq}
use Rattle.std.proofs.lemmas.List.{length-set, get_or-set_same, get_or-set_other}
use Rattle.page_laws.specs.declared.rule.Rule.TheVariants as rule
use Rattle.row_list.specs.declared.sorting.SlottedRow.{SlottedRow}
use Rattle.row_list.specs.Lists.{ListedRows}
use Rattle.open_store.specs.Store.{table_at}
use Rattle.store_core.specs.declared.errors.OpenError.{OpenError}
use Rattle.store_core.specs.declared.errors.OpenError.TheVariants as refusal
use Rattle.store_core.specs.SlotContents.{IsListOf, AreListsOf, HasRepeatOn, HasRepeatIn, RefusesPage}

-- the first lists have the rows of their tables, and the other tables are as they were
pub record AreListsBefore (n : ℕ) (given tables : List (List SlottedRow)) (lists : List ListedRows) : Type 0 where
  pub four_tables : length tables ≡ 4
  pub four : length lists ≡ 4
  pub ahead : (c : ℕ) → n ≤ c → table_at tables c ≡ table_at given c
  pub done : (c : ℕ) (default : ListedRows) → c < n → IsListOf (table_at given c) (get_or lists c default)

pub no_lists : (given : List (List SlottedRow)) (lists : List ListedRows) → length given ≡ 4 → length lists ≡ 4 → AreListsBefore 0 given given lists
no_lists given lists long four = record {
  four_tables = long;
  four = four;
  ahead = λ c least. refl;
  done = λ c default below. absurd (omega (arith, below));
}

pub all_lists : (n : ℕ) (given tables : List (List SlottedRow)) (lists : List ListedRows) → 4 ≤ n → AreListsBefore n given tables lists → AreListsOf given lists
all_lists n given tables lists least are = record { four = are.four; each = λ c default below. are.done c default (omega (arith, least, below)) }

-- one list more
pub more_lists : (n : ℕ) (given tables : List (List SlottedRow)) (lists : List ListedRows) (list : ListedRows) (left table : List SlottedRow) → n < 4
    → AreListsBefore n given tables lists → table ≡ table_at tables n → IsListOf table list
    → AreListsBefore (n + 1) given (slice_set tables n left) (slice_set lists n list)
more_lists n given tables lists list left table below are is listed = record {
  four_tables = length-set tables n left ∙ are.four_tables;
  four = length-set lists n list ∙ are.four;
  ahead = λ c least. get_or-set_other tables n c left [] (λ same. omega (arith, least, same)) ∙ are.ahead c (omega (arith, least));
  done = λ c default under. elim (cases_eq c n) [
    | inl same ↦
        subst (IsListOf (table_at given c)) (sym (ap (λ k. get_or (slice_set lists n list) k default) same
        ∙ get_or-set_same lists n list default (omega (arith, below, are.four))))
        (subst (λ t. IsListOf t list) (is ∙ are.ahead n (omega arith) ∙ ap (table_at given) (sym same)) listed)
    | inr other ↦
        subst (IsListOf (table_at given c)) (sym (get_or-set_other lists n c list default other)) (are.done c default (omega (arith, under, other)))
  ];
}

-- two rows with one id in a table
pub list_refused : (n : ℕ) (given tables : List (List SlottedRow)) (lists : List ListedRows) (table : List SlottedRow) → n < 4
    → AreListsBefore n given tables lists → table ≡ table_at tables n → (e : OpenError) → RefusesPage (HasRepeatOn table) e → RefusesPage (HasRepeatIn given) e
list_refused n given tables lists table below are is refusal.NotStore bad = bad
list_refused n given tables lists table below are is (refusal.Damaged page rule.Slot) bad =
    record { collection = n; inside = below; repeat = subst (λ t. HasRepeatOn t page) (is ∙ are.ahead n (omega arith)) bad }
list_refused n given tables lists table below are is (refusal.Damaged page rule.Size) bad = bad
list_refused n given tables lists table below are is (refusal.Damaged page rule.Journal) bad = bad
list_refused n given tables lists table below are is (refusal.Damaged page rule.Profile) bad = bad
list_refused n given tables lists table below are is (refusal.Damaged page rule.Pivot) bad = bad
list_refused n given tables lists table below are is (refusal.Damaged page rule.Page) bad = bad
list_refused n given tables lists table below are is (refusal.Damaged page rule.Node) bad = bad
list_refused n given tables lists table below are is (refusal.Damaged page rule.Fill) bad = bad
list_refused n given tables lists table below are is (refusal.Damaged page rule.Order) bad = bad
list_refused n given tables lists table below are is (refusal.Damaged page rule.Key) bad = bad
list_refused n given tables lists table below are is (refusal.Damaged page rule.Box) bad = bad
list_refused n given tables lists table below are is (refusal.Damaged page rule.Match) bad = bad
list_refused n given tables lists table below are is refusal.DiskFault bad = bad
list_refused n given tables lists table below are is refusal.Memory bad = bad
