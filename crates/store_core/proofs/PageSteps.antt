-- The slots of a page, read one after another.
use Rattle.std.proofs.Common.{◌≡◌, ℕ, ◌+◌, ◌-◌, ◌*◌, ◌<◌, ◌≤◌, List, [], ◌∷◌, length, refl, ap, subst, ◌∙◌, arith}
use Rattle.std.specs.Prelude.{min, Bool, ◌||◌, ◌==◌, IsTrue, Result, Ok, Err, MatchResult}
use Rattle.std.specs.Map.{keys_of}
use Rattle.std.specs.List.Sorted.{IsPermutation}
use Rattle.std.proofs.lemmas.Bool.Decides.{nat_tests}
use Rattle.std.proofs.lemmas.List.Sorted.{list_any-IsPermutation}
use Rattle.metric_laws.specs.Objects.{Object, Distance}
use Rattle.metrics_builtin.specs.declared.Space.{Space}
use Rattle.spb_defs.specs.MetricOf.{IsMetricOf}
use Rattle.row_list.specs.declared.sorting.SlottedRow.{SlottedRow}
use Rattle.page_laws.specs.Pages.{is_among}
use Rattle.free_list.specs.FreeNumbers.{is_within}
use Rattle.object_file.specs.ObjectFile.{slot_page, slot_at, HasSlots}
use Rattle.store_check.specs.Layout.{slot_pages}
use Rattle.store_core.specs.declared.errors.OpenError.{OpenError}
use Rattle.store_core.specs.SlotContents.{HoldsTables, slots_before, RefusesSlots}

-- what was read of the slots before page n of them is read of those below this one
abbrev pub GoesOn : (Object → Type 0) → Distance → ℕ → List ℕ → List (List SlottedRow) → List ℕ → ℕ → List (List SlottedRow) → List ℕ → Type 0
GoesOn admitted dist n page old free slot new more = (space : Space) (pages : ℕ → List ℕ) → IsMetricOf admitted dist space → pages (85 + n) ≡ page
    → HoldsTables space (4 * n) pages old free → HoldsTables space slot pages new more

-- the page of its slots
pub page_is : (n slot : ℕ) → 4 * n ≤ slot → slot < 4 * n + 4 → slot_page slot ≡ 85 + n
page_is n slot least below = omega (arith, least, below)

-- what a slot adds
abbrev pub SlotSays : (Object → Type 0) → Distance → ℕ → List ℕ → Result Unit OpenError → List (List SlottedRow) → List ℕ → List (List SlottedRow) → List ℕ → Type 0
SlotSays admitted dist slot page result old free new more = (space : Space) (cap : ℕ) (pages : ℕ → List ℕ) → IsMetricOf admitted dist space → slot < cap
    → pages (slot_page slot) ≡ page → HoldsTables space slot pages old free
    → MatchResult result (λ _. HoldsTables space (slot + 1) pages new more) (RefusesSlots space cap (slot_at pages))

-- a slot goes on from those before it
pub goes_on : (admitted : Object → Type 0) (dist : Distance) (n cap slot : ℕ) (page : List ℕ) (old new after : List (List SlottedRow)) (free more rest : List ℕ)
    → GoesOn admitted dist n page old free slot new more → 4 * n ≤ slot → slot < 4 * n + 4 → slot < cap
    → SlotSays admitted dist slot page (Ok tt) new more after rest → GoesOn admitted dist n page old free (slot + 1) after rest
goes_on admitted dist n cap slot page old new after free more rest so_far least below inside says = λ space pages metric at holds.
    says space cap pages metric inside (ap pages (page_is n slot least below) ∙ at) (so_far space pages metric at holds)

-- or it is refused
pub stops : (admitted : Object → Type 0) (dist : Distance) (n cap slot : ℕ) (page : List ℕ) (old new after : List (List SlottedRow)) (free more rest : List ℕ) (e : OpenError)
    → GoesOn admitted dist n page old free slot new more → 4 * n ≤ slot → slot < 4 * n + 4 → slot < cap
    → SlotSays admitted dist slot page (Err e) new more after rest
    → (space : Space) (pages : ℕ → List ℕ) → IsMetricOf admitted dist space → pages (85 + n) ≡ page → HoldsTables space (4 * n) pages old free
    → RefusesSlots space cap (slot_at pages) e
stops admitted dist n cap slot page old new after free more rest e so_far least below inside says space pages metric at holds =
    says space cap pages metric inside (ap pages (page_is n slot least below) ∙ at) (so_far space pages metric at holds)

-- the end of the page, or of the slots
pub last_is : (cap n slot : ℕ) → slot ≡ min cap (4 * n + 4) → slot ≡ slots_before cap (n + 1)
last_is cap n slot is = is ∙ ap (min cap) (let e : 4 * n + 4 ≡ 4 * (n + 1) = omega arith in e)

-- ---- the pages of the slots

-- before a page is read, the slots of those before it are
pub whole_pages : (cap n : ℕ) → n < slot_pages cap → slots_before cap n ≡ 4 * n
whole_pages cap n below = omega (arith, below)

pub all_pages : (cap n : ℕ) → slot_pages cap ≤ n → slots_before cap n ≡ cap
all_pages cap n least = omega (arith, least)

pub no_pages : (cap : ℕ) → slots_before cap 0 ≡ 0
no_pages cap = omega arith

pub page_there : (has : ℕ → Bool) (cap n : ℕ) → HasSlots has cap → n < slot_pages cap → IsTrue (has (85 + n))
page_there has cap n there below =
    subst (λ k. IsTrue (has k)) (page_is n (4 * n) (omega arith) (omega arith)) (there (4 * n) (omega (arith, below)))

-- ---- free pages

within_more : (first many k : ℕ) → ((first + many == k) || is_within first many k) ≡ is_within first (many + 1) k
within_more first many k = grind (arith, nat_tests)

-- one page of the range more
pub freed_more : (first n k : ℕ) (old new : List ℕ) → first ≤ n → IsPermutation new (n ∷ old) → is_among k old ≡ is_within first (n - first) k
    → is_among k new ≡ is_within first (n + 1 - first) k
freed_more first n k old new least moved so_far =
    let at : n ≡ first + (n - first) = omega (arith, least) in
    let next : n - first + 1 ≡ n + 1 - first = omega (arith, least) in
    list_any-IsPermutation (λ m. m == k) new (n ∷ old) moved
    ∙ ap (λ b. (n == k) || b) so_far
    ∙ ap (λ m. (m == k) || is_within first (n - first) k) at
    ∙ within_more first (n - first) k
    ∙ ap (λ m. is_within first m k) next

-- a list of staged pages without numbers is empty
pub nothing_staged : (old new : List (ℕ × List ℕ)) → old ≡ [] → keys_of new ≡ keys_of old → new ≡ []
nothing_staged old [] none same = refl
nothing_staged old (e ∷ es) none same = let both = ap length (same ∙ ap keys_of none) in absurd (omega (arith, both))
