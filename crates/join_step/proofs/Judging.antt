-- One more pair that is judged.
use Rattle.std.proofs.Common.{◌≡◌, ℕ, ◌+◌, ◌*◌, ◌-◌, ◌<◌, ◌≤◌, Bool, List, [], ◌∷◌, ◌++◌, length, get_or, take, Option, refl, sym, ap, subst, ◌∙◌, arith}
use Rattle.std.specs.Prelude.{map, filter, count_by, All, if◌then◌else◌}
use Rattle.std.proofs.lemmas.List.Elements.{All-filter}
use Rattle.std.proofs.lemmas.List.Sums.{count_by-le-length, length-filter}
use Rattle.std.proofs.lemmas.List.{map-append, take_more}
use Rattle.metric_laws.specs.Objects.{Distance}
use Rattle.metric_laws.specs.Log.{MeasuredPair, LogExtends}
use Rattle.page_laws.specs.Pages.{count_after, count_after-add}
use Rattle.spb_edge.specs.Counts.{one_if}
use Rattle.pivot_map.specs.declared.row.Row.{Row}
use Rattle.query_pass.specs.declared.verdict.Verdict.{Verdict}
use Rattle.query_pass.specs.declared.verdict.Verdict.TheVariants.{Apart, Sure, Measured}
use Rattle.query_pass.specs.declared.found.Found.{Found}
use Rattle.query_pass.specs.Verdicts.{was_measured, was_sure}
use Rattle.query_pass.specs.Findings.{PassesOver, MeasuresOpen}
use Rattle.query_pass.specs.Pairs.{verdict_of_pair, pair_ids, pair_objects}
use Rattle.query_pass.specs.PassLaws.{PassesOver-then, PassesOver-one, MeasuresOpen-then, MeasuresOpen-one}
use Rattle.join_window.specs.declared.window.Reaching.{Reaching}
use Rattle.pair_entries.specs.PairEntries.{rows_at}
use Rattle.join_step.specs.declared.placing.Placing.{Placing}
use Rattle.join_step.specs.Meetings.{placed, pairs_with, Tallies, GoesOver}

-- ---- whatever the pages hold

counted_one : (v : Verdict) → count_by was_measured (v ∷ []) ≡ one_if (was_measured v)
counted_one Apart = refl
counted_one Sure = refl
counted_one (Measured within) = refl

few_sure : (v : Verdict) → count_by was_sure (v ∷ []) ≤ 1
few_sure Apart = omega arith
few_sure Sure = omega arith
few_sure (Measured within) = omega arith

few_measured : (v : Verdict) → one_if (was_measured v) ≤ 1
few_measured Apart = omega arith
few_measured Sure = omega arith
few_measured (Measured within) = omega arith

pub tallies-more : {K : Type 0} (n : ℕ) (name : K) (v : Verdict) (first before after : Found K) (start count count' : ℕ) → Tallies n first before start count
    → PassesOver (λ (v : Verdict). v) (λ (v : Verdict). name) (v ∷ []) before after → count' ≡ count + one_if (was_measured v)
    → Tallies (n + 1) first after start count'
tallies-more n name v first before after start count count' so one more =
    let e = one.evals in
    let s = one.sure in
    let a = counted_one v in
    let b = few_sure v in
    let d = few_measured v in
    let f = so.least in
    let h = so.few in
    let k = so.few_sure in
    let m = so.counted in record {
      least = omega (arith, e, f);
      few = omega (arith, e, a, d, h);
      few_sure = omega (arith, s, b, k);
      counted = omega (arith, e, a, f, m, more);
    }

pub fetches-more : {K : Type 0} (name : K) (v : Verdict) (first before after : Found K) (start fetches fetches' : ℕ) → first.evals ≤ before.evals
    → PassesOver (λ (v : Verdict). v) (λ (v : Verdict). name) (v ∷ []) before after
    → fetches ≡ count_after start (2 * (before.evals - first.evals)) → fetches' ≡ count_after fetches (2 * one_if (was_measured v))
    → fetches' ≡ count_after start (2 * (after.evals - first.evals))
fetches-more name v first before after start fetches fetches' least one so more =
    let e = one.evals in
    let a = counted_one v in
    let total : 2 * (before.evals - first.evals) + 2 * one_if (was_measured v) ≡ 2 * (after.evals - first.evals) = omega (arith, e, a, least) in
    more ∙ ap (λ n. count_after n (2 * one_if (was_measured v))) so
    ∙ count_after-add start (2 * (before.evals - first.evals)) (2 * one_if (was_measured v)) ∙ ap (count_after start) total

-- ---- over known pages

pub pairs-more : (placing : Placing) (later : Reaching) (held : List Reaching) (i : ℕ) (e : Reaching) → i < length held → e ≡ get_or held i e
    → pairs_with placing later (take (i + 1) held) ≡ pairs_with placing later (take i held) ++ placed placing e later ∷ []
pairs-more placing later held i e below is =
    ap (pairs_with placing later) (take_more held i e below ∙ ap (λ y. take i held ++ y ∷ []) (sym is))
    ∙ map-append (λ earlier. placed placing earlier later) (take i held) (e ∷ [])

module _ (dist : Distance) (radius : ℕ) (pages : ℕ → List ℕ) where
  pub goes-then : (xs ys : List (Reaching × Reaching)) (first before after : Found (ℕ × ℕ)) (count : ℕ) (log : Option (List MeasuredPair)) (count' : ℕ)
      (log' : Option (List MeasuredPair)) (count'' : ℕ) (log'' : Option (List MeasuredPair))
      → GoesOver dist radius pages xs first before count log count' log' → GoesOver dist radius pages ys before after count' log' count'' log''
      → GoesOver dist radius pages (xs ++ ys) first after count log count'' log''
  goes-then xs ys first before after count log count' log' count'' log'' a b =
      let whole : map (rows_at pages) (xs ++ ys) ≡ map (rows_at pages) xs ++ map (rows_at pages) ys = map-append (rows_at pages) xs ys in record {
        found = subst (λ (rows : List (Row × Row)). PassesOver (verdict_of_pair dist radius) pair_ids rows first after) (sym whole)
            (PassesOver-then (verdict_of_pair dist radius) pair_ids (map (rows_at pages) xs) (map (rows_at pages) ys) first before after a.found b.found);
        measured = subst (λ (rows : List (Row × Row)). MeasuresOpen (verdict_of_pair dist radius) pair_objects rows count log count'' log'') (sym whole)
            (MeasuresOpen-then (verdict_of_pair dist radius) pair_objects (map (rows_at pages) xs) (map (rows_at pages) ys) count log count' log' count'' log''
            a.measured b.measured);
      }

  pub goes-one : (p : Reaching × Reaching) (v : Verdict) (before after : Found (ℕ × ℕ)) (count : ℕ) (log : Option (List MeasuredPair)) (count' : ℕ)
      (log' : Option (List MeasuredPair)) → v ≡ verdict_of_pair dist radius (rows_at pages p)
      → PassesOver (λ (v : Verdict). v) (λ (v : Verdict). (p.0.entry.id, p.1.entry.id)) (v ∷ []) before after → count' ≡ count + one_if (was_measured v)
      → LogExtends log log' (if was_measured v then pair_objects (rows_at pages p) ∷ [] else []) → GoesOver dist radius pages (p ∷ []) before after count log count' log'
  goes-one p v before after count log count' log' is one counted logged = record {
    found = PassesOver-one (verdict_of_pair dist radius) pair_ids (rows_at pages p) v (p.0.entry.id, p.1.entry.id) before after is refl one;
    measured = MeasuresOpen-one (verdict_of_pair dist radius) pair_objects (rows_at pages p) v (pair_objects (rows_at pages p)) count log count' log' is refl
        counted logged;
  }

-- ---- those of a window that reach a key

pub few_kept : (test : Reaching → Bool) (window held : List Reaching) → held ≡ filter test window → length held ≤ length window
few_kept test window held is =
    let a = ap length is in
    let b = length-filter test window in
    let d = count_by-le-length test window in omega (arith, a, b, d)

pub tallies-few : {K : Type 0} (n most : ℕ) (before after : Found K) (count count' : ℕ) → n ≤ most → Tallies n before after count count'
    → Tallies most before after count count'
tallies-few n most before after count count' few so = record {
  least = so.least;
  few = let a = so.few in omega (arith, a, few);
  few_sure = let a = so.few_sure in omega (arith, a, few);
  counted = so.counted;
}

pub cells-kept : (test : Reaching → Bool) (window held : List Reaching) (axes long : ℕ) → held ≡ filter test window → long ≡ axes
    → All (λ (h : Reaching). length h.cell ≡ axes) window → All (λ (h : Reaching). length h.cell ≡ long) held
cells-kept test window held axes long is same cells =
    subst (λ n. All (λ (h : Reaching). length h.cell ≡ n) held) (sym same)
    (subst (All (λ (h : Reaching). length h.cell ≡ axes)) (sym is) (All-filter test (λ (h : Reaching). length h.cell ≡ axes) window cells))
