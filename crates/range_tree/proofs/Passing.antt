-- A pass over the entries that a walk gives.
use Rattle.std.proofs.Common.{◌≡◌, ℕ, ◌+◌, ◌-◌, ◌≤◌, ◌<◌, Bool, true, false, List, [], ◌∷◌, ◌++◌, refl, sym, ap, subst, ◌∙◌, arith}
use Rattle.std.specs.Prelude.{IsTrue, map, filter, count_by, if◌then◌else◌, sum_by, ◌^◌, Contains}
use Rattle.std.proofs.lemmas.List.{append_assoc, append-nil}
use Rattle.std.proofs.lemmas.List.Elements.{Contains-append_left, Contains-append_right, Contains-push}
use Rattle.std.proofs.lemmas.List.Sums.{sum_by-cons}
use Rattle.metric_laws.specs.Objects.{Object}
use Rattle.metric_laws.specs.Log.{MeasuredPair, LogExtends}
use Rattle.metric_laws.specs.declared.ruler.Ruler as ruler
use Rattle.spb_edge.specs.Counts.{one_if}
use Rattle.page_laws.specs.Errors.{TellsNoDamage}
use Rattle.page_laws.specs.Pages.{count_after, count_after-add}
use Rattle.page_laws.specs.declared.errors.TreeError.{TreeError}
use Rattle.page_laws.specs.declared.pages.Pages as pages
use Rattle.page_laws.specs.declared.root.Root.{Root}
use Rattle.bptree_node.specs.declared.layout.TheConstants.{HEIGHT_LIMIT}
use Rattle.bptree_node.specs.declared.rows.Entry.{Entry}
use Rattle.bptree_node.specs.Trees.{tree_at, visited, visited_at}
use Rattle.bptree_walk.specs.declared.ahead.Ahead.{Ahead}
use Rattle.bptree_walk.specs.Courses.{Course, begun, most_left, walk_left, visits_left, visits_fetched, IsPartOf, IsSoundCourse, MOST_IN_TREE}
use Rattle.bptree_walk.specs.Damage.{TellsDamage}
use Rattle.bptree_walk.specs.Steps.{CountsFetches}
use Rattle.bptree_walk.proofs.Gathering.{begun_visits, begun_sound}
use Rattle.bptree_walk.proofs.Stacks.{begun_most, begun_part}
use Rattle.bptree_walk.proofs.Staying.{Stay, live_of, stays_same, stays_on, known_on, as_before}
use Rattle.query_pass.specs.declared.verdict.Verdict.{Verdict}
use Rattle.query_pass.specs.declared.found.Found.{Found}
use Rattle.query_pass.specs.Verdicts.{is_within, was_measured, was_sure}
use Rattle.query_pass.specs.Findings.{PassesOver, MeasuresOpen}
use Rattle.query_pass.specs.PassLaws.{PassesOver-none, PassesOver-then, PassesOver-one, MeasuresOpen-none, MeasuresOpen-then, MeasuresOpen-one}
use Rattle.object_file.specs.ObjectFile.{Slots}
use Rattle.range_entries.specs.Entries.{verdict_at, pair_at, TellsOfEntry}
use Rattle.range_tree.specs.Ranges.{FindsAmong, pairs_measured, TellsOfWalk, TellsOfOne}

-- one verdict counts as it was measured, and as it was sure
one_counted : (test : Verdict → Bool) (v : Verdict) → count_by test (v ∷ []) ≡ one_if (test v)
one_counted test v = let a = sum_by-cons (λ v. if test v then 1 else 0) v [] in omega (arith, a)

few_counted : (b : Bool) → one_if b ≤ 1
few_counted true = omega arith
few_counted false = omega arith

module _ {P : Type 0} (G : pages.Ghosts P) {R : Type 0} (H : ruler.Ghosts R) (meets : ℕ → ℕ → Bool) (has : ℕ → Bool) (cell_of : ℕ → List ℕ) (asked : List ℕ) (query : Object) (radius : ℕ) where
  -- the verdict on an entry, by a ruler of a kind
  abbrev pub judged : H.Kind → (ℕ → List ℕ) → Entry → Verdict
  judged kind held e = verdict_at (H.dist kind) cell_of asked query radius held e

  abbrev pub id_of : Entry → ℕ
  id_of e = e.id

  -- over pages that tell what they hold these entries were passed over
  pub record PassedOver (start : P) (first last : R) (root : Root) (c : Course) (none found : Found ℕ) : Type 0 where
    pub passed : List Entry
    pub list : walk_left meets has (G.page_at start) (begun root) ≡ passed ++ walk_left meets has (G.page_at start) c
    pub nodes : visits_fetched meets (G.page_at start) c ≡ visits_fetched meets (G.page_at start) (begun root)
    pub finds : PassesOver (judged (H.kind first) (G.page_at start)) id_of passed none found
    pub measures : MeasuresOpen (judged (H.kind first) (G.page_at start)) (pair_at query (G.page_at start)) passed (H.count first) (H.log first) (H.count last) (H.log last)
    pub sound : IsSoundCourse (G.page_at start) (live_of G start) (begun root) → IsSoundCourse (G.page_at start) (live_of G start) c
    pub part : IsPartOf (G.page_at start) root c

  -- and whatever they hold so much was counted
  pub record Passes (start now : P) (first last : R) (root : Root) (c : Course) (none found : Found ℕ) : Type 0 where
    pub over : IsTrue (G.is_known start) → PassedOver start first last root c none found
    pub fetches : G.fetches now ≡ count_after (G.fetches start) (c.fetched + found.evals)
    pub counted : H.count last ≡ H.count first + found.evals
    pub most : found.evals + most_left c ≤ most_left (begun root)
    pub most_sure : found.sure + most_left c ≤ most_left (begun root)
    pub kind : H.kind last ≡ H.kind first
    pub stay : Stay G start now
    pub faults : G.faults start ≤ G.faults now

  pub passes_none : ((p : P) → G.calm p p) → (p : P) (r : R) (root : Root) (c : Course) (none : Found ℕ) → c ≡ begun root → none.evals ≡ 0 → none.sure ≡ 0
      → Passes p p r r root c none none
  passes_none same p r root c none is evals sure =
      subst (λ (x : Course). Passes p p r r root x none none) (sym is) (record {
        over = λ known. record {
          passed = [];
          list = refl;
          nodes = refl;
          finds = PassesOver-none (judged (H.kind r) (G.page_at p)) id_of none;
          measures = MeasuresOpen-none (judged (H.kind r) (G.page_at p)) (pair_at query (G.page_at p)) (H.count r) (H.log r);
          sound = λ sound. sound;
          part = begun_part (G.page_at p) root;
        };
        fetches = let n : 0 ≡ 0 + none.evals = omega (arith, evals) in ap (count_after (G.fetches p)) n;
        counted = omega (arith, evals);
        most = omega (arith, evals);
        most_sure = omega (arith, sure);
        kind = refl;
        stay = stays_same G same p;
        faults = omega arith;
      })

  -- one entry more
  module _ (start now : P) (first last : R) (root : Root) (c : Course) (none found : Found ℕ) (so : Passes start now first last root c none found)
      (chains : (a b d : P) → G.calm a b → G.calm b d → G.calm a d) (mid : P) (given : Course) where
    -- the cursor went on
    pub stays_mid : Stay G now mid → Stay G start mid
    stays_mid stay = stays_on G start now so.stay chains mid stay

    pub fetched_mid : CountsFetches c given (G.fetches now) (G.fetches mid) → G.fetches mid ≡ count_after (G.fetches start) (given.fetched + found.evals)
    fetched_mid counts =
        let least = counts.least in
        let total : (c.fetched + found.evals) + (given.fetched - c.fetched) ≡ given.fetched + found.evals = omega (arith, least) in
        counts.fetches ∙ ap (λ n. count_after n (given.fetched - c.fetched)) so.fetches
        ∙ count_after-add (G.fetches start) (c.fetched + found.evals) (given.fetched - c.fetched) ∙ ap (count_after (G.fetches start)) total

    -- the cursor is over, and gave all
    module _ (gives : IsTrue (G.is_known now) → (walk_left meets has (G.page_at now) c ≡ []) × (walk_left meets has (G.page_at now) given ≡ []))
        (nodes : IsTrue (G.is_known now) → visits_fetched meets (G.page_at now) given ≡ visits_fetched meets (G.page_at now) c) (ended : (given.entries ≡ []) × (given.ahead ≡ []))
        (counts : CountsFetches c given (G.fetches now) (G.fetches mid)) (known : IsTrue (G.is_known start)) where
      over : PassedOver start first last root c none found
      over = so.over known

      whole : walk_left meets has (G.page_at start) (begun root) ≡ over.passed
      whole =
          over.list
          ∙ ap (λ (es : List Entry). over.passed ++ es)
          (as_before G start now so.stay (λ pages live. walk_left meets has pages c ≡ []) known (gives (known_on G start now so.stay known)).0)
          ∙ append-nil over.passed

      pub finds_all : none.kept.items ≡ [] → none.evals ≡ 0 → none.sure ≡ 0
          → FindsAmong (judged (H.kind first) (G.page_at start)) (walk_left meets has (G.page_at start) (begun root)) found
      finds_all kept evals sure =
          let a = over.finds.evals in
          let b = over.finds.sure in
          subst (λ (es : List Entry). FindsAmong (judged (H.kind first) (G.page_at start)) es found) (sym whole) (record {
            kept = over.finds.kept
                ∙ ap (λ ids. ids ++ map id_of (filter (λ (e : Entry). is_within (judged (H.kind first) (G.page_at start) e)) over.passed)) kept;
            evals = omega (arith, a, evals);
            sure = omega (arith, b, sure);
          })

      pub logs_all : LogExtends (H.log first) (H.log last)
          (pairs_measured (judged (H.kind first) (G.page_at start)) query (G.page_at start) (walk_left meets has (G.page_at start) (begun root)))
      logs_all =
          subst (λ (es : List Entry). LogExtends (H.log first) (H.log last) (pairs_measured (judged (H.kind first) (G.page_at start)) query (G.page_at start) es)) (sym whole)
          over.measures.logged

      pub fetches_all : G.fetches mid ≡ count_after (G.fetches start) (visited_at meets (G.page_at start) root + found.evals)
      fetches_all =
          let a : visits_fetched meets (G.page_at start) given ≡ visits_fetched meets (G.page_at start) c =
          as_before G start now so.stay (λ pages live. visits_fetched meets pages given ≡ visits_fetched meets pages c) known (nodes (known_on G start now so.stay known)) in
          let b = over.nodes in
          let left : visits_left meets (G.page_at start) given ≡ 0 = ap (sum_by (λ (x : Ahead). visited meets x.level (tree_at (G.page_at start) x.level x.page))) ended.1 in
          let d = begun_visits (G.page_at start) meets has root in
          let total : given.fetched + found.evals ≡ visited_at meets (G.page_at start) root + found.evals = omega (arith, a, b, left, d) in
          fetched_mid counts ∙ ap (count_after (G.fetches start)) total

    -- what holds at every end
    pub few_found : root.height ≤ HEIGHT_LIMIT → found.evals ≤ MOST_IN_TREE
    few_found low = let a = so.most in let b = begun_most root low in omega (arith, a, b)

    pub few_sure : root.height ≤ HEIGHT_LIMIT → found.sure ≤ MOST_IN_TREE
    few_sure low = let a = so.most_sure in let b = begun_most root low in omega (arith, a, b)

    pub ruler_on : (H.kind last ≡ H.kind first) × (H.count first ≤ H.count last)
    ruler_on = let a = so.counted in (so.kind, omega (arith, a))

    pub room_left : root.height ≤ HEIGHT_LIMIT → H.count first ≤ 2 ^ 63 + 8 → H.count last < 2 ^ 64 - 1
    room_left low room = let a = so.counted in let b = few_found low in omega (arith, a, b, room)

    pub ruler_next : (r : R) → H.kind r ≡ H.kind last → H.count last ≤ H.count r → (H.kind r ≡ H.kind first) × (H.count first ≤ H.count r)
    ruler_next r kind more = let a = so.counted in (kind ∙ so.kind, omega (arith, a, more))

    -- the cursor broke off
    pub tells_walk : IsTrue (G.is_known start) → (why : TreeError)
        → (IsTrue (G.is_known now) → IsSoundCourse (G.page_at now) (live_of G now) c → TellsNoDamage why)
        → (IsTrue (G.is_known now) → IsPartOf (G.page_at now) root c → TellsDamage (G.page_at now) (live_of G now) root why)
        → TellsOfWalk (G.page_at start) (live_of G start) root why
    tells_walk known why sound damage =
        let was = so.over known in
        let later = known_on G start now so.stay known in
        record {
          breaks = as_before G start now so.stay (λ pages live. IsPartOf pages root c → TellsDamage pages live root why) known (damage later) was.part;
          sound = λ tree.
              as_before G start now so.stay (λ pages live. IsSoundCourse pages live c → TellsNoDamage why) known (sound later)
              (was.sound (begun_sound (G.page_at start) (live_of G start) root tree));
        }

    module _ (stay : Stay G now mid) (e : Entry)
        (gives : IsTrue (G.is_known now) → walk_left meets has (G.page_at now) c ≡ e ∷ walk_left meets has (G.page_at now) given) where
      gives_start : IsTrue (G.is_known start) → walk_left meets has (G.page_at start) c ≡ e ∷ walk_left meets has (G.page_at start) given
      gives_start known =
          as_before G start now so.stay (λ pages live. walk_left meets has pages c ≡ e ∷ walk_left meets has pages given) known (gives (known_on G start now so.stay known))

      -- the verdict on it could not be had
      pub tells_one : (axes bits : ℕ) (slots : Slots) (collection : ℕ) → IsTrue (G.is_known start) → (why : TreeError)
          → (IsTrue (G.is_known mid) → TellsOfEntry (H.admitted (H.kind last)) axes bits slots (G.page_at mid) collection e why)
          → TellsOfOne (H.admitted (H.kind first)) axes bits slots (G.page_at start) collection (walk_left meets has (G.page_at start) (begun root)) why
      tells_one axes bits slots collection known why tells =
          let was = so.over known in
          let rest : List Entry = walk_left meets has (G.page_at start) given in
          record {
            entry = e;
            among =
                subst (λ (es : List Entry). Contains es e) (sym (was.list ∙ ap (λ (es : List Entry). was.passed ++ es) (gives_start known)))
                (Contains-append_right was.passed (e ∷ rest) e (Contains-append_left (e ∷ []) rest e (Contains-push [] e)));
            tells =
                subst (λ (k : H.Kind). TellsOfEntry (H.admitted k) axes bits slots (G.page_at start) collection e why) so.kind
                (as_before G start mid (stays_mid stay) (λ pages live. TellsOfEntry (H.admitted (H.kind last)) axes bits slots pages collection e why) known
                (tells (known_on G start mid (stays_mid stay) known)));
          }

      module _ (next : P) (ruler : R) (more : Found ℕ) (v : Verdict)
          (nodes : IsTrue (G.is_known now) → visits_fetched meets (G.page_at now) given ≡ visits_fetched meets (G.page_at now) c) (limit : most_left given < most_left c)
          (counts : CountsFetches c given (G.fetches now) (G.fetches mid))
          (sound : IsTrue (G.is_known now) → IsSoundCourse (G.page_at now) (live_of G now) c → IsSoundCourse (G.page_at now) (live_of G now) given)
          (part : IsTrue (G.is_known now) → IsPartOf (G.page_at now) root c → IsPartOf (G.page_at now) root given)
          (faults : G.faults now ≤ G.faults mid) (verdict : IsTrue (G.is_known mid) → v ≡ judged (H.kind last) (G.page_at mid) e)
          (log : IsTrue (G.is_known mid) → LogExtends (H.log last) (H.log ruler) (if was_measured v then pair_at query (G.page_at mid) e ∷ [] else []))
          (count : H.count ruler ≡ H.count last + one_if (was_measured v)) (kind : H.kind ruler ≡ H.kind last)
          (fetches : G.fetches next ≡ count_after (G.fetches mid) (one_if (was_measured v))) (stay_on : Stay G mid next) (faults_on : G.faults mid ≤ G.faults next)
          (noted : PassesOver (λ (v : Verdict). v) (λ (v : Verdict). e.id) (v ∷ []) found more) where
        evals_more : more.evals ≡ found.evals + one_if (was_measured v)
        evals_more = let a = noted.evals in let b = one_counted was_measured v in omega (arith, a, b)

        sure_more : more.sure ≡ found.sure + one_if (was_sure v)
        sure_more = let a = noted.sure in let b = one_counted was_sure v in omega (arith, a, b)

        -- the verdict and the pair, by the pages and the ruler at the start
        verdict_start : IsTrue (G.is_known start) → v ≡ judged (H.kind first) (G.page_at start) e
        verdict_start known =
            subst (λ (k : H.Kind). v ≡ judged k (G.page_at start) e) so.kind
            (as_before G start mid (stays_mid stay) (λ pages live. v ≡ judged (H.kind last) pages e) known (verdict (known_on G start mid (stays_mid stay) known)))

        log_start : IsTrue (G.is_known start) → LogExtends (H.log last) (H.log ruler) (if was_measured v then pair_at query (G.page_at start) e ∷ [] else [])
        log_start known =
            as_before G start mid (stays_mid stay) (λ pages live. LogExtends (H.log last) (H.log ruler) (if was_measured v then pair_at query pages e ∷ [] else [])) known
            (log (known_on G start mid (stays_mid stay) known))

        passed_on : (known : IsTrue (G.is_known start)) → PassedOver start first last root c none found → PassedOver start first ruler root given none more
        passed_on known was =
            let verdict_of : Entry → Verdict = judged (H.kind first) (G.page_at start) in
            let pair_of : Entry → MeasuredPair = pair_at query (G.page_at start) in
            record {
              passed = was.passed ++ (e ∷ []);
              list = was.list ∙ ap (λ (es : List Entry). was.passed ++ es) (gives_start known)
                  ∙ sym (append_assoc was.passed (e ∷ []) (walk_left meets has (G.page_at start) given));
              nodes =
                  as_before G start now so.stay (λ pages live. visits_fetched meets pages given ≡ visits_fetched meets pages c) known (nodes (known_on G start now so.stay known))
                  ∙ was.nodes;
              finds = PassesOver-then verdict_of id_of was.passed (e ∷ []) none found more was.finds
                  (PassesOver-one verdict_of id_of e v e.id found more (verdict_start known) refl noted);
              measures = MeasuresOpen-then verdict_of pair_of was.passed (e ∷ []) (H.count first) (H.log first) (H.count last) (H.log last) (H.count ruler) (H.log ruler) was.measures
                  (MeasuresOpen-one verdict_of pair_of e v (pair_of e) (H.count last) (H.log last) (H.count ruler) (H.log ruler) (verdict_start known) refl count (log_start known));
              sound = λ begins.
                  as_before G start now so.stay (λ pages live. IsSoundCourse pages live c → IsSoundCourse pages live given) known (sound (known_on G start now so.stay known))
                  (was.sound begins);
              part = as_before G start now so.stay (λ pages live. IsPartOf pages root c → IsPartOf pages root given) known (part (known_on G start now so.stay known)) was.part;
            }

        pub passes_on : Passes start next first ruler root given none more
        passes_on =
            let a = so.counted in
            let b = so.most in
            let d = so.most_sure in
            let f = so.faults in
            let x = evals_more in
            let y = sure_more in
            let m = few_counted (was_measured v) in
            let s = few_counted (was_sure v) in
            let total : (given.fetched + found.evals) + one_if (was_measured v) ≡ given.fetched + more.evals = omega (arith, x) in
            record {
              over = λ known. passed_on known (so.over known);
              fetches = fetches ∙ ap (λ n. count_after n (one_if (was_measured v))) (fetched_mid counts)
                  ∙ count_after-add (G.fetches start) (given.fetched + found.evals) (one_if (was_measured v)) ∙ ap (count_after (G.fetches start)) total;
              counted = omega (arith, a, x, count);
              most = omega (arith, b, x, m, limit);
              most_sure = omega (arith, d, y, s, limit);
              kind = kind ∙ so.kind;
              stay = stays_on G start mid (stays_mid stay) chains next stay_on;
              faults = omega (arith, f, faults, faults_on);
            }
