-- A pass over the pairs of the entries that a cursor gives.
use Rattle.std.proofs.Common.{◌≡◌, ℕ, ◌+◌, ◌*◌, ◌-◌, ◌≤◌, ◌<◌, List, [], ◌∷◌, ◌++◌, length, refl, sym, ap, subst, ◌∙◌, arith}
use Rattle.std.specs.Prelude.{IsTrue, filter, ◌^◌, Contains, All}
use Rattle.std.proofs.lemmas.List.{append_assoc, append-nil, length-append, length-map}
use Rattle.std.proofs.lemmas.List.Elements.{All-push, All-filter, All-nil, Contains-append_left, Contains-append_right, Contains-push}
use Rattle.std.proofs.lemmas.List.Sums.{length-filter, count_by-le-length}
use Rattle.metric_laws.specs.declared.ruler.Ruler as ruler
use Rattle.page_laws.specs.Errors.{TellsNoDamage}
use Rattle.page_laws.specs.Pages.{count_after, count_after-add}
use Rattle.page_laws.specs.declared.errors.TreeError.{TreeError}
use Rattle.page_laws.specs.declared.pages.Pages as pages
use Rattle.page_laws.specs.declared.root.Root.{Root}
use Rattle.bptree_node.specs.declared.layout.TheConstants.{HEIGHT_LIMIT}
use Rattle.bptree_node.specs.declared.rows.Entry.{Entry}
use Rattle.bptree_node.specs.Trees.{list_at, pages_at}
use Rattle.bptree_walk.specs.Courses.{Course, begun, most_left, list_left, nodes_left, nodes_fetched, IsPartOf, IsSoundCourse, MOST_IN_TREE}
use Rattle.bptree_walk.specs.Damage.{TellsDamage}
use Rattle.bptree_walk.proofs.Gathering.{begun_sound}
use Rattle.bptree_walk.proofs.Stacks.{begun_most, begun_part}
use Rattle.bptree_walk.proofs.Staying.{Stay, live_of, stays_same, stays_on, known_on, as_before}
use Rattle.query_pass.specs.declared.found.Found.{Found}
use Rattle.query_pass.specs.PassLaws.{PassesOver-none, MeasuresOpen-none}
use Rattle.query_pass.specs.Pairs.{verdict_of_pair, pair_ids, pair_objects}
use Rattle.object_file.specs.ObjectFile.{Slots}
use Rattle.join_window.specs.declared.window.Reaching.{Reaching}
use Rattle.join_window.specs.WindowPairs.{reaches}
use Rattle.join_step.specs.declared.placing.Placing.TheVariants.{ByIds}
use Rattle.join_step.specs.Meetings.{reaching, placed, pairs_with, Tallies, GoesOver}
use Rattle.join_step.specs.Damage.{TellsOfMeeting}
use Rattle.join_step.proofs.Judging.{goes-then}
use Rattle.join_pass.specs.Passing.{tested, reaching_all}
use Rattle.join_pass.specs.Damage.{TellsOfJoin}
use Rattle.join_pass.proofs.Damages.{tells_walk, tells_meeting}

-- the cursor went on, and counted what it fetched
pub record GoesTo (c given : Course) (before now : ℕ) : Type 0 where
  pub least : c.fetched ≤ given.fetched
  pub fetches : now ≡ count_after before (given.fetched - c.fetched)

module _ {P : Type 0} (G : pages.Ghosts P) {R : Type 0} (H : ruler.Ghosts R) (axes bits radius : ℕ) where
  -- the entries that are left, with how far they reach
  abbrev pub coming_at : (ℕ → List ℕ) → Course → List Reaching
  coming_at held c = reaching_all axes bits radius (list_left held c)

  -- it is the entry of one that was left at the beginning
  abbrev pub is_there : P → Root → Reaching → Type 0
  is_there start root h = Contains (list_left (G.page_at start) (begun root)) h.entry

  -- over pages that tell what they hold these pairs were passed over
  pub record PassedOver (start : P) (first last : R) (root : Root) (c : Course) (window : List Reaching) (none found : Found (ℕ × ℕ)) (taken taken' : ℕ) : Type 0 where
    pub passed : List (Reaching × Reaching)
    pub pairs : tested [] (coming_at (G.page_at start) (begun root)) ≡ passed ++ tested window (coming_at (G.page_at start) c)
    pub nodes : nodes_fetched (G.page_at start) c ≡ nodes_fetched (G.page_at start) (begun root)
    pub goes : GoesOver (H.dist (H.kind first)) radius (G.page_at start) passed none found (H.count first) (H.log first) (H.count last) (H.log last)
    pub tests : taken' ≡ taken + length passed
    pub held : All (is_there start root) window
    pub coming : (e : Entry) → Contains (list_left (G.page_at start) c) e → Contains (list_left (G.page_at start) (begun root)) e
    pub sound : IsSoundCourse (G.page_at start) (live_of G start) (begun root) → IsSoundCourse (G.page_at start) (live_of G start) c
    pub part : IsPartOf (G.page_at start) root c

  -- and whatever they hold so much was counted
  pub record Passes (start now : P) (first last : R) (root : Root) (c : Course) (window : List Reaching) (none found : Found (ℕ × ℕ)) (taken taken' : ℕ) : Type 0 where
    pub over : IsTrue (G.is_known start) → PassedOver start first last root c window none found taken taken'
    pub fetches : G.fetches now ≡ count_after (G.fetches start) (c.fetched + 2 * found.evals)
    pub counted : H.count last ≡ H.count first + found.evals
    pub few : length window + most_left c ≤ MOST_IN_TREE
    pub most : found.evals + MOST_IN_TREE * most_left c ≤ MOST_IN_TREE * MOST_IN_TREE
    pub most_sure : found.sure + MOST_IN_TREE * most_left c ≤ MOST_IN_TREE * MOST_IN_TREE
    pub cells : All (λ (h : Reaching). length h.cell ≡ axes) window
    pub kind : H.kind last ≡ H.kind first
    pub stay : Stay G start now
    pub faults : G.faults start ≤ G.faults now

  begins : ((p : P) → G.calm p p) → (p : P) (r : R) (root : Root) (none : Found (ℕ × ℕ)) (taken : ℕ) → root.height ≤ HEIGHT_LIMIT → none.evals ≡ 0 → none.sure ≡ 0
      → Passes p p r r root (begun root) [] none none taken taken
  begins same p r root none taken low evals sure =
      let few = begun_most root low in
      let n : 0 ≡ 0 + 2 * none.evals = omega (arith, evals) in record {
        over = λ known. record {
          passed = [];
          pairs = refl;
          nodes = refl;
          goes = record {
            found = PassesOver-none (verdict_of_pair (H.dist (H.kind r)) radius) pair_ids none;
            measured = MeasuresOpen-none (verdict_of_pair (H.dist (H.kind r)) radius) pair_objects (H.count r) (H.log r);
          };
          tests = omega arith;
          held = All-nil (is_there p root);
          coming = λ e among. among;
          sound = λ sound. sound;
          part = begun_part (G.page_at p) root;
        };
        fetches = ap (count_after (G.fetches p)) n;
        counted = omega (arith, evals);
        few = omega (arith, few);
        most = omega (arith, few, evals);
        most_sure = omega (arith, few, sure);
        cells = All-nil (λ (h : Reaching). length h.cell ≡ axes);
        kind = refl;
        stay = stays_same G same p;
        faults = omega arith;
      }

  pub passes_none : ((p : P) → G.calm p p) → (p : P) (r : R) (root : Root) (c : Course) (window : List Reaching) (none : Found (ℕ × ℕ)) (taken : ℕ)
      → root.height ≤ HEIGHT_LIMIT → c ≡ begun root → window ≡ [] → none.evals ≡ 0 → none.sure ≡ 0 → Passes p p r r root c window none none taken taken
  passes_none same p r root c window none taken low is empty evals sure =
      subst (λ (x : Course). Passes p p r r root x window none none taken taken) (sym is)
      (subst (λ (w : List Reaching). Passes p p r r root (begun root) w none none taken taken) (sym empty) (begins same p r root none taken low evals sure))

  -- one entry more
  module _ (start now : P) (first last : R) (root : Root) (c : Course) (window : List Reaching) (none found : Found (ℕ × ℕ)) (taken taken' : ℕ)
      (so : Passes start now first last root c window none found taken taken')
      (chains : (a b d : P) → G.calm a b → G.calm b d → G.calm a d) (mid : P) (given : Course) where
    -- the cursor went on
    pub stays_mid : Stay G now mid → Stay G start mid
    stays_mid stay = stays_on G start now so.stay chains mid stay

    pub fetched_mid : GoesTo c given (G.fetches now) (G.fetches mid) → G.fetches mid ≡ count_after (G.fetches start) (given.fetched + 2 * found.evals)
    fetched_mid counts =
        let least = counts.least in
        let total : (c.fetched + 2 * found.evals) + (given.fetched - c.fetched) ≡ given.fetched + 2 * found.evals = omega (arith, least) in
        counts.fetches ∙ ap (λ n. count_after n (given.fetched - c.fetched)) so.fetches
        ∙ count_after-add (G.fetches start) (c.fetched + 2 * found.evals) (given.fetched - c.fetched) ∙ ap (count_after (G.fetches start)) total

    -- the cursor is over, and gave all
    module _ (gives : IsTrue (G.is_known now) → (list_left (G.page_at now) c ≡ []) × (list_left (G.page_at now) given ≡ []))
        (nodes : IsTrue (G.is_known now) → nodes_fetched (G.page_at now) given ≡ nodes_fetched (G.page_at now) c) (ended : (held : ℕ → List ℕ) → nodes_left held given ≡ 0)
        (counts : GoesTo c given (G.fetches now) (G.fetches mid)) (lists : (held : ℕ → List ℕ) → list_left held (begun root) ≡ list_at held root)
        (visits : (held : ℕ → List ℕ) → nodes_left held (begun root) ≡ length (pages_at held root)) (known : IsTrue (G.is_known start)) where
      over : PassedOver start first last root c window none found taken taken'
      over = so.over known

      whole : tested [] (reaching_all axes bits radius (list_at (G.page_at start) root)) ≡ over.passed
      whole =
          ap (λ (es : List Entry). tested [] (reaching_all axes bits radius es)) (sym (lists (G.page_at start))) ∙ over.pairs
          ∙ ap (λ (es : List Entry). over.passed ++ tested window (reaching_all axes bits radius es))
          (as_before G start now so.stay (λ pages live. list_left pages c ≡ []) known (gives (known_on G start now so.stay known)).0)
          ∙ append-nil over.passed

      pub goes_all : GoesOver (H.dist (H.kind first)) radius (G.page_at start) (tested [] (reaching_all axes bits radius (list_at (G.page_at start) root))) none found
          (H.count first) (H.log first) (H.count last) (H.log last)
      goes_all = subst (λ (ps : List (Reaching × Reaching)). GoesOver (H.dist (H.kind first)) radius (G.page_at start) ps none found
          (H.count first) (H.log first) (H.count last) (H.log last)) (sym whole) over.goes

      pub tests_all : taken' ≡ taken + length (tested [] (reaching_all axes bits radius (list_at (G.page_at start) root)))
      tests_all = over.tests ∙ ap (λ (ps : List (Reaching × Reaching)). taken + length ps) (sym whole)

      pub fetches_all : G.fetches mid ≡ count_after (G.fetches start) (length (pages_at (G.page_at start) root) + 2 * found.evals)
      fetches_all =
          let a : nodes_fetched (G.page_at start) given ≡ nodes_fetched (G.page_at start) c =
          as_before G start now so.stay (λ pages live. nodes_fetched pages given ≡ nodes_fetched pages c) known (nodes (known_on G start now so.stay known)) in
          let b = over.nodes in
          let left = ended (G.page_at start) in
          let d = visits (G.page_at start) in
          let total : given.fetched + 2 * found.evals ≡ length (pages_at (G.page_at start) root) + 2 * found.evals = omega (arith, a, b, left, d) in
          fetched_mid counts ∙ ap (count_after (G.fetches start)) total

    -- what holds at every end
    pub few_evals : found.evals ≤ MOST_IN_TREE * MOST_IN_TREE
    few_evals = let a = so.most in omega (arith, a)

    pub few_sure : found.sure ≤ MOST_IN_TREE * MOST_IN_TREE
    few_sure = let a = so.most_sure in omega (arith, a)

    pub ruler_on : (H.kind last ≡ H.kind first) × (H.count first ≤ H.count last)
    ruler_on = let a = so.counted in (so.kind, omega (arith, a))

    pub room_left : H.count first ≤ 2 ^ 63 → H.count last + length window < 2 ^ 64
    room_left room = let a = so.counted in let b = so.most in let d = so.few in omega (arith, a, b, d, room)

    pub room_evals : found.evals + length window < 2 ^ 64
    room_evals = let b = so.most in let d = so.few in omega (arith, b, d)

    pub room_sure : found.sure + length window < 2 ^ 64
    room_sure = let b = so.most_sure in let d = so.few in omega (arith, b, d)

    pub ruler_next : (r : R) → H.kind r ≡ H.kind last → H.count last ≤ H.count r → (H.kind r ≡ H.kind first) × (H.count first ≤ H.count r)
    ruler_next r kind more = let a = so.counted in (kind ∙ so.kind, omega (arith, a, more))

    -- the cursor broke off
    pub tells_broken : (lists : (held : ℕ → List ℕ) → list_left held (begun root) ≡ list_at held root) (slots : Slots) (collection : ℕ) → IsTrue (G.is_known start) → (why : TreeError)
        → (IsTrue (G.is_known now) → IsSoundCourse (G.page_at now) (live_of G now) c → TellsNoDamage why)
        → (IsTrue (G.is_known now) → IsPartOf (G.page_at now) root c → TellsDamage (G.page_at now) (live_of G now) root why)
        → TellsOfJoin (H.admitted (H.kind first)) axes bits slots (G.page_at start) (live_of G start) collection root why
    tells_broken lists slots collection known why sound damage =
        let was = so.over known in
        let later = known_on G start now so.stay known in
        tells_walk (H.admitted (H.kind first)) axes bits radius slots (G.page_at start) (live_of G start) collection root why
        (as_before G start now so.stay (λ pages live. IsPartOf pages root c → TellsDamage pages live root why) known (damage later) was.part)
        (λ tree.
        as_before G start now so.stay (λ pages live. IsSoundCourse pages live c → TellsNoDamage why) known (sound later)
        (was.sound (begun_sound (G.page_at start) (live_of G start) root tree)))

    module _ (stay : Stay G now mid) (e : Entry)
        (gives : IsTrue (G.is_known now) → list_left (G.page_at now) c ≡ e ∷ list_left (G.page_at now) given) where
      gives_start : IsTrue (G.is_known start) → list_left (G.page_at start) c ≡ e ∷ list_left (G.page_at start) given
      gives_start known =
          as_before G start now so.stay (λ pages live. list_left pages c ≡ e ∷ list_left pages given) known (gives (known_on G start now so.stay known))

      among_start : (known : IsTrue (G.is_known start)) (x : Entry) → Contains (e ∷ list_left (G.page_at start) given) x → Contains (list_left (G.page_at start) (begun root)) x
      among_start known x among = (so.over known).coming x (subst (λ (es : List Entry). Contains es x) (sym (gives_start known)) among)

      here_start : IsTrue (G.is_known start) → Contains (list_left (G.page_at start) (begun root)) e
      here_start known = among_start known e (Contains-append_left (e ∷ []) (list_left (G.page_at start) given) e (Contains-push [] e))

      abbrev kept : List Reaching
      kept = filter (reaches e.key) window

      -- a pair of it could not be judged
      pub tells_met : (lists : (held : ℕ → List ℕ) → list_left held (begun root) ≡ list_at held root) (slots : Slots) (left right : ℕ) → left ≡ right → IsTrue (G.is_known start) → (why : TreeError)
          → (IsTrue (G.is_known mid) → TellsOfMeeting (H.admitted (H.kind last)) axes bits radius slots (G.page_at mid) left right ByIds e kept why)
          → TellsOfJoin (H.admitted (H.kind first)) axes bits slots (G.page_at start) (live_of G start) left root why
      tells_met lists slots left right one known why tells =
          let was = so.over known in
          tells_meeting (H.admitted (H.kind first)) axes bits radius slots (G.page_at start) (live_of G start) left root e kept why
          (subst (λ (es : List Entry). Contains es e) (lists (G.page_at start)) (here_start known))
          (subst (λ (es : List Entry). All (λ (h : Reaching). Contains es h.entry) kept) (lists (G.page_at start)) (All-filter (reaches e.key) (is_there start root) window was.held))
          (subst (λ (n : ℕ). TellsOfMeeting (H.admitted (H.kind first)) axes bits radius slots (G.page_at start) left n ByIds e kept why) (sym one)
          (subst (λ (k : H.Kind). TellsOfMeeting (H.admitted k) axes bits radius slots (G.page_at start) left right ByIds e kept why) so.kind
          (as_before G start mid (stays_mid stay) (λ pages live. TellsOfMeeting (H.admitted (H.kind last)) axes bits radius slots pages left right ByIds e kept why) known
          (tells (known_on G start mid (stays_mid stay) known)))))

      module _ (next : P) (ruler : R) (more : Found (ℕ × ℕ)) (later : Reaching) (wider : List Reaching) (tests : ℕ)
          (nodes : IsTrue (G.is_known now) → nodes_fetched (G.page_at now) given ≡ nodes_fetched (G.page_at now) c) (limit : most_left given < most_left c)
          (counts : GoesTo c given (G.fetches now) (G.fetches mid))
          (sound : IsTrue (G.is_known now) → IsSoundCourse (G.page_at now) (live_of G now) c → IsSoundCourse (G.page_at now) (live_of G now) given)
          (part : IsTrue (G.is_known now) → IsPartOf (G.page_at now) root c → IsPartOf (G.page_at now) root given)
          (faults : G.faults now ≤ G.faults mid)
          (is : later ≡ reaching axes bits radius e) (long : length later.cell ≡ axes) (wide : wider ≡ kept ++ later ∷ [])
          (goes : IsTrue (G.is_known mid) → GoesOver (H.dist (H.kind last)) radius (G.page_at mid) (pairs_with ByIds (reaching axes bits radius e) kept) found more
          (H.count last) (H.log last) (H.count ruler) (H.log ruler))
          (tallies : Tallies (length window) found more (H.count last) (H.count ruler)) (tested_on : tests ≡ taken' + length kept) (kind : H.kind ruler ≡ H.kind last)
          (fetches : G.fetches next ≡ count_after (G.fetches mid) (2 * (more.evals - found.evals))) (stay_on : Stay G mid next) (faults_on : G.faults mid ≤ G.faults next) where
        goes_start : IsTrue (G.is_known start) → GoesOver (H.dist (H.kind first)) radius (G.page_at start) (pairs_with ByIds (reaching axes bits radius e) kept) found more
            (H.count last) (H.log last) (H.count ruler) (H.log ruler)
        goes_start known =
            subst (λ (k : H.Kind). GoesOver (H.dist k) radius (G.page_at start) (pairs_with ByIds (reaching axes bits radius e) kept) found more
            (H.count last) (H.log last) (H.count ruler) (H.log ruler)) so.kind
            (as_before G start mid (stays_mid stay) (λ pages live. GoesOver (H.dist (H.kind last)) radius pages (pairs_with ByIds (reaching axes bits radius e) kept) found more
            (H.count last) (H.log last) (H.count ruler) (H.log ruler)) known (goes (known_on G start mid (stays_mid stay) known)))

        widened : wider ≡ kept ++ reaching axes bits radius e ∷ []
        widened = wide ∙ ap (λ (h : Reaching). kept ++ h ∷ []) is

        passed_on : (known : IsTrue (G.is_known start)) → PassedOver start first last root c window none found taken taken' → PassedOver start first ruler root given wider none more taken tests
        passed_on known was =
            let pairs : List (Reaching × Reaching) = pairs_with ByIds (reaching axes bits radius e) kept in
            let rest : List (Reaching × Reaching) = tested (kept ++ reaching axes bits radius e ∷ []) (coming_at (G.page_at start) given) in
            record {
              passed = was.passed ++ pairs;
              pairs = was.pairs ∙ ap (λ (es : List Entry). was.passed ++ tested window (reaching_all axes bits radius es)) (gives_start known)
                  ∙ sym (append_assoc was.passed pairs rest)
                  ∙ ap (λ (w : List Reaching). (was.passed ++ pairs) ++ tested w (coming_at (G.page_at start) given)) (sym widened);
              nodes =
                  as_before G start now so.stay (λ pages live. nodes_fetched pages given ≡ nodes_fetched pages c) known (nodes (known_on G start now so.stay known))
                  ∙ was.nodes;
              goes = goes-then (H.dist (H.kind first)) radius (G.page_at start) was.passed pairs none found more (H.count first) (H.log first) (H.count last) (H.log last)
                  (H.count ruler) (H.log ruler) was.goes (goes_start known);
              tests = let a = was.tests in let b = length-map kept (λ (h : Reaching). placed ByIds h (reaching axes bits radius e)) in let d = length-append was.passed pairs in omega (arith, a, b, d, tested_on);
              held = subst (All (is_there start root)) (sym widened)
                  (All-push (is_there start root) kept (reaching axes bits radius e) (All-filter (reaches e.key) (is_there start root) window was.held) (here_start known));
              coming = λ x among. among_start known x (Contains-append_right (e ∷ []) (list_left (G.page_at start) given) x among);
              sound = λ begins.
                  as_before G start now so.stay (λ pages live. IsSoundCourse pages live c → IsSoundCourse pages live given) known (sound (known_on G start now so.stay known))
                  (was.sound begins);
              part = as_before G start now so.stay (λ pages live. IsPartOf pages root c → IsPartOf pages root given) known (part (known_on G start now so.stay known)) was.part;
            }

        pub passes_on : Passes start next first ruler root given wider none more taken tests
        passes_on =
            let a = so.counted in
            let b = so.most in
            let d = so.most_sure in
            let f = so.faults in
            let h = so.few in
            let least = tallies.least in
            let x = tallies.few in
            let y = tallies.few_sure in
            let z = tallies.counted in
            let w = ap length wide ∙ length-append kept (later ∷ []) in
            let k = length-filter (reaches e.key) window in
            let m = count_by-le-length (reaches e.key) window in
            let total : (given.fetched + 2 * found.evals) + 2 * (more.evals - found.evals) ≡ given.fetched + 2 * more.evals = omega (arith, least) in
            record {
              over = λ known. passed_on known (so.over known);
              fetches = fetches ∙ ap (λ n. count_after n (2 * (more.evals - found.evals))) (fetched_mid counts)
                  ∙ count_after-add (G.fetches start) (given.fetched + 2 * found.evals) (2 * (more.evals - found.evals)) ∙ ap (count_after (G.fetches start)) total;
              counted = omega (arith, a, z, least);
              few = omega (arith, h, w, k, m, limit);
              most = omega (arith, b, x, h, limit);
              most_sure = omega (arith, d, y, h, limit);
              cells = subst (All (λ (h : Reaching). length h.cell ≡ axes)) (sym wide)
                  (All-push (λ (h : Reaching). length h.cell ≡ axes) kept later (All-filter (reaches e.key) (λ (h : Reaching). length h.cell ≡ axes) window so.cells) long);
              kind = kind ∙ so.kind;
              stay = stays_on G start mid (stays_mid stay) chains next stay_on;
              faults = omega (arith, f, faults, faults_on);
            }
