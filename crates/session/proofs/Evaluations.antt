-- How many distance computations a reply can report.
use Rattle.std.proofs.Common.{◌≡◌, ℕ, ◌+◌, ◌*◌, ◌^◌, ◌≤◌, Bool, true, false, Option, Some, None, List, [], ◌∷◌, length, map, refl, arith}
use Rattle.std.specs.Prelude.{◌==◌, is_some, nat_le, nat_lt, if◌then◌else◌}
use Rattle.std.specs.List.{filter_map}
use Rattle.std.proofs.lemmas.List.{length-map, length-append}
use Rattle.std.proofs.lemmas.List.Sums.{count_by-le-length, length-filter}
use Rattle.metrics_builtin.specs.Space.{dist}
use Rattle.spb_defs.specs.declared.TheConstants.{SAMPLE_LIMIT}
use Rattle.spb_defs.specs.declared.Reply.TheVariants.{Done, Exists, Absent, Full, Curve}
use Rattle.spb_defs.specs.declared.Command.{Command}
use Rattle.spb_defs.specs.declared.Command.TheVariants as command
use Rattle.spb_defs.specs.Scans.{Entry, needs_distance, kth_rank, is_in_reach, pair_needs_distance, range_answer, near_answer, product, considered_pairs, join_answer}
use Rattle.spb_defs.specs.State.{State, Members, allows_joins, object_at, is_full, entry_in, entries_in}
use Rattle.spb_defs.specs.Step.{sample_reply, get_reply, join_reply, reply_of, evals_of}

-- ---- how many rows and pairs there are

module _ {A B : Type 0} (f : A → Option B) where
  length-picked : (xs : List A) → length (filter_map f xs) ≤ length xs
  length-picked [] = omega arith
  length-picked (x ∷ xs) = one (f x) refl (length-picked xs)
    where
      one : (o : Option B) → f x ≡ o → length (filter_map f xs) ≤ length xs → length (filter_map f (x ∷ xs)) ≤ length (x ∷ xs)
      one None is rest = rw is (omega (arith, rest))
      one (Some y) is rest = rw is (omega (arith, rest))

length-entries_in : (members : Members) (c : ℕ) → length (entries_in members c) ≤ length members
unfolding entries_in
length-entries_in members c = length-picked (entry_in c) members

length-product : (left right : List Entry) → length right ≤ 65536 → length (product left right) ≤ 65536 * length left
length-product [] right few = omega arith
length-product (a ∷ left) right few =
    let pair : Entry → Entry × Entry = λ b. (a, b) in
    let here : length (map pair right) ≡ length right = length-map right pair in
    let rest = length-product left right few in
    let both = length-append (map pair right) (product left right) in omega (arith, here, rest, both, few)

length-considered_pairs : (same : Bool) (left right : List Entry) → length left ≤ 65536 → length right ≤ 65536
    → length (considered_pairs same left right) ≤ 2 ^ 32
length-considered_pairs false left right few few' = let all = length-product left right few' in omega (arith, all, few)
length-considered_pairs true left right few few' =
    let all = length-product left right few' in
    let kept = length-filter (λ (p : Entry × Entry). nat_lt p.0.0 p.1.0) (product left right) in
    let fewer = count_by-le-length (λ (p : Entry × Entry). nat_lt p.0.0 p.1.0) (product left right) in omega (arith, all, kept, fewer, few)

-- ---- how many distance computations the answers report

module _ (dist : List ℕ → List ℕ → ℕ) (pivots : List (List ℕ)) where
  range-few : (rows : List Entry) (query : List ℕ) (radius : ℕ) → (range_answer dist pivots rows query radius).evals ≤ length pivots + length rows
  unfolding range_answer
  range-few rows query radius = let few = count_by-le-length (needs_distance dist pivots query radius) rows in omega (arith, few)

  near-few : (rows : List Entry) (query : List ℕ) (k : ℕ) → (near_answer dist pivots rows query k).evals ≤ length pivots + length rows
  unfolding near_answer
  near-few rows query k = let few = count_by-le-length (is_in_reach dist pivots query (kth_rank dist rows query k)) rows in omega (arith, few)

  join-few : (pairs : List (Entry × Entry)) (radius : ℕ) → (join_answer dist pivots pairs radius).evals ≤ length pairs
  unfolding join_answer
  join-few pairs radius = count_by-le-length (pair_needs_distance dist pivots radius) pairs

-- ---- replies that report none

sample-none : (samples : Option (List (List ℕ))) → evals_of (sample_reply samples) ≡ 0
sample-none None = refl
sample-none (Some kept) = by (nat_le SAMPLE_LIMIT (length kept))
  where
    by : (b : Bool) → evals_of (if b then Full else Done) ≡ 0
    by true = refl
    by false = refl

add-none : (there full : Bool) → evals_of (if there then Exists else (if full then Full else Done)) ≡ 0
add-none true full = refl
add-none false true = refl
add-none false false = refl

drop-none : (there : Bool) → evals_of (if there then Done else Absent) ≡ 0
drop-none true = refl
drop-none false = refl

get-none : (found : Option (List ℕ)) → evals_of (get_reply found) ≡ 0
get-none None = refl
get-none (Some object) = refl

-- ---- any reply

-- with at most 8 pivots and 65536 members
module _ (t : State) (pivots : length t.pivots ≤ 8) (members : length t.members ≤ 65536) where
  rows-few : (c : ℕ) → length (entries_in t.members c) ≤ 65536
  rows-few c = let few = length-entries_in t.members c in omega (arith, few, members)

  join-by : (b : Bool) (c d radius : ℕ)
      → evals_of (if b then join_reply (join_answer (dist t.space) t.pivots (considered_pairs (c == d) (entries_in t.members c) (entries_in t.members d))
      radius) else Curve) ≤ 2 ^ 32
  join-by false c d radius = omega arith
  join-by true c d radius =
      let pairs = considered_pairs (c == d) (entries_in t.members c) (entries_in t.members d) in
      let few = join-few (dist t.space) t.pivots pairs radius in
      let all = length-considered_pairs (c == d) (entries_in t.members c) (entries_in t.members d) (rows-few c) (rows-few d) in omega (arith, few, all)

  pub evals-few : (asked : Command) → evals_of (reply_of t asked) ≤ 2 ^ 32
  unfolding reply_of
  evals-few (command.Sample object) = let none = sample-none t.samples in omega (arith, none)
  evals-few (command.Add c id object) = let none = add-none (is_some (object_at t c id)) (is_full t) in omega (arith, none)
  evals-few (command.Discard c id) = let none = drop-none (is_some (object_at t c id)) in omega (arith, none)
  evals-few (command.Get c id) = let none = get-none (object_at t c id) in omega (arith, none)
  evals-few (command.Count c) = omega arith
  evals-few (command.Range c radius query) =
      let few = range-few (dist t.space) t.pivots (entries_in t.members c) query radius in let all = rows-few c in omega (arith, few, all, pivots)
  evals-few (command.Near c k query) =
      let few = near-few (dist t.space) t.pivots (entries_in t.members c) query k in let all = rows-few c in omega (arith, few, all, pivots)
  evals-few (command.Join c d radius) = join-by (allows_joins t.curve) c d radius
