-- How great the numbers in a reply can be, and so their sums.
use Rattle.std.proofs.Common.{◌≡◌, ℕ, ◌*◌, ◌^◌, ◌<◌, ◌≤◌, Bool, true, false, Option, Some, None, Result, Ok, Err, List, [], ◌∷◌, length, map, filter, min, All, refl, ◌∙◌, arith}
use Rattle.std.specs.Prelude.{◌==◌, is_some, nat_le, nat_lt, if◌then◌else◌, sum_by, count_by}
use Rattle.std.specs.List.{filter_map}
use Rattle.std.proofs.Math.Nat.{min-le_left}
use Rattle.std.proofs.lemmas.List.{length-map, length-append, length-take}
use Rattle.std.proofs.lemmas.List.Elements.{All-nil, All-cons}
use Rattle.std.proofs.lemmas.List.Sums.{count_by-le-length, length-filter, sum_by-le}
use Rattle.answer_lists.specs.Order.{goes_before, sorted_by}
use Rattle.answer_lists.specs.OrderLaws.{sorted_by-length}
use Rattle.metrics_builtin.specs.Space.{dist}
use Rattle.spb_edge.specs.declared.reader.Line.{Line}
use Rattle.spb_edge.specs.declared.reader.Line.TheVariants as line
use Rattle.spb_defs.specs.declared.TheConstants.{SAMPLE_LIMIT}
use Rattle.spb_defs.specs.declared.Reply.{Reply}
use Rattle.spb_defs.specs.declared.Reply.TheVariants.{Done, Exists, Absent, Full, Curve}
use Rattle.spb_defs.specs.declared.Command.{Command}
use Rattle.spb_defs.specs.declared.Command.TheVariants as command
use Rattle.spb_defs.specs.declared.What.{What}
use Rattle.spb_defs.specs.ChoiceLaws.{length-chosen_samples}
use Rattle.spb_defs.specs.Scans.{Entry, needs_distance, is_included, kth_rank, is_in_reach, ranks_of, pair_needs_distance, pair_is_included, range_answer, near_answer, product, considered_pairs, join_answer}
use Rattle.spb_defs.specs.State.{State, IsState, Members, allows_joins, object_at, is_full, entry_in, entries_in, pivots_after_sampling, with_samples_closed, with_object, without_object}
use Rattle.spb_defs.specs.Grammar.{command_of}
use Rattle.spb_defs.specs.Changes.{is_ok}
use Rattle.spb_defs.specs.Step.{sample_reply, get_reply, range_reply, near_reply, join_reply, acting_state, reply_of, changed_state, reply_read, state_after_read, reply, next_state}
use Rattle.trial_script.specs.declared.totals.Tally.{Tally}
use Rattle.trial_script.specs.declared.totals.Totals.{Totals}
use Rattle.trial_script.specs.Totals.{replies_of, no_tally, range_tally, near_tally, join_tally, tally_by, totals_of, cap, capped_tally, capped}

-- ---- how many rows and pairs there are

module _ {A B : Type 0} (f : A → Option B) where
  length-picked : (xs : List A) → length (filter_map f xs) ≤ length xs
  length-picked [] = omega arith
  length-picked (x ∷ xs) = one (f x) refl (length-picked xs)
    where
      one : (o : Option B) → f x ≡ o → length (filter_map f xs) ≤ length xs → length (filter_map f (x ∷ xs)) ≤ length (x ∷ xs)
      one None is rest = rw is (omega (arith, rest))
      one (Some y) is rest = rw is (omega (arith, rest))

length-entries_in : (members : Members) (c : ℕ) → length (entries_in members c) ≤ length members
unfolding entries_in
length-entries_in members c = length-picked (entry_in c) members

length-product : (left right : List Entry) → length right ≤ 65536 → length (product left right) ≤ 65536 * length left
length-product [] right few = omega arith
length-product (a ∷ left) right few =
    let pair : Entry → Entry × Entry = λ b. (a, b) in
    let here : length (map pair right) ≡ length right = length-map right pair in
    let rest = length-product left right few in
    let both = length-append (map pair right) (product left right) in
    omega (arith, here, rest, both, few)

length-considered_pairs : (same : Bool) (left right : List Entry) → length left ≤ 65536 → length right ≤ 65536
    → length (considered_pairs same left right) ≤ 2 ^ 32
length-considered_pairs false left right few few' = let all = length-product left right few' in omega (arith, all, few)
length-considered_pairs true left right few few' =
    let all = length-product left right few' in
    let kept = length-filter (λ (p : Entry × Entry). nat_lt p.0.0 p.1.0) (product left right) in
    let fewer = count_by-le-length (λ (p : Entry × Entry). nat_lt p.0.0 p.1.0) (product left right) in
    omega (arith, all, kept, fewer, few)

-- what passes a test, in order and by parts of it
module _ {A B : Type 0} (before : B → B → Bool) (f : A → B) (p : A → Bool) where
  length-passed : (xs : List A) → length (sorted_by before (map f (filter p xs))) ≤ length xs
  length-passed xs =
      let order = sorted_by-length before (map f (filter p xs)) in
      let parts = length-map (filter p xs) f in
      let kept = length-filter p xs in
      let fewer = count_by-le-length p xs in
      omega (arith, order, parts, kept, fewer)

-- ---- one reply

-- each of the three numbers is at most 2 ^ 32
abbrev pub IsSmall : Tally → Type 0
IsSmall tally = (tally.found ≤ 2 ^ 32) × (tally.evals ≤ 2 ^ 32) × (tally.sure ≤ 2 ^ 32)

none : IsSmall no_tally
none = (omega arith, omega arith, omega arith)

-- so are the numbers of a reply, whatever it answers
pub record HasSmall (said : Reply) : Type 0 where
  pub range : IsSmall (range_tally said)
  pub near : IsSmall (near_tally said)
  pub join : IsSmall (join_tally said)

-- a reply without numbers to sum up
sample-small : (samples : Option (List (List ℕ))) → HasSmall (sample_reply samples)
sample-small None = record { range = none; near = none; join = none }
sample-small (Some kept) = by (nat_le SAMPLE_LIMIT (length kept))
  where
    by : (b : Bool) → HasSmall (if b then Full else Done)
    by true = record { range = none; near = none; join = none }
    by false = record { range = none; near = none; join = none }

add-small : (there full : Bool) → HasSmall (if there then Exists else (if full then Full else Done))
add-small true full = record { range = none; near = none; join = none }
add-small false true = record { range = none; near = none; join = none }
add-small false false = record { range = none; near = none; join = none }

drop-small : (there : Bool) → HasSmall (if there then Done else Absent)
drop-small true = record { range = none; near = none; join = none }
drop-small false = record { range = none; near = none; join = none }

get-small : (found : Option (List ℕ)) → HasSmall (get_reply found)
get-small None = record { range = none; near = none; join = none }
get-small (Some object) = record { range = none; near = none; join = none }

-- with at most 8 pivots and 65536 members
module _ (t : State) (pivots : length t.pivots ≤ 8) (members : length t.members ≤ 65536) where
  rows-few : (c : ℕ) → length (entries_in t.members c) ≤ 65536
  rows-few c = let few = length-entries_in t.members c in omega (arith, few, members)

  range-small : (c radius : ℕ) (query : List ℕ) → IsSmall (range_tally (range_reply (range_answer (dist t.space) t.pivots (entries_in t.members c) query radius)))
  unfolding range_answer
  range-small c radius query =
      let rows = entries_in t.members c in
      let all = rows-few c in
      let found = length-passed nat_lt (λ (row : Entry). row.0) (λ row. nat_le (dist t.space query row.1) radius) rows in
      let open_rows = count_by-le-length (needs_distance (dist t.space) t.pivots query radius) rows in
      let sure = count_by-le-length (is_included (dist t.space) t.pivots query radius) rows in
      (omega (arith, all, found), omega (arith, all, open_rows, pivots), omega (arith, all, sure))

  abbrev rank_of : List ℕ → Entry → ℕ × ℕ
  rank_of query row = (dist t.space query row.1, row.0)

  near-small : (c k : ℕ) (query : List ℕ) → IsSmall (near_tally (near_reply (near_answer (dist t.space) t.pivots (entries_in t.members c) query k)))
  unfolding near_answer
  near-small c k query =
      let rows = entries_in t.members c in
      let all = rows-few c in
      let ranks = ranks_of (dist t.space) rows query in
      let found = length-take k (sorted_by goes_before ranks) in
      let order = sorted_by-length goes_before ranks in
      let parts : length ranks ≡ length rows = length-map rows (rank_of query) in
      let reached = count_by-le-length (is_in_reach (dist t.space) t.pivots query (kth_rank (dist t.space) rows query k)) rows in
      (omega (arith, all, found, order, parts), omega (arith, all, reached, pivots), omega arith)

  pairs-small : (c d radius : ℕ)
      → IsSmall (join_tally (join_reply (join_answer (dist t.space) t.pivots
      (considered_pairs (c == d) (entries_in t.members c) (entries_in t.members d)) radius)))
  unfolding join_answer
  pairs-small c d radius =
      let pairs = considered_pairs (c == d) (entries_in t.members c) (entries_in t.members d) in
      let all = length-considered_pairs (c == d) (entries_in t.members c) (entries_in t.members d) (rows-few c) (rows-few d) in
      let found = length-passed goes_before (λ (p : Entry × Entry). (p.0.0, p.1.0)) (λ p. nat_le (dist t.space p.0.1 p.1.1) radius) pairs in
      let open_pairs = count_by-le-length (pair_needs_distance (dist t.space) t.pivots radius) pairs in
      let sure = count_by-le-length (pair_is_included (dist t.space) t.pivots radius) pairs in
      (omega (arith, all, found), omega (arith, all, open_pairs), omega (arith, all, sure))

  join-small : (b : Bool) (c d radius : ℕ)
      → HasSmall (if b then join_reply (join_answer (dist t.space) t.pivots (considered_pairs (c == d) (entries_in t.members c) (entries_in t.members d)) radius)
      else Curve)
  join-small true c d radius = record { range = none; near = none; join = pairs-small c d radius }
  join-small false c d radius = record { range = none; near = none; join = none }

  reply_of-small : (asked : Command) → HasSmall (reply_of t asked)
  unfolding reply_of
  reply_of-small (command.Sample object) = sample-small t.samples
  reply_of-small (command.Add c id object) = add-small (is_some (object_at t c id)) (is_full t)
  reply_of-small (command.Discard c id) = drop-small (is_some (object_at t c id))
  reply_of-small (command.Get c id) = get-small (object_at t c id)
  reply_of-small (command.Count c) = record { range = none; near = none; join = none }
  reply_of-small (command.Range c radius query) = record { range = range-small c radius query; near = none; join = none }
  reply_of-small (command.Near c k query) = record { range = none; near = near-small c k query; join = none }
  reply_of-small (command.Join c d radius) = join-small (allows_joins t.curve) c d radius

-- ---- the reply to a line

few_pivots : (s : State) (samples : Option (List (List ℕ))) → IsState s → length (pivots_after_sampling s samples) ≤ 8
few_pivots s None is = let few = is.few_pivots in let wanted = is.few_wanted in omega (arith, few, wanted)
few_pivots s (Some kept) is =
    let many = length-chosen_samples (dist s.space) kept (min s.wanted (length kept)) in
    let less = min-le_left s.wanted (length kept) in
    let wanted = is.few_wanted in
    omega (arith, many, less, wanted)

module _ (s : State) (is : IsState s) (room : s.cap ≤ 65536) where
  few_members : length s.members ≤ 65536
  few_members = let within = is.room in omega (arith, within, room)

  closed-small : (asked : Command) → HasSmall (reply_of (with_samples_closed s) asked)
  closed-small asked = reply_of-small (with_samples_closed s) (few_pivots s s.samples is) few_members asked

  open-small : (asked : Command) → HasSmall (reply_of s asked)
  open-small asked =
      let few : length s.pivots ≤ 8 = few_pivots s None is in
      reply_of-small s few few_members asked

  acted-small : (asked : Command) → HasSmall (reply_of (acting_state s asked) asked)
  acted-small (command.Sample object) = open-small (command.Sample object)
  acted-small (command.Add c id object) = closed-small (command.Add c id object)
  acted-small (command.Discard c id) = closed-small (command.Discard c id)
  acted-small (command.Get c id) = closed-small (command.Get c id)
  acted-small (command.Count c) = closed-small (command.Count c)
  acted-small (command.Range c r object) = closed-small (command.Range c r object)
  acted-small (command.Near c k object) = closed-small (command.Near c k object)
  acted-small (command.Join c d r) = closed-small (command.Join c d r)

  read-small : (read : Result Command What) → HasSmall (reply_read s read)
  read-small (Ok asked) = acted-small asked
  read-small (Err failed) = record { range = none; near = none; join = none }

  reply-small : (asked : Line) → HasSmall (reply s asked)
  unfolding reply
  reply-small (line.Text text) = read-small (command_of s.space text)
  reply-small line.Long = record { range = none; near = none; join = none }
  reply-small line.End = record { range = none; near = none; join = none }

-- ---- no line changes the cap

module _ (t : State) where
  added-cap : (there full : Bool) (members : Members)
      → (if there then t else (if full then t else record t { members = members })).cap ≡ t.cap
  added-cap true full members = refl
  added-cap false true members = refl
  added-cap false false members = refl

  dropped-cap : (there : Bool) (members : Members) → (if there then record t { members = members } else t).cap ≡ t.cap
  dropped-cap true members = refl
  dropped-cap false members = refl

  changed-cap : (asked : Command) → (changed_state t asked).cap ≡ t.cap
  unfolding changed_state
  changed-cap (command.Sample object) = refl
  changed-cap (command.Add c id object) = added-cap (is_some (object_at t c id)) (is_full t) (with_object t.members c id object)
  changed-cap (command.Discard c id) = dropped-cap (is_some (object_at t c id)) (without_object t.members c id)
  changed-cap (command.Get c id) = refl
  changed-cap (command.Count c) = refl
  changed-cap (command.Range c r object) = refl
  changed-cap (command.Near c k object) = refl
  changed-cap (command.Join c d r) = refl

acting-cap : (s : State) (asked : Command) → (acting_state s asked).cap ≡ s.cap
acting-cap s (command.Sample object) = refl
acting-cap s (command.Add c id object) = refl
acting-cap s (command.Discard c id) = refl
acting-cap s (command.Get c id) = refl
acting-cap s (command.Count c) = refl
acting-cap s (command.Range c r object) = refl
acting-cap s (command.Near c k object) = refl
acting-cap s (command.Join c d r) = refl

read-cap : (s : State) (read : Result Command What) → (state_after_read s read).cap ≡ s.cap
read-cap s (Ok asked) = changed-cap (acting_state s asked) asked ∙ acting-cap s asked
read-cap s (Err failed) = refl

next-cap : (s : State) (asked : Line) → (next_state s asked).cap ≡ s.cap
unfolding next_state
next-cap s (line.Text text) = read-cap s (command_of s.space text)
next-cap s line.Long = refl
next-cap s line.End = refl

-- ---- all replies

module _ (next : (s : State) (asked : Line) → IsState s → IsState (next_state s asked)) where
  pub replies-small : (s : State) (lines : List Line) → IsState s → s.cap ≤ 65536 → All HasSmall (replies_of s lines)
  replies-small s [] is room = All-nil HasSmall
  replies-small s (asked ∷ lines) is room =
      let same = next-cap s asked in
      All-cons HasSmall (reply s asked) (replies_of (next_state s asked) lines) (reply-small s is room asked)
      (replies-small (next_state s asked) lines (next s asked is) (omega (arith, same, room)))

pub length-replies : (s : State) (lines : List Line) → length (replies_of s lines) ≡ length lines
length-replies s [] = refl
length-replies s (asked ∷ lines) = let rest = length-replies (next_state s asked) lines in omega (arith, rest)

-- ---- sums

cap-small : (n : ℕ) → n < 2 ^ 64 → cap n ≡ n
cap-small n small = omega (arith, small)

tally-same : (f e s f' e' s' : ℕ) → f ≡ f' → e ≡ e' → s ≡ s'
    → ◌≡◌ {A = Tally} (record { found = f; evals = e; sure = s }) (record { found = f'; evals = e'; sure = s' })
tally-same f e s f' e' s' p q r = cc

totals-same : (n n' : ℕ) (a b c a' b' c' : Tally) → n ≡ n' → a ≡ a' → b ≡ b' → c ≡ c'
    → ◌≡◌ {A = Totals} (record { changes = n; range = a; near = b; join = c }) (record { changes = n'; range = a'; near = b'; join = c' })
totals-same n n' a b c a' b' c' p q r s = cc

-- at most 65569 replies, each with small numbers
module _ (replies : List Reply) (few : length replies ≤ 65569) where
  summed : (f : Reply → ℕ) → All (λ said. f said ≤ 2 ^ 32) replies → cap (sum_by f replies) ≡ sum_by f replies
  summed f small = let all = sum_by-le f (2 ^ 32) replies small in cap-small (sum_by f replies) (omega (arith, all, few))

  tallied : (tally : Reply → Tally) → All (λ said. IsSmall (tally said)) replies → capped_tally (tally_by tally replies) ≡ tally_by tally replies
  tallied tally small =
      let found : Reply → ℕ = λ said. (tally said).found in
      let evals : Reply → ℕ = λ said. (tally said).evals in
      let sure : Reply → ℕ = λ said. (tally said).sure in
      tally-same (cap (sum_by found replies)) (cap (sum_by evals replies)) (cap (sum_by sure replies)) (sum_by found replies) (sum_by evals replies)
      (sum_by sure replies) (summed found (λ k d less. (small k d less).0)) (summed evals (λ k d less. (small k d less).1))
      (summed sure (λ k d less. (small k d less).2))

  pub totals-capped : All HasSmall replies → capped (totals_of replies) ≡ totals_of replies
  totals-capped small =
      let changes = count_by-le-length is_ok replies in
      let range = tally_by range_tally replies in
      let near = tally_by near_tally replies in
      let join = tally_by join_tally replies in
      totals-same (cap (count_by is_ok replies)) (count_by is_ok replies) (capped_tally range) (capped_tally near) (capped_tally join) range near join
      (cap-small (count_by is_ok replies) (omega (arith, changes, few))) (tallied range_tally (λ k d less. (small k d less).range))
      (tallied near_tally (λ k d less. (small k d less).near)) (tallied join_tally (λ k d less. (small k d less).join))
