-- What holds of every state is kept by each line.
use Rattle.std.proofs.Common.{◌≡◌, ℕ, ◌+◌, ◌^◌, ◌≤◌, ◌<◌, Bool, true, false, cond, Result, Ok, Err, List, [], ◌∷◌, ◌++◌, length, min, Option, Some, None, All, take, refl, sym, ap, subst, ◌∙◌, arith}
use Rattle.std.specs.Prelude.{is_some, nat_le, IsTrue, IfSome, if◌then◌else◌}
use Rattle.std.specs.List.{AllByRecursion}
use Rattle.std.specs.List.Sorted.{IsStrictlySortedBy}
use Rattle.std.specs.Map.{keys_of, remove_entry}
use Rattle.std.specs.BTreeMap.{is_at, insert_entry}
use Rattle.std.specs.Ordering.{ordering_reverse, match_ordering}
use Rattle.std.specs.Cmp.{IsTotalOrder}
use Rattle.std.specs.declared.cmp.Ordering.{Ordering}
use Rattle.std.specs.declared.cmp.Ordering.TheVariants.{Less, Equal, Greater}
use Rattle.std.proofs.lemmas.Cmp.{then_total, on_total, nat_cmp_total}
use Rattle.std.proofs.lemmas.Bool.Decides.{nat_tests}
use Rattle.metrics_builtin.specs.declared.Space.{Space}
use Rattle.spb_edge.specs.declared.reader.Line.{Line}
use Rattle.spb_edge.specs.declared.reader.Line.TheVariants as line
use Rattle.spb_defs.specs.declared.Command.{Command}
use Rattle.spb_defs.specs.declared.Command.TheVariants as command
use Rattle.spb_defs.specs.declared.What.{What}
use Rattle.spb_defs.specs.State.{Key, key_cmp, State, IsMemberKey, IsState, AreSamples, Members, empty_in_memory, empty_in_file, with_samples_closed, pivots_after_sampling, object_at, is_full, with_object, without_object}
use Rattle.spb_defs.specs.Grammar.{command_of}
use Rattle.spb_edge.specs.Lines.{lines_of}
use Rattle.spb_defs.specs.Changes.{IsReached, state_after_lines}
use Rattle.spb_defs.specs.Step.{with_sample, state_after, changed_state, state_after_read, next_state}
use Rattle.spb_defs.specs.declared.TheConstants.{LINE_LIMIT, SAMPLE_LIMIT, PIVOT_LIMIT}
use Rattle.spb_defs.specs.declared.CurveKind.{CurveKind}
use Rattle.spb_defs.specs.ChoiceLaws.{length-chosen_samples, All-chosen_samples}
use Rattle.spb_defs.specs.CommandText.{IsWellFormed}
use Rattle.spb_defs.specs.CommandLaws.{read_line}
use Rattle.metrics_builtin.specs.Space.{fits, IsValid, dist}
use Rattle.std.proofs.Math.Nat.{min-le_left, min-le_right}
use Rattle.std.proofs.lemmas.List.{length_push}
use Rattle.std.proofs.lemmas.List.Elements.{All-nil, All-cons, All-head, All-tail, All-append}

pub key_order : IsTotalOrder key_cmp
key_order = then_total (on_total (λ (k : Key). k.0) nat_cmp_total) (on_total (λ (k : Key). k.1) nat_cmp_total)

-- ---- an entry put in its place

module _ {K X : Type 0} {R : K → K → Ordering} (o : IsTotalOrder R) (k : K) (v : X) where
  -- the entries after the insertion, by how the key compares to the first
  abbrev put_at : Ordering → K × X → List (K × X) → List (K × X)
  put_at r e es = match_ordering r ((k, v) ∷ e ∷ es) ((e.0, v) ∷ es) (e ∷ insert_entry R es k v)

  above_at : (x : K) (e : K × X) (es : List (K × X)) (r : Ordering) → R x k ≡ Less → R x e.0 ≡ Less → AllByRecursion (λ y. R x y ≡ Less) (keys_of es)
      → AllByRecursion (λ y. R x y ≡ Less) (keys_of (insert_entry R es k v)) → AllByRecursion (λ y. R x y ≡ Less) (keys_of (put_at r e es))
  above_at x e es Less at first all more = (at, (first, all))
  above_at x e es Equal at first all more = (first, all)
  above_at x e es Greater at first all more = (first, more)

  -- what is above all of the keys and the new one is above all of them together
  above : (x : K) (es : List (K × X)) → R x k ≡ Less → AllByRecursion (λ y. R x y ≡ Less) (keys_of es)
      → AllByRecursion (λ y. R x y ≡ Less) (keys_of (insert_entry R es k v))
  above x [] at all = (at, tt)
  above x (e ∷ es) at all = above_at x e es (R k e.0) at all.0 all.1 (above x es at all.1)

  through : (z : K) (ks : List K) → R k z ≡ Less → AllByRecursion (λ y. R z y ≡ Less) ks → AllByRecursion (λ y. R k y ≡ Less) ks
  through z [] at all = tt
  through z (y ∷ ks) at all = (o.trans k z y at all.0, through z ks at all.1)

  sorted_at : (e : K × X) (es : List (K × X)) (r : Ordering) → R k e.0 ≡ r → AllByRecursion (λ y. R e.0 y ≡ Less) (keys_of es)
      → IsStrictlySortedBy R (keys_of es) → IsStrictlySortedBy R (keys_of (insert_entry R es k v)) → IsStrictlySortedBy R (keys_of (put_at r e es))
  unfolding IsStrictlySortedBy
  sorted_at e es Less at first rise more = ((at, through e.0 (keys_of es) at first), (first, rise))
  sorted_at e es Equal at first rise more = (first, rise)
  sorted_at e es Greater at first rise more = (above e.0 es (o.antisymm e.0 k ∙ ap ordering_reverse at) first, more)

  pub sorted : (es : List (K × X)) → IsStrictlySortedBy R (keys_of es) → IsStrictlySortedBy R (keys_of (insert_entry R es k v))
  unfolding IsStrictlySortedBy
  sorted [] rise = (tt, tt)
  sorted (e ∷ es) rise = sorted_at e es (R k e.0) refl rise.0 rise.1 (sorted es rise.1)

  longer_at : (e : K × X) (es : List (K × X)) (r : Ordering) → length (insert_entry R es k v) ≤ length es + 1 → length (put_at r e es) ≤ length es + 2
  longer_at e es Less more = omega arith
  longer_at e es Equal more = omega arith
  longer_at e es Greater more = omega (arith, more)

  pub longer : (es : List (K × X)) → length (insert_entry R es k v) ≤ length es + 1
  longer [] = omega arith
  longer (e ∷ es) = let more = longer_at e es (R k e.0) (longer es) in omega (arith, more)

-- ---- an entry taken out

module _ {K X : Type 0} (test : K → Bool) where
  all_cut_at : (P : K → Type 0) (b : Bool) (e : K × X) (es : List (K × X)) → P e.0 → AllByRecursion P (keys_of es)
      → AllByRecursion P (keys_of (remove_entry test es)) → AllByRecursion P (keys_of (cond b es (e ∷ remove_entry test es)))
  all_cut_at P true e es first all less = all
  all_cut_at P false e es first all less = (first, less)

  all_cut : (P : K → Type 0) (es : List (K × X)) → AllByRecursion P (keys_of es) → AllByRecursion P (keys_of (remove_entry test es))
  all_cut P [] all = all
  all_cut P (e ∷ es) all = all_cut_at P (test e.0) e es all.0 all.1 (all_cut P es all.1)

  shorter_at : (b : Bool) (e : K × X) (es : List (K × X)) → length (remove_entry test es) ≤ length es
      → length (cond b es (e ∷ remove_entry test es)) ≤ length es + 1
  shorter_at true e es less = omega arith
  shorter_at false e es less = omega (arith, less)

  pub shorter : (es : List (K × X)) → length (remove_entry test es) ≤ length es
  shorter [] = omega arith
  shorter (e ∷ es) = let less = shorter_at (test e.0) e es (shorter es) in omega (arith, less)

module _ {K X : Type 0} (R : K → K → Ordering) (test : K → Bool) where
  cut_at : (b : Bool) (e : K × X) (es : List (K × X)) → AllByRecursion (λ y. R e.0 y ≡ Less) (keys_of es) → IsStrictlySortedBy R (keys_of es)
      → IsStrictlySortedBy R (keys_of (remove_entry test es)) → IsStrictlySortedBy R (keys_of (cond b es (e ∷ remove_entry test es)))
  unfolding IsStrictlySortedBy
  cut_at true e es first rise less = rise
  cut_at false e es first rise less = (all_cut test (λ y. R e.0 y ≡ Less) es first, less)

  pub cut_sorted : (es : List (K × X)) → IsStrictlySortedBy R (keys_of es) → IsStrictlySortedBy R (keys_of (remove_entry test es))
  unfolding IsStrictlySortedBy
  cut_sorted [] rise = rise
  cut_sorted (e ∷ es) rise = cut_at (test e.0) e es rise.0 rise.1 (cut_sorted es rise.1)

-- ---- entries that all have a property

module _ {K X : Type 0} (R : K → K → Ordering) (k : K) (v : X) (P : K × X → Type 0) (new : P (k, v)) (same : (e : K × X) → P e → P (e.0, v)) where
  all_put_at : (r : Ordering) (e : K × X) (es : List (K × X)) → P e → All P es → All P (insert_entry R es k v)
      → All P (match_ordering r ((k, v) ∷ e ∷ es) ((e.0, v) ∷ es) (e ∷ insert_entry R es k v))
  all_put_at Less e es first all more = All-cons P (k, v) (e ∷ es) new (All-cons P e es first all)
  all_put_at Equal e es first all more = All-cons P (e.0, v) es (same e first) all
  all_put_at Greater e es first all more = All-cons P e (insert_entry R es k v) first more

  pub all_put : (es : List (K × X)) → All P es → All P (insert_entry R es k v)
  all_put [] all = All-cons P (k, v) [] new all
  all_put (e ∷ es) all =
      let rest = All-tail P e es all in
      all_put_at (R k e.0) e es (All-head P e es all) rest (all_put es rest)

module _ {K X : Type 0} (test : K → Bool) (P : K × X → Type 0) where
  all_left_at : (b : Bool) (e : K × X) (es : List (K × X)) → P e → All P es → All P (remove_entry test es) → All P (cond b es (e ∷ remove_entry test es))
  all_left_at true e es first all less = all
  all_left_at false e es first all less = All-cons P e (remove_entry test es) first less

  pub all_left : (es : List (K × X)) → All P es → All P (remove_entry test es)
  all_left [] all = all
  all_left (e ∷ es) all =
      let rest = All-tail P e es all in
      all_left_at (test e.0) e es (All-head P e es all) rest (all_left es rest)

-- ---- the empty stores

pub in_memory : (space : Space) (wanted : ℕ) → IsTrue (fits space) → wanted ≤ PIVOT_LIMIT → IsState (empty_in_memory space wanted)
unfolding IsStrictlySortedBy
in_memory space wanted fit few = record {
  in_range = fit;
  order = tt;
  room = omega arith;
  keys = All-nil (λ member. IsMemberKey member.0);
  objects = All-nil (λ member. IsValid space member.1);
  samples = (All-nil (IsValid space), omega arith);
  pivots = All-nil (IsValid space);
  few_pivots = omega arith;
  few_wanted = few;
  sampling = (refl, refl);
  in_file = tt;
}

pub in_file : (space : Space) (curve : CurveKind) (pivots : List (List ℕ)) (cap : ℕ) → IsTrue (fits space) → All (IsValid space) pivots
    → length pivots ≤ PIVOT_LIMIT → IsState (empty_in_file space curve pivots cap)
unfolding IsStrictlySortedBy
in_file space curve pivots cap fit valid few = record {
  in_range = fit;
  order = tt;
  room = omega arith;
  keys = All-nil (λ member. IsMemberKey member.0);
  objects = All-nil (λ member. IsValid space member.1);
  samples = tt;
  pivots = valid;
  few_pivots = omega arith;
  few_wanted = few;
  sampling = tt;
  in_file = (refl, refl);
}

-- ---- samples

-- the samples are closed
closed_pivots : (s : State) (kept : Option (List (List ℕ))) → AreSamples s.space kept → All (IsValid s.space) s.pivots
    → All (IsValid s.space) (pivots_after_sampling s kept)
closed_pivots s None samples pivots = pivots
closed_pivots s (Some kept) samples pivots =
    All-chosen_samples (IsValid s.space) (dist s.space) kept (min s.wanted (length kept)) (min-le_right s.wanted (length kept)) samples.0

closed_few : (s : State) (kept : Option (List (List ℕ))) → length s.pivots ≤ s.wanted → length (pivots_after_sampling s kept) ≤ s.wanted
closed_few s None few = few
closed_few s (Some kept) few =
    let many = length-chosen_samples (dist s.space) kept (min s.wanted (length kept)) in
    let low = min-le_left s.wanted (length kept) in
    omega arith

closed_in_file : (s : State) (curve : Option CurveKind) (kept : Option (List (List ℕ))) → IfSome curve (λ c. (kept ≡ None) × (s.wanted ≡ length s.pivots))
    → IfSome curve (λ c. (◌≡◌ {A = Option (List (List ℕ))} None None) × (s.wanted ≡ length (pivots_after_sampling s kept)))
closed_in_file s None kept h = tt
closed_in_file s (Some curve) None h = (refl, h.1)
closed_in_file s (Some curve) (Some kept) h = absurd (let e = h.0 in cc)

state_closed : (s : State) → IsState s → IsState (with_samples_closed s)
state_closed s is = record {
  in_range = is.in_range;
  order = is.order;
  room = is.room;
  keys = is.keys;
  objects = is.objects;
  samples = tt;
  pivots = closed_pivots s s.samples is.samples is.pivots;
  few_pivots = closed_few s s.samples is.few_pivots;
  few_wanted = is.few_wanted;
  sampling = tt;
  in_file = closed_in_file s s.curve s.samples is.in_file;
}

-- one more sample
sampled_at : (space : Space) (kept : List (List ℕ)) (object : List ℕ) (full : Bool) → nat_le SAMPLE_LIMIT (length kept) ≡ full → IsValid space object
    → AreSamples space (Some kept) → AreSamples space (if full then Some kept else Some (kept ++ object ∷ []))
sampled_at space kept object true is valid samples = samples
sampled_at space kept object false is valid samples =
    let long : length (kept ++ object ∷ []) ≡ length kept + 1 = length_push kept object in
    let below : length kept + 1 ≤ SAMPLE_LIMIT = grind (arith, nat_tests, is) in
    (All-append (IsValid space) kept (object ∷ []) samples.0 (All-cons (IsValid space) object [] valid (All-nil (IsValid space))), omega arith)

sampled : (space : Space) (samples : Option (List (List ℕ))) (object : List ℕ) → IsValid space object → AreSamples space samples
    → AreSamples space (with_sample samples object)
sampled space None object valid samples = tt
sampled space (Some kept) object valid samples = sampled_at space kept object (nat_le SAMPLE_LIMIT (length kept)) refl valid samples

module _ (P : Type 0) where
  still_at : (full : Bool) (kept more : List (List ℕ)) → P → IfSome (if full then Some kept else Some more) (λ samples. P)
  still_at true kept more p = p
  still_at false kept more p = p

  still : (samples : Option (List (List ℕ))) (object : List ℕ) → IfSome samples (λ kept. P) → IfSome (with_sample samples object) (λ kept. P)
  still None object p = tt
  still (Some kept) object p = still_at (nat_le SAMPLE_LIMIT (length kept)) kept (kept ++ object ∷ []) p

  still_in_file : (curve : Option CurveKind) (samples : Option (List (List ℕ))) (object : List ℕ) → IfSome curve (λ c. (samples ≡ None) × P)
      → IfSome curve (λ c. (with_sample samples object ≡ None) × P)
  still_in_file None samples object h = tt
  still_in_file (Some curve) None object h = (refl, h.1)
  still_in_file (Some curve) (Some kept) object h = absurd (let e = h.0 in cc)

state_sampled : (s : State) (object : List ℕ) → IsValid s.space object → IsState s → IsState (record s { samples = with_sample s.samples object })
state_sampled s object valid is = record {
  in_range = is.in_range;
  order = is.order;
  room = is.room;
  keys = is.keys;
  objects = is.objects;
  samples = sampled s.space s.samples object valid is.samples;
  pivots = is.pivots;
  few_pivots = is.few_pivots;
  few_wanted = is.few_wanted;
  sampling = still ((s.pivots ≡ []) × (s.members ≡ [])) s.samples object is.sampling;
  in_file = still_in_file (s.wanted ≡ length s.pivots) s.curve s.samples object is.in_file;
}

-- ---- members

-- other members of a state whose samples are closed
with_members : (s : State) (members : Members) → IsState s → s.samples ≡ None → IsStrictlySortedBy key_cmp (keys_of members) → length members ≤ s.cap
    → All (λ member. IsMemberKey member.0) members → All (λ member. IsValid s.space member.1) members → IsState (record s { members = members })
with_members s members is none order room keys objects = record {
  in_range = is.in_range;
  order = order;
  room = room;
  keys = keys;
  objects = objects;
  samples = is.samples;
  pivots = is.pivots;
  few_pivots = is.few_pivots;
  few_wanted = is.few_wanted;
  sampling = no_samples s.samples none (λ kept. (s.pivots ≡ []) × (members ≡ []));
  in_file = is.in_file;
}
  where
    no_samples : (samples : Option (List (List ℕ))) → samples ≡ None → (P : List (List ℕ) → Type 0) → IfSome samples P
    no_samples None e P = tt
    no_samples (Some kept) e P = absurd (cc)

by_add : (there full : Bool) (s : State) (c id : ℕ) (object : List ℕ) → is_full s ≡ full → s.samples ≡ None → (c < 4) × (id < 2 ^ 32) × IsValid s.space object
    → IsState s → IsState (if there then s else (if full then s else record s { members = with_object s.members c id object }))
by_add true full s c id object at none proper is = is
by_add false true s c id object at none proper is = is
by_add false false s c id object at none proper is =
    let long = longer key_order (c, id) object s.members in
    let room : length s.members < s.cap = grind (arith, nat_tests, at) in
    with_members s (with_object s.members c id object) is none
    (sorted key_order (c, id) object s.members is.order)
    (omega (arith, long))
    (all_put key_cmp (c, id) object (λ member. IsMemberKey member.0) (proper.0, proper.1) (λ e p. p) s.members is.keys)
    (all_put key_cmp (c, id) object (λ member. IsValid s.space member.1) proper.2 (λ e p. proper.2) s.members is.objects)

by_drop : (there : Bool) (s : State) (c id : ℕ) → s.samples ≡ None → IsState s
    → IsState (if there then record s { members = without_object s.members c id } else s)
by_drop true s c id none is =
    let test = is_at (key_cmp (c, id)) in
    let less = shorter test s.members in
    let room = is.room in
    with_members s (without_object s.members c id) is none
    (cut_sorted key_cmp test s.members is.order)
    (omega (arith, less, room))
    (all_left test (λ member. IsMemberKey member.0) s.members is.keys)
    (all_left test (λ member. IsValid s.space member.1) s.members is.objects)
by_drop false s c id none is = is

-- ---- lines

by_command : (s : State) (c : Command) → IsWellFormed s.space c → IsState s → IsState (state_after s c)
unfolding changed_state
by_command s (command.Sample object) proper is = state_sampled s object proper is
by_command s (command.Add c id object) proper is = let t = with_samples_closed s in
    by_add (is_some (object_at t c id)) (is_full t) t c id object refl refl proper (state_closed s is)
by_command s (command.Discard c id) proper is = let t = with_samples_closed s in by_drop (is_some (object_at t c id)) t c id refl (state_closed s is)
by_command s (command.Get c id) proper is = state_closed s is
by_command s (command.Count c) proper is = state_closed s is
by_command s (command.Range c r object) proper is = state_closed s is
by_command s (command.Near c k object) proper is = state_closed s is
by_command s (command.Join c d r) proper is = state_closed s is

by_text : (s : State) (text : List ℕ) (read : Result Command What) → command_of s.space text ≡ read → IsState s → IsState (state_after_read s read)
by_text s text (Ok c) reads is = by_command s c (read_line s.space text c is.in_range reads).0 is
by_text s text (Err failed) reads is = is

pub by_line : (s : State) (l : Line) → IsState s → IsState (next_state s l)
unfolding next_state
by_line s (line.Text text) is = by_text s text (command_of s.space text) refl is
by_line s line.Long is = is
by_line s line.End is = is

by_lines : (lines : List Line) (s : State) → IsState s → IsState (state_after_lines s lines)
by_lines [] s is = is
by_lines (l ∷ lines) s is = by_lines lines (next_state s l) (by_line s l is)

pub reached : (s : State) (script : List ℕ) (t : State) → IsState s → IsReached s (lines_of LINE_LIMIT script) t → IsState t
reached s script t is r = subst IsState (sym r.is) (by_lines (take r.many (lines_of LINE_LIMIT script)) s is)
