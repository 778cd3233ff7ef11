-- Words that are no flags: each goes to the positional whose turn it is.
use Rattle.std.proofs.Common.{◌≡◌, ◌∙◌, ap, ap₂, sym, refl, ℕ, ◌==◌, Bool, true, false, not, ◌&&◌, List, [], ◌∷◌, ◌++◌, Option, Some, None, append-nil, append_assoc}
use Rattle.std.specs.Prelude.{IfSome, find, fold, if◌then◌else◌}
use Rattle.std.specs.List.{list_all}
use Rattle.std.specs.Option.{option_map_or}
use Rattle.spb_defs.specs.Words.{names_file}
use Rattle.clap.specs.Walk.{Held, Rule, Text, Walk, after_step, arg_by_index, finished, idle, is_multiple, next_position, nothing_held, positional, positional_held, rows_after, settled, subcommand_or_other, to_positional, value, walked}
use Rattle.clap.specs.Simple.{Shape}
use Rattle.clap.specs.Kinds.{Kinds, or_else}
use Rattle.clap.specs.Faults.{check_fault, defaults_fault, level_fault, other_fault, positional_fault, settle_fault, stray_fault, turn_fault, walk_fault}

-- a fold that only lengthens a list
pub folded : {A B : Type 0} (f : A → B → A) (at : List B → A) → ((xs : List B) (x : B) → f (at xs) x ≡ at (xs ++ x ∷ [])) → (xs ys : List B)
    → fold f (at xs) ys ≡ at (xs ++ ys)
folded f at step xs [] = ap at (sym (append-nil xs))
folded f at step xs (y ∷ ys) = ap (λ a. fold f a ys) (step xs y) ∙ folded f at step (xs ++ y ∷ []) ys ∙ ap at (append_assoc xs (y ∷ []) ys)

-- both tests
pub both : (a b : Bool) → (a && b) ≡ true → (a ≡ true) × (b ≡ true)
both true b e = (refl, e)
both false b e = absurd (cc)

no_dash : (b : Bool) → not b ≡ true → b ≡ false
no_dash true e = absurd (cc)
no_dash false e = refl

-- ---- one word

-- it is a value
pub is_value : (c : List Rule) (several : Bool) (position : ℕ) (word : Text) (h : Held) → names_file word ≡ true
    → subcommand_or_other c None (if several then positional else idle) position word h ≡ (h, value)
is_value c several position [] h plain = absurd (cc)
is_value c true position (b ∷ bs) h plain = let other : (b == 45) ≡ false = no_dash (b == 45) plain in simp other
is_value c false position (b ∷ bs) h plain = let other : (b == 45) ≡ false = no_dash (b == 45) plain in simp other

-- it is no fault by itself
pub is_no_fault : (s : Shape) (word : Text) (h : Held) → names_file word ≡ true → other_fault s None word h ≡ []
is_no_fault s [] h plain = absurd (cc)
is_no_fault s (b ∷ bs) h plain = let other : (b == 45) ≡ false = no_dash (b == 45) plain in simp other

-- ---- the words of a command without subcommands

-- the state of the walk between two words
pub record Place : Type 0 where
  pub held : Held
  pub several : Bool
  pub position : ℕ

abbrev pub walk_at : Place → Walk
walk_at p = record { held = p.held; waiting = if p.several then positional else idle; position = p.position; is_trailing = false; stopped = None }

abbrev pub start : Place
start = record { held = nothing_held; several = false; position = 1 }

abbrev taken : List Rule → Option Rule → Text → Place → Place
taken c None word p = p
taken c (Some a) word p = record { held = positional_held c a word p.held; several = is_multiple a; position = next_position a p.position }

-- its state after one more
abbrev pub moved : List Rule → Place → Text → Place
moved c p word = taken c (arg_by_index c p.position) word p

abbrev move_fault : Shape → Place → Kinds
move_fault s p = option_map_or (λ a. positional_fault s.rules s.args_override_self a p.held) (arg_by_index s.rules p.position) (stray_fault s)

abbrev pub moves_fault : Shape → Place → List Text → Kinds
moves_fault s p [] = []
moves_fault s p (word ∷ words) = or_else (move_fault s p) (moves_fault s (moved s.rules p word) words)

-- no argument takes all that follows as values
abbrev pub NoneTrails : List Rule → Type 0
NoneTrails c = list_all (λ a. not a.trailing_var_arg) c ≡ true

trails_not : (c : List Rule) (p : Rule → Bool) → NoneTrails c → IfSome (find p c) (λ a. a.trailing_var_arg ≡ false)
trails_not [] p none = tt
trails_not (a ∷ c) p none =
    let parts = both (not a.trailing_var_arg) (list_all (λ a. not a.trailing_var_arg) c) none in
    go (p a) (no_dash a.trailing_var_arg parts.0) (trails_not c p parts.1)
  where
    go : (b : Bool) → a.trailing_var_arg ≡ false → IfSome (find p c) (λ a. a.trailing_var_arg ≡ false)
        → IfSome (if b then Some a else find p c) (λ a. a.trailing_var_arg ≡ false)
    go true here later = here
    go false here later = later

taken_is : (c : List Rule) (o : Option Rule) (word : Text) (p : Place) → IfSome o (λ a. a.trailing_var_arg ≡ false)
    → to_positional c o word (walk_at p) p.held ≡ walk_at (taken c o word p)
taken_is c None word p none = refl
taken_is c (Some a) word p none = ap (λ b. record (walk_at (taken c (Some a) word p)) { is_trailing = b }) none

moved_is : (c : List Rule) (p : Place) (word : Text) → NoneTrails c → names_file word ≡ true → walked c [] (walk_at p) word ≡ walk_at (moved c p word)
unfolding walked
moved_is c p word none plain =
    by p.several p.held p.position
  where
    by : (several : Bool) (h : Held) (position : ℕ) → walked c [] (walk_at (record { held = h; several = several; position = position })) word
        ≡ walk_at (moved c (record { held = h; several = several; position = position }) word)
    by true h position =
        ap (λ met. after_step c word (walk_at (record { held = h; several = true; position = position })) met.0 met.1) (is_value c true position word h plain)
        ∙ taken_is c (arg_by_index c position) word (record { held = h; several = true; position = position }) (trails_not c _ none)
    by false h position =
        ap (λ met. after_step c word (walk_at (record { held = h; several = false; position = position })) met.0 met.1) (is_value c false position word h plain)
        ∙ taken_is c (arg_by_index c position) word (record { held = h; several = false; position = position }) (trails_not c _ none)

pub walk_is : (c : List Rule) (p : Place) (words : List Text) → NoneTrails c → list_all names_file words ≡ true
    → fold (walked c []) (walk_at p) words ≡ walk_at (fold (moved c) p words)
walk_is c p [] none plain = refl
walk_is c p (word ∷ words) none plain =
    let parts = both (names_file word) (list_all names_file words) plain in
    ap (λ w. fold (walked c []) w words) (moved_is c p word none parts.0) ∙ walk_is c (moved c p word) words none parts.1

turn_is : (s : Shape) (p : Place) (word : Text) → names_file word ≡ true → turn_fault s [] (walk_at p) word ≡ move_fault s p
turn_is s p word plain = by p.several p.held p.position
  where
    by : (several : Bool) (h : Held) (position : ℕ) → turn_fault s [] (walk_at (record { held = h; several = several; position = position })) word
        ≡ move_fault s (record { held = h; several = several; position = position })
    by true h position = simp (is_no_fault s word h plain, is_value s.rules true position word h plain)
    by false h position = simp (is_no_fault s word h plain, is_value s.rules false position word h plain)

pub walk_fault_is : (s : Shape) (p : Place) (words : List Text) → NoneTrails s.rules → list_all names_file words ≡ true
    → walk_fault s [] (walk_at p) words ≡ moves_fault s p words
unfolding walk_fault
walk_fault_is s p [] none plain = refl
walk_fault_is s p (word ∷ words) none plain =
    let parts = both (names_file word) (list_all names_file words) plain in
    ap₂ or_else (turn_is s p word parts.0)
    (ap (λ w. walk_fault s [] w words) (moved_is s.rules p word none parts.0) ∙ walk_fault_is s (moved s.rules p word) words none parts.1)

-- ---- the command itself

pub rows_is : (c : List Rule) (words : List Text) → NoneTrails c → list_all names_file words ≡ true
    → rows_after c [] words ≡ finished c (fold (moved c) start words).held
rows_is c words none plain = ap (λ (w : Walk). finished c w.held) (walk_is c start words none plain)

-- what fails after the walk
abbrev pub end_fault : Shape → Held → Kinds
end_fault s h =
    or_else (settle_fault s.rules s.args_override_self h) (or_else (defaults_fault (settled s.rules h).rows s.rules) (check_fault s (finished s.rules h) false))

pub level_is : (s : Shape) (words : List Text) → NoneTrails s.rules → list_all names_file words ≡ true
    → level_fault s [] nothing_held words false [] ≡ or_else (moves_fault s start words) (end_fault s (fold (moved s.rules) start words).held)
level_is s words none plain = ap₂ (λ k (w : Walk). or_else k (end_fault s w.held)) (walk_fault_is s start words none plain)
    (walk_is s.rules start words none plain)
