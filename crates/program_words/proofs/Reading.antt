-- What clap makes of the words of the program.
use Rattle.std.proofs.Common.{◌≡◌, ◌∙◌, ap, ap₂, sym, subst, refl, ℕ, Bool, true, false, List, [], ◌∷◌, ◌++◌, Option, Some, None, Result, Ok, Err, IfOk, inl, inr, arith, is_some, length}
use Rattle.std.specs.Prelude.{codes, fold, if◌then◌else◌, option_and_then, option_map}
use Rattle.std.specs.List.{list_all, slice_index_or}
use Rattle.std.specs.Str.{bytes_eq}
use Rattle.std.proofs.lemmas.Slice.Eq.{bytes_eq-Decides}
use Rattle.std.specs.Fmt.{decimal}
use Rattle.metrics_builtin.specs.declared.Space.{Space}
use Rattle.metrics_builtin.specs.declared.Space.TheVariants.{L1, LInf, Hamming, Sets}
use Rattle.spb_defs.specs.declared.Asked.{Asked}
use Rattle.spb_defs.specs.declared.Asked.TheVariants.{Mem, Make, Run, Check, Trial}
use Rattle.spb_defs.specs.Numbers.{number_of}
use Rattle.spb_defs.specs.declared.TheConstants.{PIVOT_LIMIT, MEMORY_CAP}
use Rattle.spb_defs.specs.Words.{asked_of, names_file, kind_of, parameters_of, curve_word, curve_in, positive_in, space_in, AreWordsFor}
use Rattle.spb_defs.proofs.Spelling.{both_ways}
use Rattle.clap.specs.Walk.{Names, Row, Text, Walk, after_step, finished, idle, nothing_held, rows_after, settled, subcommand_met, subcommand_or_other, walk, walk_from, walked}
use Rattle.clap.specs.Simple.{App, HasMatchesOf, Shape, built, entered, names_of, subcommand_of, subcommand_rows_of}
use Rattle.clap.specs.Values.{kind_of as error_kind}
use Rattle.clap.specs.Kinds.{FailsBy, HasKind, IsAmong, Kinds, or_else}
use Rattle.clap.specs.Faults.{check_fault, defaults_fault, entered_fault, fault_of, is_simple_and_free, level_fault, other_fault, settle_fault, step_fault, stray_fault, turn_fault, walk_fault}
use Rattle.clap.specs.declared.parser.matches.ArgMatches.{ArgMatches}
use Rattle.clap.specs.declared.error.Error.{Error}
use Rattle.clap.specs.declared.error.kind.ErrorKind.{ErrorKind}
use Rattle.clap.specs.declared.error.kind.ErrorKind.TheVariants.{OutOfMemory}
use Rattle.program_words.specs.CommandLine.{command_spb}
use Rattle.program_words.specs.Matched.{asked_matched, words_matched}
use Rattle.program_words.proofs.PlainWords.{NoneTrails, Place, both, end_fault, folded, is_no_fault, is_value, level_is, moved, moves_fault, rows_is, start}

-- ---- the program's own level

abbrev program : App
program = built command_spb

abbrev names : Names
names = names_of program

abbrev entering : Text → List Text → Walk
entering name rest = record { held = nothing_held; waiting = idle; position = 1; is_trailing = false; stopped = Some (name, rest) }

-- a subcommand takes the words after its name
walk_of : (name : Text) (rest : List Text) → subcommand_met names idle name ≡ Some name → walk [] names nothing_held (name ∷ rest) ≡ entering name rest
unfolding walked
walk_of name rest met =
    ap (λ o. let step = subcommand_or_other [] o idle 1 name nothing_held in
    fold (walked [] names) (after_step [] name (walk_from nothing_held) step.0 step.1) rest) met
    ∙ folded (walked [] names) (entering name) (λ words word. refl) [] rest

entered_without_fault : (s : Shape) (name : Text) (words rest : List Text) → walk_fault s names (entering name words) rest ≡ []
unfolding walk_fault walked
entered_without_fault s name words [] = refl
entered_without_fault s name words (word ∷ rest) = entered_without_fault s name (words ++ word ∷ []) rest

-- what fails at the program's own level, by where its walk ends
abbrev program_fault : Kinds → Walk → Kinds
program_fault first w =
    or_else first (or_else (entered_fault program w.stopped) (or_else (settle_fault program.top.rules program.top.args_override_self w.held)
    (or_else (defaults_fault (settled program.top.rules w.held).rows program.top.rules)
    (check_fault program.top (finished program.top.rules w.held) (is_some (entered program w.stopped))))))

-- the subcommands in their order
abbrev sub : ℕ → Shape
sub i = slice_index_or program.subs i program.top

-- the words after a subcommand's name pass if none of these comes
abbrev sub_fault : Shape → List Text → Kinds
sub_fault s rest = or_else (or_else (moves_fault s start rest) (end_fault s (fold (moved s.rules) start rest).held)) []

abbrev sub_rows : Shape → List Text → List Row
sub_rows s rest = finished s.rules (fold (moved s.rules) start rest).held

-- what clap makes of the words after a name
pub record Enters (name : Text) (s : Shape) (rest : List Text) : Type 0 where
  pub fault : fault_of command_spb (name ∷ rest) ≡ sub_fault s rest
  pub rows : subcommand_of command_spb (name ∷ rest) ≡ Some (name, sub_rows s rest)

first_fault : (name : Text) (rest : List Text) → subcommand_met names idle name ≡ Some name → other_fault program.top (Some name) name nothing_held ≡ []
    → walk_fault program.top names (walk_from nothing_held) (name ∷ rest) ≡ []
unfolding walk_fault walked
first_fault name rest met other =
    ap (λ o. let step = subcommand_or_other [] o idle 1 name nothing_held in
    or_else (or_else (other_fault program.top o name nothing_held) (step_fault program.top 1 step.0 step.1))
    (walk_fault program.top names (after_step [] name (walk_from nothing_held) step.0 step.1) rest)) met
    ∙ ap (λ k. or_else (or_else k []) (walk_fault program.top names (entering name []) rest)) other ∙ entered_without_fault program.top name [] rest

-- by what computes of a name and its subcommand
enters : (name : Text) (s : Shape) → subcommand_met names idle name ≡ Some name → other_fault program.top (Some name) name nothing_held ≡ []
    → NoneTrails s.rules
    → ((rest : List Text) → program_fault [] (entering name rest) ≡ or_else (level_fault s [] nothing_held rest false []) [])
    → ((rest : List Text) → entered program (Some (name, rest)) ≡ Some (name, rows_after s.rules [] rest))
    → (rest : List Text) → list_all names_file rest ≡ true → Enters name s rest
enters name s met other none fault rows rest plain = record {
  fault = ap₂ program_fault (first_fault name rest met other) (walk_of name rest met) ∙ fault rest ∙ ap (λ k. or_else k []) (level_is s rest none plain);
  rows = ap (λ (w : Walk). entered program w.stopped) (walk_of name rest met) ∙ rows rest ∙ ap (λ rows. Some (name, rows)) (rows_is s.rules rest none plain);
}

enters_mem : (rest : List Text) → list_all names_file rest ≡ true → Enters (codes "mem") (sub 0) rest
unfolding defaults_fault
enters_mem = enters (codes "mem") (sub 0) refl refl refl (λ rest. refl) (λ rest. refl)

enters_make : (rest : List Text) → list_all names_file rest ≡ true → Enters (codes "make") (sub 1) rest
unfolding defaults_fault
enters_make = enters (codes "make") (sub 1) refl refl refl (λ rest. refl) (λ rest. refl)

enters_run : (rest : List Text) → list_all names_file rest ≡ true → Enters (codes "run") (sub 2) rest
unfolding defaults_fault
enters_run = enters (codes "run") (sub 2) refl refl refl (λ rest. refl) (λ rest. refl)

enters_check : (rest : List Text) → list_all names_file rest ≡ true → Enters (codes "check") (sub 3) rest
unfolding defaults_fault
enters_check = enters (codes "check") (sub 3) refl refl refl (λ rest. refl) (λ rest. refl)

enters_trial : (rest : List Text) → list_all names_file rest ≡ true → Enters (codes "trial") (sub 4) rest
unfolding defaults_fault
enters_trial = enters (codes "trial") (sub 4) refl refl refl (λ rest. refl) (λ rest. refl)

-- ---- what the matches hold is what the words ask for

fails : {k : ErrorKind} {ks : Kinds} → k ∷ ks ≡ [] → ⊥
fails e = omega (arith, ap length e)

-- if clap has no fault, the words after the name have the meaning that the matches have
abbrev Reads : Text → Shape → Type 0
Reads name s = (rest : List Text) → list_all names_file rest ≡ true → sub_fault s rest ≡ [] → words_matched name (sub_rows s rest) ≡ asked_of (name ∷ rest)

abbrev mem_at : Text → List Text → Place
mem_at kind parameters = record {
  held = record (fold (moved (sub 0).rules) start (kind ∷ kind ∷ [])).held { pending = Some (codes "parameters", parameters) };
  several = true;
  position = 2;
}

reads_mem : Reads (codes "mem") (sub 0)
unfolding asked_of defaults_fault
reads_mem [] plain none = absurd (fails none)
reads_mem (kind ∷ []) plain none = absurd (fails none)
reads_mem (kind ∷ first ∷ more) plain none =
    ap (λ (p : Place). words_matched (codes "mem") (finished (sub 0).rules p.held))
    (folded (moved (sub 0).rules) (mem_at kind) (λ words word. refl) (first ∷ []) more)

abbrev make_at : Text → Text → Text → Text → Text → List Text → Place
make_at file curve pivots cap kind parameters = record {
  held = record (fold (moved (sub 1).rules) start (file ∷ curve ∷ pivots ∷ cap ∷ kind ∷ kind ∷ [])).held { pending = Some (codes "parameters", parameters) };
  several = true;
  position = 6;
}

named : (file : Text) (words : List Text) → list_all names_file (file ∷ words) ≡ true → names_file file ≡ true
named file words plain = (both (names_file file) (list_all names_file words) plain).0

-- the words of `make` and of `trial`, after a name that can be a file's
make_is : (file curve pivots cap kind : Text) (parameters : List Text) → names_file file ≡ true
    → option_and_then (λ c. option_and_then (λ p. option_and_then (λ n. option_map (λ s. Make c p n s) (space_in kind parameters))
    (positive_in MEMORY_CAP cap)) (positive_in PIVOT_LIMIT pivots)) (curve_in curve)
    ≡ asked_of (codes "make" ∷ file ∷ curve ∷ pivots ∷ cap ∷ kind ∷ parameters)
unfolding asked_of
make_is file curve pivots cap kind parameters named =
    sym (ap (λ b. if b then option_and_then (λ c. option_and_then
    (λ p. option_and_then (λ n. option_map (λ s. Make c p n s) (space_in kind parameters)) (positive_in MEMORY_CAP cap)) (positive_in PIVOT_LIMIT pivots))
    (curve_in curve) else None) named)

trial_is : (file seed count : Text) → names_file file ≡ true
    → option_and_then (λ s. option_map (λ n. Trial s n) (positive_in MEMORY_CAP count)) (number_of seed) ≡ asked_of (codes "trial" ∷ file ∷ seed ∷ count ∷ [])
unfolding asked_of
trial_is file seed count named =
    sym (ap (λ b. if b then option_and_then (λ s. option_map (λ n. Trial s n) (positive_in MEMORY_CAP count)) (number_of seed) else None) named)

reads_make : Reads (codes "make") (sub 1)
unfolding asked_of defaults_fault
reads_make [] plain none = absurd (fails none)
reads_make (file ∷ []) plain none = absurd (fails none)
reads_make (file ∷ curve ∷ []) plain none = absurd (fails none)
reads_make (file ∷ curve ∷ pivots ∷ []) plain none = absurd (fails none)
reads_make (file ∷ curve ∷ pivots ∷ cap ∷ []) plain none = absurd (fails none)
reads_make (file ∷ curve ∷ pivots ∷ cap ∷ kind ∷ []) plain none = absurd (fails none)
reads_make (file ∷ curve ∷ pivots ∷ cap ∷ kind ∷ first ∷ more) plain none =
    ap (λ (p : Place). words_matched (codes "make") (finished (sub 1).rules p.held))
    (folded (moved (sub 1).rules) (make_at file curve pivots cap kind) (λ words word. refl) (first ∷ []) more)
    ∙ make_is file curve pivots cap kind (first ∷ more) (named file (curve ∷ pivots ∷ cap ∷ kind ∷ first ∷ more) plain)

reads_run : Reads (codes "run") (sub 2)
unfolding asked_of defaults_fault
reads_run [] plain none = absurd (fails none)
reads_run (file ∷ []) plain none = sym (ap (λ b. if b then Some Run else None) (named file [] plain))
reads_run (file ∷ word ∷ words) plain none = absurd (fails none)

reads_check : Reads (codes "check") (sub 3)
unfolding asked_of defaults_fault
reads_check [] plain none = absurd (fails none)
reads_check (file ∷ []) plain none = sym (ap (λ b. if b then Some Check else None) (named file [] plain))
reads_check (file ∷ word ∷ words) plain none = absurd (fails none)

reads_trial : Reads (codes "trial") (sub 4)
unfolding asked_of defaults_fault
reads_trial [] plain none = absurd (fails none)
reads_trial (file ∷ []) plain none = absurd (fails none)
reads_trial (file ∷ seed ∷ []) plain none = absurd (fails none)
reads_trial (file ∷ seed ∷ count ∷ []) plain none = trial_is file seed count (named file (seed ∷ count ∷ []) plain)
reads_trial (file ∷ seed ∷ count ∷ word ∷ words) plain none = absurd (fails none)

-- ---- any name

by_name : (name known : Text) (P : Text → Type 0) → bytes_eq known name ≡ true → P known → P name
by_name name known P e h = subst P ((bytes_eq-Decides known name).0 e) h

-- what the words ask for, if clap has no fault
abbrev IsRead : List Text → Type 0
IsRead words = fault_of command_spb words ≡ [] → asked_matched (subcommand_of command_spb words) ≡ asked_of words

entered_read : (name : Text) (s : Shape) (rest : List Text) → list_all names_file rest ≡ true → Enters name s rest → Reads name s → IsRead (name ∷ rest)
entered_read name s rest plain enters reads none = ap asked_matched enters.rows ∙ reads rest plain (sym enters.fault ∙ none)

no_subcommand : (name : Text) (rest : List Text) → names_file name ≡ true → subcommand_met names idle name ≡ None → fault_of command_spb (name ∷ rest) ≡ [] → ⊥
unfolding walk_fault walked
no_subcommand name rest plain met none =
    let first : turn_fault program.top names (walk_from nothing_held) name ≡ stray_fault program.top =
    ap (λ o. let step = subcommand_or_other [] o idle 1 name nothing_held in
    or_else (other_fault program.top o name nothing_held) (step_fault program.top 1 step.0 step.1)) met
    ∙ ap₂ (λ k step. or_else k (step_fault program.top 1 step.0 step.1)) (is_no_fault program.top name nothing_held plain)
    (is_value [] false 1 name nothing_held plain) in
    fails (sym (ap (λ k. program_fault (or_else k (walk_fault program.top names (walked [] names (walk_from nothing_held) name) rest))
    (walk [] names nothing_held (name ∷ rest))) first) ∙ none)

pub is_read : (words : List Text) → list_all names_file words ≡ true → IsRead words
unfolding asked_of walked
is_read [] plain none = refl
is_read (name ∷ rest) plain none =
    let parts = both (names_file name) (list_all names_file rest) plain in
    go (bytes_eq (codes "mem") name) (bytes_eq (codes "make") name) (bytes_eq (codes "run") name) (bytes_eq (codes "check") name)
    (bytes_eq (codes "trial") name) parts.0 parts.1 refl refl refl refl refl none
  where
    go : (mem make run check trial : Bool) → names_file name ≡ true → list_all names_file rest ≡ true
        → bytes_eq (codes "mem") name ≡ mem → bytes_eq (codes "make") name ≡ make → bytes_eq (codes "run") name ≡ run → bytes_eq (codes "check") name ≡ check
        → bytes_eq (codes "trial") name ≡ trial
        → IsRead (name ∷ rest)
    go true make run check trial one all e1 e2 e3 e4 e5 =
        by_name name (codes "mem") (λ n. IsRead (n ∷ rest)) e1 (entered_read (codes "mem") (sub 0) rest all (enters_mem rest all) reads_mem)
    go false true run check trial one all e1 e2 e3 e4 e5 =
        by_name name (codes "make") (λ n. IsRead (n ∷ rest)) e2 (entered_read (codes "make") (sub 1) rest all (enters_make rest all) reads_make)
    go false false true check trial one all e1 e2 e3 e4 e5 =
        by_name name (codes "run") (λ n. IsRead (n ∷ rest)) e3 (entered_read (codes "run") (sub 2) rest all (enters_run rest all) reads_run)
    go false false false true trial one all e1 e2 e3 e4 e5 =
        by_name name (codes "check") (λ n. IsRead (n ∷ rest)) e4 (entered_read (codes "check") (sub 3) rest all (enters_check rest all) reads_check)
    go false false false false true one all e1 e2 e3 e4 e5 =
        by_name name (codes "trial") (λ n. IsRead (n ∷ rest)) e5 (entered_read (codes "trial") (sub 4) rest all (enters_trial rest all) reads_trial)
    go false false false false false one all e1 e2 e3 e4 e5 = λ none. absurd (no_subcommand name rest one (rw (e1, e2, e3, e4, e5) refl) none)

-- ---- words that ask for something have no fault

passes_mem : (s : Space) → sub_fault (sub 0) (kind_of s ∷ parameters_of s) ≡ []
unfolding defaults_fault
passes_mem (L1 dim most) = refl
passes_mem (LInf dim most) = refl
passes_mem (Hamming len) = refl
passes_mem (Sets universe most) = refl

passes_pivots : (s : Space) (n : ℕ) → sub_fault (sub 0) (kind_of s ∷ (parameters_of s ++ decimal n ∷ [])) ≡ []
unfolding defaults_fault
passes_pivots (L1 dim most) n = refl
passes_pivots (LInf dim most) n = refl
passes_pivots (Hamming len) n = refl
passes_pivots (Sets universe most) n = refl

passes_make : (file curve pivots cap : Text) (s : Space) → sub_fault (sub 1) (file ∷ curve ∷ pivots ∷ cap ∷ kind_of s ∷ parameters_of s) ≡ []
unfolding defaults_fault
passes_make file curve pivots cap (L1 dim most) = refl
passes_make file curve pivots cap (LInf dim most) = refl
passes_make file curve pivots cap (Hamming len) = refl
passes_make file curve pivots cap (Sets universe most) = refl

passes_run : (file : Text) → sub_fault (sub 2) (file ∷ []) ≡ []
unfolding defaults_fault
passes_run file = refl

passes_check : (file : Text) → sub_fault (sub 3) (file ∷ []) ≡ []
unfolding defaults_fault
passes_check file = refl

passes_trial : (file seed count : Text) → sub_fault (sub 4) (file ∷ seed ∷ count ∷ []) ≡ []
unfolding defaults_fault
passes_trial file seed count = refl

-- the words pass if those after the name do
entered_passes : (words rest : List Text) (name : Text) (s : Shape) → words ≡ name ∷ rest → list_all names_file words ≡ true
    → (list_all names_file rest ≡ true → Enters name s rest) → sub_fault s rest ≡ [] → fault_of command_spb words ≡ []
entered_passes words rest name s is plain enters none =
    let all : list_all names_file (name ∷ rest) ≡ true = sym (ap (list_all names_file) is) ∙ plain in
    ap (fault_of command_spb) is ∙ (enters (both (names_file name) (list_all names_file rest) all).1).fault ∙ none

spelled_passes : (words : List Text) (a : Asked) → list_all names_file words ≡ true → AreWordsFor words a → fault_of command_spb words ≡ []
spelled_passes words (Mem setup) plain (fit, few, inl (none, is)) =
    entered_passes words _ (codes "mem") (sub 0) is plain (enters_mem _) (passes_mem setup.space)
spelled_passes words (Mem setup) plain (fit, few, inr is) =
    entered_passes words _ (codes "mem") (sub 0) is plain (enters_mem _) (passes_pivots setup.space setup.pivots)
spelled_passes words (Make curve pivots cap space) plain (fit, some, few, one, room, (file, named, is)) =
    entered_passes words _ (codes "make") (sub 1) is plain (enters_make _) (passes_make file (curve_word curve) (decimal pivots) (decimal cap) space)
spelled_passes words Run plain (file, named, is) = entered_passes words _ (codes "run") (sub 2) is plain (enters_run _) (passes_run file)
spelled_passes words Check plain (file, named, is) = entered_passes words _ (codes "check") (sub 3) is plain (enters_check _) (passes_check file)
spelled_passes words (Trial seed count) plain (small, one, few, (file, named, is)) =
    entered_passes words _ (codes "trial") (sub 4) is plain (enters_trial _) (passes_trial file (decimal seed) (decimal count))

-- ---- the parse

pub is_free : is_simple_and_free command_spb ≡ true
is_free = refl

-- what the matches of a parse ask for
pub matches_ask : (app : App) (words : List Text) (r : Result ArgMatches Error) (m : ArgMatches) → app ≡ command_spb → list_all names_file words ≡ true
    → r ≡ Ok m
    → IfOk r (HasMatchesOf app words) → (is_simple_and_free app ≡ true → FailsBy (fault_of app words) r) → asked_matched (subcommand_rows_of m) ≡ asked_of words
matches_ask app words r m is plain ok matches kinds =
    let has : HasMatchesOf command_spb words m = subst (λ a. HasMatchesOf a words m) is (subst (λ r. IfOk r (HasMatchesOf app words)) ok matches) in
    let none : FailsBy (fault_of command_spb words) (Ok m) =
    subst (λ r. FailsBy (fault_of command_spb words) r) ok (subst (λ a. is_simple_and_free a ≡ true → FailsBy (fault_of a words) r) is kinds is_free) in
    ap asked_matched (has refl).1 ∙ is_read words plain none

-- if a parse fails, but not because memory ran out, the words ask for nothing
pub refusal_asks_nothing : (app : App) (words : List Text) (r : Result ArgMatches Error) (e : Error) → app ≡ command_spb → list_all names_file words ≡ true
    → r ≡ Err e
    → (is_simple_and_free app ≡ true → FailsBy (fault_of app words) r) → (error_kind e ≡ OutOfMemory → ⊥) → asked_of words ≡ None
refusal_asks_nothing app words r e is plain err kinds other =
    let fails_by : HasKind (fault_of command_spb words) e =
    subst (λ r. FailsBy (fault_of command_spb words) r) err (subst (λ a. is_simple_and_free a ≡ true → FailsBy (fault_of a words) r) is kinds is_free) in
    go (asked_of words) refl fails_by
  where
    go : (o : Option Asked) → asked_of words ≡ o → HasKind (fault_of command_spb words) e → o ≡ None
    go None at h = refl
    go (Some a) at (inl memory) = absurd (other memory)
    go (Some a) at (inr among) = absurd (subst (IsAmong (error_kind e)) (spelled_passes words a plain ((both_ways words a).0 at)) among)
