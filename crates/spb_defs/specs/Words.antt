-- The words of the program, after its name.
use Rattle.std.specs.Prelude.{◌≡◌, ◌⊎◌, ℕ, ◌==◌, ◌^◌, ◌<◌, ◌≤◌, IsTrue, Bool, false, not, List, [], ◌∷◌, ◌++◌, Option, Some, None, option_and_then, option_map, codes, if◌then◌else◌}
use Rattle.std.specs.Str.{bytes_eq}
use Rattle.std.specs.Fmt.{decimal}
use Rattle.metrics_builtin.specs.declared.Space.{Space}
use Rattle.metrics_builtin.specs.declared.Space.TheVariants.{L1, LInf, Hamming, Sets}
use Rattle.metrics_builtin.specs.Space.{fits}
use Rattle.spb_defs.specs.declared.CurveKind.{CurveKind}
use Rattle.spb_defs.specs.declared.CurveKind.TheVariants.{Z, Hilbert}
use Rattle.spb_defs.specs.declared.MemorySetup.{MemorySetup}
use Rattle.spb_defs.specs.declared.Asked.{Asked}
use Rattle.spb_defs.specs.declared.Asked.TheVariants.{Mem, Make, Run, Check, Trial}
use Rattle.spb_defs.specs.declared.FileUse.{FileUse}
use Rattle.spb_defs.specs.declared.FileUse.TheVariants as file
use Rattle.spb_defs.specs.declared.TheConstants.{PIVOT_LIMIT, MEMORY_CAP}
use Rattle.spb_defs.specs.Numbers.{at_least, number_of, number_within}

-- ---- spaces

-- the space, if its numbers are in range
abbrev pub checked_space : Space → Option Space
checked_space space = if fits space then Some space else None

-- a number of at most 32 bits
abbrev pub parameter_in : List ℕ → Option ℕ
parameter_in word = number_within 4294967295 word

-- the space with one number, and with two
abbrev pub space_with_one : (ℕ → Space) → List ℕ → Option Space
space_with_one make first = option_and_then (λ a. checked_space (make a)) (parameter_in first)

abbrev pub space_with_two : (ℕ → ℕ → Space) → List ℕ → List ℕ → Option Space
space_with_two make first second = option_and_then (λ a. option_and_then (λ b. checked_space (make a b)) (parameter_in second)) (parameter_in first)

-- the space of a kind and its parameters
abbrev pub space_in : List ℕ → List (List ℕ) → Option Space
space_in kind (first ∷ []) = if bytes_eq kind (codes "hamming") then space_with_one Hamming first else None
space_in kind (first ∷ second ∷ []) =
    if bytes_eq kind (codes "l1") then space_with_two L1 first second
    else (if bytes_eq kind (codes "linf") then space_with_two LInf first second
    else (if bytes_eq kind (codes "sets") then space_with_two Sets first second else None))
space_in kind _ = None

-- ---- the store in memory

-- the store of a space, without pivots, and with as many as a word says
abbrev pub without_pivots : Option Space → Option MemorySetup
without_pivots space = option_map (λ s. record { space = s; pivots = 0 }) space

abbrev pub with_pivots : Option Space → List ℕ → Option MemorySetup
with_pivots space word = option_and_then (λ s. option_map (λ n. record { space = s; pivots = n }) (number_within PIVOT_LIMIT word)) space

-- the store of a kind, its parameters, and then at most one more word for the number of pivots
abbrev pub setup_in : List ℕ → List (List ℕ) → Option MemorySetup
setup_in kind (first ∷ []) = without_pivots (space_in kind (first ∷ []))
setup_in kind (first ∷ second ∷ []) =
    if bytes_eq kind (codes "hamming") then with_pivots (space_in kind (first ∷ [])) second else without_pivots (space_in kind (first ∷ second ∷ []))
setup_in kind (first ∷ second ∷ third ∷ []) = with_pivots (space_in kind (first ∷ second ∷ [])) third
setup_in kind _ = None

abbrev pub mem_in : List (List ℕ) → Option Asked
mem_in (kind ∷ parameters) = option_map Mem (setup_in kind parameters)
mem_in [] = None

-- ---- stores in files

-- the word can name a file: it isn't empty, and doesn't begin with `-`
abbrev pub names_file : List ℕ → Bool
names_file [] = false
names_file (b ∷ bs) = not (b == 45)

abbrev pub curve_in : List ℕ → Option CurveKind
curve_in word = if bytes_eq word (codes "z") then Some Z else (if bytes_eq word (codes "hilbert") then Some Hilbert else None)

-- a number from 1 to a bound
abbrev pub positive_in : ℕ → List ℕ → Option ℕ
positive_in bound word = at_least 1 (number_within bound word)

-- a file, the curve, the most pivots, the most objects, and a kind with exactly its parameters
abbrev pub make_in : List (List ℕ) → Option Asked
make_in (file ∷ curve ∷ pivots ∷ cap ∷ kind ∷ parameters) =
    if names_file file
    then option_and_then (λ c. option_and_then (λ p. option_and_then (λ n. option_map (λ s. Make c p n s) (space_in kind parameters))
    (positive_in MEMORY_CAP cap)) (positive_in PIVOT_LIMIT pivots)) (curve_in curve)
    else None
make_in _ = None

-- a file alone
abbrev pub file_alone : Asked → List (List ℕ) → Option Asked
file_alone asked (file ∷ []) = if names_file file then Some asked else None
file_alone asked _ = None

-- a file, the seed, and the number of objects
abbrev pub trial_in : List (List ℕ) → Option Asked
trial_in (file ∷ seed ∷ count ∷ []) =
    if names_file file then option_and_then (λ s. option_map (λ n. Trial s n) (positive_in MEMORY_CAP count)) (number_of seed) else None
trial_in _ = None

-- ---- all words

-- what the words after a program's name ask for
abbrev pub asked_by : List ℕ → List (List ℕ) → Option Asked
asked_by name words =
    if bytes_eq name (codes "mem") then mem_in words
    else (if bytes_eq name (codes "make") then make_in words
    else (if bytes_eq name (codes "run") then file_alone Run words
    else (if bytes_eq name (codes "check") then file_alone Check words
    else (if bytes_eq name (codes "trial") then trial_in words else None))))

-- what the words ask for, if they are in the grammar
unfoldable pub asked_of : List (List ℕ) → Option Asked
asked_of [] = None
asked_of (name ∷ words) = asked_by name words

-- the store in memory that is asked for, if one is
abbrev pub memory_asked : Option Asked → Option MemorySetup
memory_asked (Some (Mem setup)) = Some setup
memory_asked (Some (Make curve pivots cap space)) = None
memory_asked (Some Run) = None
memory_asked (Some Check) = None
memory_asked (Some (Trial seed count)) = None
memory_asked None = None

-- the store in memory that the words ask for
abbrev pub setup_of : List (List ℕ) → Option MemorySetup
setup_of words = memory_asked (asked_of words)

-- ---- the file that the words name

-- how a file is used, by what is asked for
abbrev pub file_used : Option Asked → List ℕ → FileUse
file_used (Some (Mem setup)) name = file.None
file_used (Some (Make curve pivots cap space)) name = file.New name
file_used (Some Run) name = file.Old name
file_used (Some Check) name = file.Old name
file_used (Some (Trial seed count)) name = file.New name
file_used None name = file.None

-- how the words use a file: its name is the second word
abbrev pub file_use_of : List (List ℕ) → FileUse
file_use_of (name ∷ file ∷ words) = file_used (asked_of (name ∷ file ∷ words)) file
file_use_of _ = file.None

-- ---- the words of what is asked for

-- the words of a space: its kind and its parameters
abbrev pub kind_of : Space → List ℕ
kind_of (L1 dim most) = codes "l1"
kind_of (LInf dim most) = codes "linf"
kind_of (Hamming len) = codes "hamming"
kind_of (Sets universe most) = codes "sets"

abbrev pub parameters_of : Space → List (List ℕ)
parameters_of (L1 dim most) = decimal dim ∷ decimal most ∷ []
parameters_of (LInf dim most) = decimal dim ∷ decimal most ∷ []
parameters_of (Hamming len) = decimal len ∷ []
parameters_of (Sets universe most) = decimal universe ∷ decimal most ∷ []

abbrev pub curve_word : CurveKind → List ℕ
curve_word Z = codes "z"
curve_word Hilbert = codes "hilbert"

-- the words spell what is asked for: each number is in decimal, and a file's name is any word that can name one
abbrev pub AreWordsFor : List (List ℕ) → Asked → Type 0
AreWordsFor words (Mem setup) =
    IsTrue (fits setup.space) × (setup.pivots ≤ PIVOT_LIMIT)
    × ((setup.pivots ≡ 0) × (words ≡ codes "mem" ∷ kind_of setup.space ∷ parameters_of setup.space)
    ⊎ (words ≡ codes "mem" ∷ kind_of setup.space ∷ (parameters_of setup.space ++ decimal setup.pivots ∷ [])))
AreWordsFor words (Make curve pivots cap space) =
    IsTrue (fits space) × (1 ≤ pivots) × (pivots ≤ PIVOT_LIMIT) × (1 ≤ cap) × (cap ≤ MEMORY_CAP)
    × ((file : List ℕ) × IsTrue (names_file file)
    × (words ≡ codes "make" ∷ file ∷ curve_word curve ∷ decimal pivots ∷ decimal cap ∷ kind_of space ∷ parameters_of space))
AreWordsFor words Run = (file : List ℕ) × IsTrue (names_file file) × (words ≡ codes "run" ∷ file ∷ [])
AreWordsFor words Check = (file : List ℕ) × IsTrue (names_file file) × (words ≡ codes "check" ∷ file ∷ [])
AreWordsFor words (Trial seed count) =
    (seed < 2 ^ 64) × (1 ≤ count) × (count ≤ MEMORY_CAP)
    × ((file : List ℕ) × IsTrue (names_file file) × (words ≡ codes "trial" ∷ file ∷ decimal seed ∷ decimal count ∷ []))
