-- What the matches of a command line ask for: the words are put together again.
use Rattle.std.specs.Prelude.{ℕ, List, ◌∷◌, Option, Some, None, option_and_then, option_map, codes, if◌then◌else◌}
use Rattle.std.specs.Str.{bytes_eq}
use Rattle.clap.specs.Words.{Row, Text, first_of, all_of}
use Rattle.metrics_builtin.specs.declared.Space.{Space}
use Rattle.spb_defs.specs.declared.Asked.{Asked}
use Rattle.spb_defs.specs.declared.Asked.TheVariants.{Make, Run, Check, Trial}
use Rattle.spb_defs.specs.Numbers.{number_of}
use Rattle.spb_defs.specs.Words.{mem_in, curve_in, positive_in, space_in}
use Rattle.spb_defs.specs.declared.TheConstants.{PIVOT_LIMIT, MEMORY_CAP}

-- what is there goes on
infixl 10 ◌>>=◌
abbrev pub ◌>>=◌ : {A B : Type 0} → Option A → (A → Option B) → Option B
o >>= f = option_and_then f o

-- a kind, and the words after it
abbrev pub mem_matched : List Row → Option Asked
mem_matched rows = do
  kind ← first_of (codes "kind") rows
  parameters ← all_of (codes "parameters") rows
  mem_in (kind ∷ parameters)

-- the space of a kind and its parameters
abbrev pub space_at : List Row → Option Space
space_at rows = do
  kind ← first_of (codes "kind") rows
  parameters ← all_of (codes "parameters") rows
  space_in kind parameters

-- the number from 1 to a bound at a place
abbrev pub positive_at : Text → ℕ → List Row → Option ℕ
positive_at id bound rows = do
  word ← first_of id rows
  positive_in bound word

-- a curve, pivots, a cap and a space
abbrev pub make_matched : List Row → Option Asked
make_matched rows = do
  curve ← first_of (codes "curve") rows
  c ← curve_in curve
  p ← positive_at (codes "pivots") PIVOT_LIMIT rows
  n ← positive_at (codes "cap") MEMORY_CAP rows
  option_map (λ space. Make c p n space) (space_at rows)

-- a seed and the number of objects
abbrev pub trial_matched : List Row → Option Asked
trial_matched rows = do
  seed ← first_of (codes "seed") rows
  s ← number_of seed
  option_map (λ n. Trial s n) (positive_at (codes "count") MEMORY_CAP rows)

-- the words of a subcommand
abbrev pub words_matched : Text → List Row → Option Asked
words_matched name rows =
    if bytes_eq name (codes "mem") then mem_matched rows
    else (if bytes_eq name (codes "make") then make_matched rows
    else (if bytes_eq name (codes "run") then Some Run
    else (if bytes_eq name (codes "check") then Some Check
    else (if bytes_eq name (codes "trial") then trial_matched rows else None))))

-- the subcommand and its words
abbrev pub asked_matched : Option (Text × List Row) → Option Asked
asked_matched None = None
asked_matched (Some (name, rows)) = words_matched name rows
