-- The samples that the lines of a stream give.
use Rattle.std.specs.Prelude.{◌≡◌, ℕ, ◌+◌, List, ◌∷◌, ◌++◌, length, map, take, Option, Some, None, Result, Ok, Err}
use Rattle.spb_edge.specs.declared.reader.Line.{Line}
use Rattle.spb_edge.specs.declared.reader.Line.TheVariants.{Text, Long, End}
use Rattle.metrics_builtin.specs.declared.Space.{Space}
use Rattle.spb_defs.specs.declared.TheConstants.{SAMPLE_LIMIT}
use Rattle.spb_defs.specs.declared.Command.{Command}
use Rattle.spb_defs.specs.declared.Command.TheVariants.{Sample, Add, Discard, Get, Count, Range, Near, Join}
use Rattle.spb_defs.specs.declared.What.{What}
use Rattle.spb_defs.specs.Grammar.{command_of}

-- the object of a command that keeps a sample
abbrev pub sample_read : Result Command What → Option (List ℕ)
sample_read (Ok (Sample object)) = Some object
sample_read (Ok (Add c id object)) = None
sample_read (Ok (Discard c id)) = None
sample_read (Ok (Get c id)) = None
sample_read (Ok (Count c)) = None
sample_read (Ok (Range c r object)) = None
sample_read (Ok (Near c k object)) = None
sample_read (Ok (Join c d r)) = None
sample_read (Err failed) = None

-- the object of a sample line. A line that is too long, another command or no command is none.
abbrev pub sample_of : Space → Line → Option (List ℕ)
sample_of space (Text text) = sample_read (command_of space text)
sample_of space Long = None
sample_of space End = None

-- each line is a sample, and these are their objects, in their order
abbrev pub AreSampleLines : Space → List Line → List (List ℕ) → Type 0
AreSampleLines space lines objects = map (sample_of space) lines ≡ map Some objects

-- each line is a sample
abbrev pub AreAllSamples : Space → List Line → Type 0
AreAllSamples space lines = (objects : List (List ℕ)) × AreSampleLines space lines objects

-- the line with this number, counted from 1, is no sample, and those before it are
pub record IsFirstBad (space : Space) (lines : List Line) (number : ℕ) : Type 0 where
  pub before : List Line
  pub bad : Line
  pub behind : List Line
  pub split : lines ≡ before ++ bad ∷ behind
  pub number_is : number ≡ length before + 1
  pub samples : AreAllSamples space before
  pub none : sample_of space bad ≡ None

-- the samples that are kept
unfoldable pub first_kept : List (List ℕ) → List (List ℕ)
first_kept objects = take SAMPLE_LIMIT objects
