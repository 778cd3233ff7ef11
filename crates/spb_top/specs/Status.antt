-- The numbers and texts of statuses.
use Rattle.std.specs.Prelude.{ℕ, List, [], ◌∷◌, ◌++◌, codes}
use Rattle.std.specs.Fmt.{decimal}
use Rattle.page_laws.specs.declared.Rule.{Rule}
use Rattle.page_laws.specs.Rules.{rule_name}
use Rattle.spb_top.specs.declared.status.Status.{Status}
use Rattle.spb_top.specs.declared.status.Status.TheVariants.{Done, Usage, NoMemory, ReadFault, WriteFault, DiskFault, NotStore, Damaged, InputLimit, TooWide, NoSample, BadSample, NotEmpty}

-- the number with which the program ends
abbrev pub code_of : Status → ℕ
code_of Done = 0
code_of Usage = 2
code_of NoMemory = 3
code_of ReadFault = 4
code_of WriteFault = 5
code_of DiskFault = 6
code_of NotStore = 7
code_of (Damaged page rule) = 8
code_of InputLimit = 9
code_of TooWide = 10
code_of NoSample = 11
code_of (BadSample line) = 12
code_of NotEmpty = 13

-- the line for a page that breaks a rule, and for a line of the input that isn't a sample
abbrev pub damaged_text : ℕ → Rule → List ℕ
damaged_text page rule = codes "spb: damaged page " ++ decimal page ++ codes " rule " ++ rule_name rule ++ 10 ∷ []

abbrev pub bad_sample_text : ℕ → List ℕ
bad_sample_text line = codes "spb: bad sample line " ++ decimal line ++ 10 ∷ []

-- the line for standard error, with its LF
abbrev pub status_text : Status → List ℕ
status_text Done = []
status_text Usage = codes "spb: usage" ++ 10 ∷ []
status_text NoMemory = codes "spb: no memory" ++ 10 ∷ []
status_text ReadFault = codes "spb: read fault" ++ 10 ∷ []
status_text WriteFault = codes "spb: write fault" ++ 10 ∷ []
status_text DiskFault = codes "spb: disk fault" ++ 10 ∷ []
status_text NotStore = codes "spb: not a store" ++ 10 ∷ []
status_text (Damaged page rule) = damaged_text page rule
status_text InputLimit = codes "spb: input limit" ++ 10 ∷ []
status_text TooWide = codes "spb: too wide" ++ 10 ∷ []
status_text NoSample = codes "spb: no sample" ++ 10 ∷ []
status_text (BadSample line) = bad_sample_text line
status_text NotEmpty = codes "spb: not empty" ++ 10 ∷ []
