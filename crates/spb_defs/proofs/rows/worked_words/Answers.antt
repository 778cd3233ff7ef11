use Rattle.std.proofs.Common.{refl}
use Rattle.std.specs.Fmt.{digits}
use Rattle.spb_defs.specs.Numbers.{number_of}
use Rattle.spb_defs.specs.Words.{asked_of}
use Rattle.spb_defs.proofs.rows.worked_words.Goals as goal

pub returns : goal.returns
unfolding digits number_of asked_of
returns c = record {
  mem = refl;
  pivots = refl;
  nine = refl;
  wide = refl;
  make = refl;
  hilbert = refl;
  no_pivots = refl;
  no_room = refl;
  too_large = refl;
  one_more = refl;
  run = refl;
  check = refl;
  dash = refl;
  nameless = refl;
  fileless = refl;
  trial = refl;
  seed = refl;
  none = refl;
  help = refl;
  wordless = refl;
}
