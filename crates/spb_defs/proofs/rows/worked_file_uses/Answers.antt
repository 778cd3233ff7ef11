use Rattle.std.proofs.Common.{refl}
use Rattle.std.specs.Fmt.{digits}
use Rattle.spb_defs.specs.Numbers.{number_of}
use Rattle.spb_defs.specs.Words.{asked_of}
use Rattle.spb_defs.proofs.rows.worked_file_uses.Goals as goal

pub returns : goal.returns
unfolding digits number_of asked_of
returns c = record {
  mem = refl;
  make = refl;
  run = refl;
  check = refl;
  trial = refl;
  dash = refl;
  no_room = refl;
  nameless = refl;
  wordless = refl;
}
