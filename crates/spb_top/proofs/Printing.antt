-- What was written of a line that is the end of the work.
use Rattle.std.proofs.Common.{List, ℕ, Option}
use Rattle.spb_top.specs.declared.status.Status.{Status}
use Rattle.spb_top.specs.declared.status.Status.TheVariants.{Done, Usage, NoMemory, ReadFault, WriteFault, DiskFault, NotStore, Damaged, InputLimit, TooWide, NoSample, BadSample, NotEmpty}
use Rattle.spb_top.specs.Written.{PrintsLine, WritesLine}

-- a line that was put is the one that was to be written
pub prints : (IsLine : List ℕ → Type 0) (line : List ℕ) (status : Status) (old new : Option (List ℕ)) → IsLine line → PrintsLine line status old new
    → WritesLine IsLine status old new
prints IsLine line Done old new is put = (line, is, put)
prints IsLine line WriteFault old new is put = (line, is, put)
prints IsLine line Usage old new is put = absurd put
prints IsLine line NoMemory old new is put = absurd put
prints IsLine line ReadFault old new is put = absurd put
prints IsLine line DiskFault old new is put = absurd put
prints IsLine line NotStore old new is put = absurd put
prints IsLine line (Damaged page rule) old new is put = absurd put
prints IsLine line InputLimit old new is put = absurd put
prints IsLine line TooWide old new is put = absurd put
prints IsLine line NoSample old new is put = absurd put
prints IsLine line (BadSample number) old new is put = absurd put
prints IsLine line NotEmpty old new is put = absurd put

-- what is such a line is also another
pub prints-weaker : (IsLine IsOther : List ℕ → Type 0) (status : Status) (old new : Option (List ℕ)) → ((line : List ℕ) → IsLine line → IsOther line)
    → WritesLine IsLine status old new → WritesLine IsOther status old new
prints-weaker IsLine IsOther Done old new of (line, is, put) = (line, of line is, put)
prints-weaker IsLine IsOther WriteFault old new of (line, is, put) = (line, of line is, put)
prints-weaker IsLine IsOther Usage old new of same = same
prints-weaker IsLine IsOther NoMemory old new of same = same
prints-weaker IsLine IsOther ReadFault old new of same = same
prints-weaker IsLine IsOther DiskFault old new of same = same
prints-weaker IsLine IsOther NotStore old new of same = same
prints-weaker IsLine IsOther (Damaged page rule) old new of same = same
prints-weaker IsLine IsOther InputLimit old new of same = same
prints-weaker IsLine IsOther TooWide old new of same = same
prints-weaker IsLine IsOther NoSample old new of same = same
prints-weaker IsLine IsOther (BadSample number) old new of same = same
prints-weaker IsLine IsOther NotEmpty old new of same = same
