use Rattle.std.proofs.Common.{◌+◌, ◌++◌, ◌∷◌, take, sym, ap, ◌∙◌, arith}
use Rattle.spb_edge.specs.Reader.{unread}
use Rattle.spb_edge.proofs.Cuts.{HasNoLf-take, HasNoLf-all, cut_at, range-later, range-empty}
use Rattle.spb_edge.proofs.reader.LineReader.scan.Goals as goal

pub returns-in_ok-line-in-Some-clause-scans : goal.returns-in_ok-line-in-Some-clause-scans
returns-in_ok-line-in-Some-clause-scans g c =
    let reader = c.args.self.now in
    let hay = unread reader in
    let found = c.in-Some.ensures in
    let later = range-later reader.buffer reader.start reader.end (c.in-Some.count + 1) in (
      take c.in-Some.count hay,
      HasNoLf-take hay c.in-Some.count (omega (arith, found.0.high)) found.0.before,
      cut_at hay c.in-Some.count found.0.high found.1 ∙ ap (λ xs. take c.in-Some.count hay ++ 10 ∷ xs) (sym later),
      λ front is. c.in_ok-line-in-Some.ensures front is,
    )

pub returns-in_ok-line-in-None-clause-scans : goal.returns-in_ok-line-in-None-clause-scans
returns-in_ok-line-in-None-clause-scans g c =
    let found = c.in-None.ensures in (
      HasNoLf-all _ found,
      range-empty c.args.self.now.buffer c.args.self.now.end,
      λ front is. c.in_ok-line-in-None.ensures front is,
    )
