use Rattle.std.proofs.Common.{sym, subst}
use Rattle.curve_laws.specs.Grid.{IsCell}
use Rattle.join_window.proofs.Reaches.{corner-is_cell}
use Rattle.join_window.proofs.corner.reach.Goals as goal

pub key-requires : goal.key-requires
key-requires c =
    let n = c.args.curve.now.n in
    let b = c.args.curve.now.b in
    subst (IsCell n b) (sym c.upper_corner.ensures) (corner-is_cell n b c.args.r c.args.cell.now c.requires)
