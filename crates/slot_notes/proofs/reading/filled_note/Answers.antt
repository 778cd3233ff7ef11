use Rattle.std.proofs.Common.{rules, ◌≡◌, ap, ◌∙◌}
use Rattle.spb_defs.specs.Pivots.{vector_of}
use Rattle.slot_notes.proofs.Noting.{vector_is_cell}
use Rattle.slot_notes.proofs.reading.filled_note.Goals as goal

pub key-requires : goal.key-requires
key-requires g c =
    let M = g.M.Metric in
    let C = g.C.Curve in
    let keys = c.args.keys.now in
    let same : c.new.result.metric ≡ keys.metric = search rules in
    vector_is_cell (M.admitted keys.metric) (M.dist keys.metric) (C.axes keys.curve.now) (C.bits keys.curve.now) (C.key_of keys.curve.now) (C.cell_of keys.curve.now)
    c.args.profile.now keys.pivots.now c.requires.keys c.args.object.now (search rules) c.map_object-cells.result (c.map_object-cells.ensures.vector ∙ ap (λ m. vector_of (M.dist m) keys.pivots.now c.args.object.now) same)
