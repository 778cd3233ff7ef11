use Rattle.std.proofs.Common.{◌≡◌, ◌+◌, ◌*◌, ◌-◌, length, take, drop, ap, ◌∙◌, arith, rules, vec_len}
use Rattle.std.proofs.lemmas.Result.{on_ok_weaker}
use Rattle.std.proofs.lemmas.List.{length-take-le, length-drop}
use Rattle.redo_journal.proofs.Load.{behind_header}
use Rattle.redo_journal.proofs.staged.read_images.Goals as goal

pub returns-clause-images : goal.returns-clause-images
returns-clause-images g c = λ tells.
    let lent = c.deref_mut.result.now in
    let long : length lent ≡ 512 * (1 + c.args.count) = search rules in
    let resized : vec_len c.resize.new.self ≡ 512 * (1 + c.args.count) = search rules in
    let size : vec_len c.resize.new.self ≡ 512 + 512 * c.args.count = omega (arith, resized) in
    let part : length (take (length lent - 512) (drop 512 lent)) ≡ 512 * c.args.count =
    length-take-le (length lent - 512) (drop 512 lent) (omega (arith, long, length-drop 512 lent)) ∙ omega (arith, long) in
    on_ok_weaker c.read_piece.result
    (λ read. behind_header (take 512 lent) c.read_piece.new.into _ _ (512 * c.args.count) _ (length-take-le 512 lent (omega (arith, long)))
    (c.read_piece.ensures.filled ∙ part) size
    ∙ read ∙ ap (λ k. take k (drop 2560 (g.D.Disk.image c.args.disk.now))) part)
    (c.read_piece.ensures.data tells)
