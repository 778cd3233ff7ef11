use Rattle.std.proofs.Common.{◌≡◌, ℕ, List, ◌++◌, ◌∷◌, [], sym, ap, subst, ◌∙◌}
use Rattle.metrics_builtin.specs.Space.{dist}
use Rattle.spb_defs.specs.Pivots.{vector_of, cells_of}
use Rattle.pivot_map.specs.declared.row.Row.{Row}
use Rattle.session.specs.Store.{IsStore}
use Rattle.session.proofs.Sound.{at_place, same_store, put_state, put_sound}
use Rattle.session.proofs.store.Store.put.Goals as goal

pub returns-in_err-insert-clause-sound : goal.returns-in_err-insert-clause-sound
returns-in_err-insert-clause-sound g c =
    subst IsStore (sym (same_store c.args.self.now c.requires.sound c.args.c c.requires.collection c.index-self-c.result c.insert.new.self
    c.in_err-insert.ensures.err)) c.requires.sound

pub returns-clause-members : goal.returns-clause-members
returns-clause-members g c =
    let row : Row = record { id = c.args.id; object = c.args.object; vect = c.map_object-vect.result } in
    put_state c.args.self.now c.requires.sound c.args.c c.requires.collection row c.insert.new.self c.requires.new
    (c.in_ok-insert.ensures.ok ∙ ap (λ rows. rows ++ row ∷ []) (at_place c.args.self.now c.requires.sound c.args.c c.requires.collection c.index-self-c.result))

pub returns-clause-sound : goal.returns-clause-sound
returns-clause-sound g c =
    let store = c.args.self.now in
    let metric = c.args.metric.now in
    let row : Row = record { id = c.args.id; object = c.args.object; vect = c.map_object-vect.result } in
    let measured : row.vect ≡ cells_of (dist store.space) store.pivots.items row.object =
    c.map_object-vect.ensures.vector
    ∙ ap (λ r. vector_of (g.M.Metric.dist r.metric) c.as_slice.result.now c.as_slice-2.result.now) c.new-ruler.ensures
    ∙ ap (λ pivots. vector_of (g.M.Metric.dist metric) pivots c.as_slice-2.result.now) c.as_slice.ensures.value
    ∙ ap (vector_of (g.M.Metric.dist metric) store.pivots.items) c.as_slice-2.ensures
    ∙ ap (λ (f : List ℕ → List ℕ → ℕ). vector_of f store.pivots.items row.object) c.requires.metric.distance_is in
    put_sound store c.requires.sound c.args.c c.requires.collection row c.insert.new.self c.requires.new
    (c.in_ok-insert.ensures.ok ∙ ap (λ rows. rows ++ row ∷ []) (at_place store c.requires.sound c.args.c c.requires.collection c.index-self-c.result))
    c.requires.closed c.requires.room c.requires.object measured
