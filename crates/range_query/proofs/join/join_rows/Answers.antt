use Rattle.std.proofs.Common.{[], ◌+◌, ◌++◌, length, List, refl, sym, subst, ◌∙◌, arith}
use Rattle.pivot_map.specs.BoundLaws.{bounds_hold}
use Rattle.pivot_map.specs.declared.row.Row.{Row}
use Rattle.query_pass.specs.Findings.{PassesOver, MeasuresOpen}
use Rattle.query_pass.specs.Pairs.{verdict_of_pair, pair_ids, pair_objects}
use Rattle.query_pass.specs.PassLaws.{PassesOver-none, MeasuresOpen-none, PassesOver-then, MeasuresOpen-then, MeasuresOpen-few, evals-few, sure-few}
use Rattle.range_query.specs.Passes.{AreAlike, pairs_of}
use Rattle.range_query.proofs.Passing.{passed-more, passed-room, passed-all}
use Rattle.range_query.proofs.Joins.{partners-alike, join-answer, join-log}
use Rattle.range_query.proofs.join.join_rows.Goals as goal

pub loop-i-init : goal.loop-i-init
loop-i-init g c =
    let ruler = g.R.Ruler in
    let start = c.args.ruler.now in
    let dist = ruler.dist (ruler.kind start) in (
      [],
      record {
        whole = refl;
        same_kind = refl;
        found = PassesOver-none (verdict_of_pair dist c.args.r) pair_ids c.new-found.result;
        measured = MeasuresOpen-none (verdict_of_pair dist c.args.r) pair_objects (ruler.count start) (ruler.log start);
      },
    )

pub pair_up-requires-clause-others : goal.pair_up-requires-clause-others
pair_up-requires-clause-others g c =
    let ruler = g.R.Ruler in
    let kind = ruler.kind c.args.ruler.now in
    let alike = partners-alike (ruler.admitted kind) (ruler.dist kind) c.args.pivots.now c.args.left.now c.args.right.now c.loop-i.i (c.loop-i.i + 1)
    c.index-left-i.result c.args.same c.partners-others.result.now c.requires.left c.requires.right (omega arith)
    c.index-left-i.is c.partners-others.ensures in
    subst (λ k. AreAlike (ruler.admitted k) (length c.index-left-i.result.vect) c.partners-others.result.now) (sym c.loop-i.invariant.1.same_kind) alike

pub pair_up-requires-clause-room : goal.pair_up-requires-clause-room
pair_up-requires-clause-room g c =
    let seen = c.loop-i.invariant.0 in
    let kept = c.loop-i.invariant.1 in
    let more = passed-more c.args.same c.args.left.now c.args.right.now c.loop-i.i c.index-left-i.result c.partners-others.result.now seen c.requires.same
    (omega arith) c.index-left-i.is c.partners-others.ensures kept.whole in
    let few = MeasuresOpen-few _ _ _ _ _ _ _ kept.measured in
    let room = passed-room c.args.same c.args.left.now c.args.right.now (c.loop-i.i + 1)
    c.index-left-i.result c.partners-others.result.now seen more c.requires.left.few c.requires.right.few in
    let first = c.requires.room in omega (arith, few, room, first)

pub pair_up-requires-clause-evals : goal.pair_up-requires-clause-evals
pair_up-requires-clause-evals g c =
    let seen = c.loop-i.invariant.0 in
    let kept = c.loop-i.invariant.1 in
    let more = passed-more c.args.same c.args.left.now c.args.right.now c.loop-i.i c.index-left-i.result c.partners-others.result.now seen c.requires.same
    (omega arith) c.index-left-i.is c.partners-others.ensures kept.whole in
    let few = evals-few _ _ _ _ _ kept.found in
    let room = passed-room c.args.same c.args.left.now c.args.right.now (c.loop-i.i + 1)
    c.index-left-i.result c.partners-others.result.now seen more c.requires.left.few c.requires.right.few in
    let first = c.new-found.ensures.evals in omega (arith, few, room, first)

pub pair_up-requires-clause-sure : goal.pair_up-requires-clause-sure
pair_up-requires-clause-sure g c =
    let seen = c.loop-i.invariant.0 in
    let kept = c.loop-i.invariant.1 in
    let more = passed-more c.args.same c.args.left.now c.args.right.now c.loop-i.i c.index-left-i.result c.partners-others.result.now seen c.requires.same
    (omega arith) c.index-left-i.is c.partners-others.ensures kept.whole in
    let few = sure-few _ _ _ _ _ kept.found in
    let room = passed-room c.args.same c.args.left.now c.args.right.now (c.loop-i.i + 1)
    c.index-left-i.result c.partners-others.result.now seen more c.requires.left.few c.requires.right.few in
    let first = c.new-found.ensures.sure in omega (arith, few, room, first)

pub loop-i-preserved : goal.loop-i-preserved
loop-i-preserved g c =
    let ruler = g.R.Ruler in
    let kind = ruler.kind c.args.ruler.now in
    let start = c.args.ruler.now in
    let amid = c.loop-i.ruler in
    let now = c.pair_up.new.ruler in
    let verdict = verdict_of_pair (ruler.dist kind) c.args.r in
    let here = pairs_of c.args.same c.partners-others.result.now c.index-left-i.result in
    let seen = c.loop-i.invariant.0 in
    let kept = c.loop-i.invariant.1 in
    let more = passed-more c.args.same c.args.left.now c.args.right.now c.loop-i.i c.index-left-i.result c.partners-others.result.now seen c.requires.same
    (omega arith) c.index-left-i.is c.partners-others.ensures kept.whole in
    let found = subst (λ k. PassesOver (verdict_of_pair (ruler.dist k) c.args.r) pair_ids here c.loop-i.found c.pair_up.new.found)
    kept.same_kind c.in_ok-pair_up.ensures.found in
    let measured = subst (λ k. MeasuresOpen (verdict_of_pair (ruler.dist k) c.args.r) pair_objects here (ruler.count amid) (ruler.log amid) (ruler.count now)
    (ruler.log now)) kept.same_kind c.in_ok-pair_up.ensures.measured in (
      seen ++ here,
      record {
        whole = more;
        same_kind = c.pair_up.ensures.ruler.0 ∙ kept.same_kind;
        found = PassesOver-then verdict pair_ids seen here c.new-found.result c.loop-i.found c.pair_up.new.found kept.found found;
        measured = MeasuresOpen-then verdict pair_objects seen here (ruler.count start) (ruler.log start) (ruler.count amid) (ruler.log amid) (ruler.count now)
            (ruler.log now) kept.measured measured;
      },
    )

pub returns-clause-answer : goal.returns-clause-answer
returns-clause-answer g c =
    let ruler = g.R.Ruler in
    let kind = ruler.kind c.args.ruler.now in
    let bounds = bounds_hold (ruler.admitted kind) (ruler.dist kind) (g.met.R.Ruler.ruler_laws kind) c.args.pivots.now c.requires.pivots.objects in
    let kept = c.loop-i.invariant.1 in
    let all = passed-all c.args.same c.args.left.now c.args.right.now c.loop-i.i c.loop-i.invariant.0 (omega arith) kept.whole in
    let found = subst (λ (pairs : List (Row × Row)). PassesOver (verdict_of_pair (ruler.dist kind) c.args.r) pair_ids pairs c.new-found.result c.loop-i.found)
    all kept.found in
    join-answer (ruler.admitted kind) (ruler.dist kind)
    c.args.pivots.now bounds c.args.left.now c.args.right.now c.requires.left c.requires.right c.args.same c.requires.same c.args.r
    c.new-found.result c.loop-i.found c.new-found.ensures.kept c.new-found.ensures.evals c.new-found.ensures.sure found _ (c.from.ensures ∙ c.arrange.ensures)

pub returns-clause-log : goal.returns-clause-log
returns-clause-log g c =
    let ruler = g.R.Ruler in
    let kind = ruler.kind c.args.ruler.now in
    let bounds = bounds_hold (ruler.admitted kind) (ruler.dist kind) (g.met.R.Ruler.ruler_laws kind) c.args.pivots.now c.requires.pivots.objects in
    let kept = c.loop-i.invariant.1 in
    let all = passed-all c.args.same c.args.left.now c.args.right.now c.loop-i.i c.loop-i.invariant.0 (omega arith) kept.whole in
    let start = c.args.ruler.now in
    let now = c.loop-i.ruler in
    let measured = subst (λ (pairs : List (Row × Row)). MeasuresOpen (verdict_of_pair (ruler.dist kind) c.args.r) pair_objects pairs (ruler.count start)
    (ruler.log start) (ruler.count now) (ruler.log now)) all kept.measured in
    join-log (ruler.admitted kind) (ruler.dist kind)
    c.args.pivots.now bounds c.args.left.now c.args.right.now c.requires.left c.requires.right c.args.same c.requires.same c.args.r (ruler.count start)
    (ruler.log start) (ruler.count now) (ruler.log now) measured
