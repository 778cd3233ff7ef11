use Rattle.std.proofs.Common.{rules, ◌≡◌, ℕ, ◌-◌, Option, sym, ◌∙◌, arith}
use Rattle.std.specs.List.{prefix_len}
use Rattle.page_laws.specs.Errors.{TellsNoDamage}
use Rattle.bptree_node.specs.Nodes.{node_in}
use Rattle.bptree_node.specs.Trees.{node_branches}
use Rattle.bptree_walk.specs.Routes.{reaches, IsLastReached}
use Rattle.bptree_walk.specs.Damage.{TellsDamage}
use Rattle.bptree_walk.proofs.Down.{down_breaks, down_unsound, comes_first, comes_next, comes_to_none, comes_to_slot, ends_broken, ends_unsound}
use Rattle.bptree_walk.proofs.Staying.{live_of, stays_on, faults_on}
use Rattle.bptree_walk.proofs.Ways.{last_lower}
use Rattle.bptree_walk.proofs.finding.find.Goals as goal

pub loop-next-init : goal.loop-next-init
loop-next-init g c =
    comes_first g.P.Pages g.met.P.Pages.calm_same c.args.pages.now c.args.root c.args.key c.args.id c.in-Some.next (sym c.first_ahead.ensures ∙ c.in-Some.is)

pub loop-next-smaller : goal.loop-next-smaller
loop-next-smaller g c =
    let last : IsLastReached c.args.key c.args.id c.loop-next.next (node_branches (node_in c.find_child.new.page)) c.in-Some-2.child = search rules in
    let lower : c.in-Some-2.child.level ≡ c.loop-next.next.level - 1 =
    last_lower c.args.key c.args.id c.loop-next.next (node_branches (node_in c.find_child.new.page)) c.in-Some-2.child last
    in omega arith

pub loop-next-preserved : goal.loop-next-preserved
loop-next-preserved g c =
    let last : IsLastReached c.args.key c.args.id c.loop-next.next (node_branches (node_in c.find_child.new.page)) c.in-Some-2.child = search rules in
    comes_next g.P.Pages c.args.pages.now c.loop-next.pages c.args.root c.args.key c.args.id c.loop-next.next c.loop-next.invariant c.find_child.new.page c.in_ok-child.ensures.data
    g.met.P.Pages.calm_chains c.find_child.new.pages c.in-Some-2.child c.loop-next-test.true last c.find_child.ensures.levels c.find_child.ensures.stay c.in_ok-child.ensures.fault

pub returns-in_err-child-clause-sound : goal.returns-in_err-child-clause-sound
returns-in_err-child-clause-sound g c = λ known tree.
    let bad : TellsNoDamage c.in_err-child.field-0.0 =
    down_unsound g.P.Pages c.args.pages.now c.loop-next.pages c.args.root c.args.key c.args.id c.loop-next.next c.loop-next.invariant c.in_err-child.field-0.0 known tree
    c.in_err-child.ensures.damage
    in search (rules, bad)

pub returns-in_err-child-clause-damage : goal.returns-in_err-child-clause-damage
returns-in_err-child-clause-damage g c = λ known.
    let bad : TellsDamage (g.P.Pages.page_at c.args.pages.now) (live_of g.P.Pages c.args.pages.now) c.args.root c.in_err-child.field-0.0 =
    down_breaks g.P.Pages c.args.pages.now c.loop-next.pages c.args.root c.args.key c.args.id c.loop-next.next c.loop-next.invariant c.in_err-child.field-0.0 known
    c.in_err-child.ensures.damage
    in search (rules, bad)

pub returns-in_err-child-clause-stay : goal.returns-in_err-child-clause-stay
returns-in_err-child-clause-stay g c =
    stays_on g.P.Pages c.args.pages.now c.loop-next.pages c.loop-next.invariant.stay g.met.P.Pages.calm_chains c.find_child.new.pages c.find_child.ensures.stay

pub returns-in-None-clause-finds : goal.returns-in-None-clause-finds
returns-in-None-clause-finds g c = λ known of_tree tree.
    let none : prefix_len (reaches c.args.key c.args.id) (node_branches (node_in c.find_child.new.page)) ≡ 0 = search rules in
    comes_to_none g.P.Pages c.args.pages.now c.loop-next.pages c.args.root c.args.key c.args.id c.loop-next.next c.loop-next.invariant c.find_child.new.page c.in_ok-child.ensures.data
    of_tree known tree c.loop-next-test.true none

pub returns-in-None-clause-stay : goal.returns-in-None-clause-stay
returns-in-None-clause-stay g c =
    stays_on g.P.Pages c.args.pages.now c.loop-next.pages c.loop-next.invariant.stay g.met.P.Pages.calm_chains c.find_child.new.pages c.find_child.ensures.stay

pub returns-clause-finds : goal.returns-clause-finds
returns-clause-finds g c = λ known of_tree tree.
    comes_to_slot g.P.Pages c.args.pages.now c.loop-next.pages c.args.root c.args.key c.args.id c.loop-next.next c.loop-next.invariant of_tree c.find_in_leaf.result known tree (omega arith)
    c.find_in_leaf.ensures.slot

pub returns-clause-sound : goal.returns-clause-sound
returns-clause-sound g c = λ known tree.
    ends_unsound g.P.Pages c.args.pages.now c.loop-next.pages c.args.root c.args.key c.args.id c.loop-next.next c.loop-next.invariant (Option ℕ) c.find_in_leaf.result known tree
    c.find_in_leaf.ensures.damage

pub returns-clause-damage : goal.returns-clause-damage
returns-clause-damage g c = λ known.
    ends_broken g.P.Pages c.args.pages.now c.loop-next.pages c.args.root c.args.key c.args.id c.loop-next.next c.loop-next.invariant (Option ℕ) c.find_in_leaf.result known
    c.find_in_leaf.ensures.damage

pub returns-clause-levels : goal.returns-clause-levels
returns-clause-levels g c =
    let before = c.loop-next.invariant.levels in
    let after = c.find_in_leaf.ensures.levels in omega (arith, before, after)

pub returns-clause-stay : goal.returns-clause-stay
returns-clause-stay g c =
    stays_on g.P.Pages c.args.pages.now c.loop-next.pages c.loop-next.invariant.stay g.met.P.Pages.calm_chains c.find_in_leaf.new.pages c.find_in_leaf.ensures.stay

pub returns-clause-fault : goal.returns-clause-fault
returns-clause-fault g c =
    faults_on (Option ℕ) c.find_in_leaf.result (g.P.Pages.faults c.args.pages.now) (g.P.Pages.faults c.loop-next.pages) (g.P.Pages.faults c.find_in_leaf.new.pages) c.loop-next.invariant.faults
    c.find_in_leaf.ensures.fault
