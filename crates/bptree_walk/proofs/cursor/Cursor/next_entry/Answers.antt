use Rattle.std.proofs.Common.{Option, option_to_list}
use Rattle.bptree_node.specs.declared.rows.Entry.{Entry}
use Rattle.bptree_walk.proofs.Staying.{live_of}
use Rattle.bptree_walk.proofs.Whole.{all_boxes, all_keys, next_given, next_nodes, next_ended, step_sound, step_part, step_alive}
use Rattle.bptree_walk.proofs.cursor.Cursor.next_entry.Goals as goal

pub returns-clause-gives : goal.returns-clause-gives
returns-clause-gives g c = λ known.
    next_given (g.P.Pages.page_at c.args.pages.now) (live_of g.P.Pages c.args.pages.now) c.args.self.now c.next_in.new.self c.next_in.result (c.next_in.ensures.steps known) c.next_in.ensures.ended

pub returns-clause-nodes : goal.returns-clause-nodes
returns-clause-nodes g c = λ known.
    next_nodes (g.P.Pages.page_at c.args.pages.now) (live_of g.P.Pages c.args.pages.now) c.args.self.now c.next_in.new.self c.next_in.result (c.next_in.ensures.steps known)

pub returns-clause-ended : goal.returns-clause-ended
returns-clause-ended g c = λ pages. next_ended pages c.next_in.result c.next_in.new.self c.next_in.ensures.ended

pub returns-clause-sound : goal.returns-clause-sound
returns-clause-sound g c = λ known sound.
    step_sound (g.P.Pages.page_at c.args.pages.now) (live_of g.P.Pages c.args.pages.now) all_boxes all_keys c.args.self.now c.next_in.new.self (Option Entry) option_to_list c.next_in.result
    (c.next_in.ensures.steps known) sound

pub returns-clause-part : goal.returns-clause-part
returns-clause-part g c = λ known root part.
    step_part (g.P.Pages.page_at c.args.pages.now) (live_of g.P.Pages c.args.pages.now) all_boxes all_keys c.args.self.now c.next_in.new.self (Option Entry) option_to_list c.next_in.result
    (c.next_in.ensures.steps known) root part

pub returns-clause-live : goal.returns-clause-live
returns-clause-live g c = λ known alive.
    step_alive (g.P.Pages.page_at c.args.pages.now) (live_of g.P.Pages c.args.pages.now) all_boxes all_keys c.args.self.now c.next_in.new.self (Option Entry) option_to_list c.next_in.result
    (c.next_in.ensures.steps known) alive
