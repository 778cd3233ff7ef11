use Rattle.std.proofs.Common.{refl}
use Rattle.std.specs.Fmt.{digits}
use Rattle.metrics_builtin.specs.Vectors.{components, object_of_components, l1_dist}
use Rattle.answer_lists.specs.Order.{sorted_by}
use Rattle.spb_defs.specs.Scans.{range_answer, near_answer, join_answer}
use Rattle.spb_defs.specs.Choice.{chosen_places}
use Rattle.spb_defs.specs.State.{entries_in}
use Rattle.spb_defs.specs.Numbers.{number_of}
use Rattle.spb_defs.specs.ObjectText.{vector_of_text, object_of}
use Rattle.spb_defs.specs.Grammar.{add_in, range_in, near_in, join_in, command_of}
use Rattle.spb_defs.specs.Step.{reply_of, changed_state, reply, next_state}
use Rattle.trial_script.specs.Draws.{next_draw_state, draw_of, draw_state, drawn_object}
use Rattle.trial_script.specs.Script.{trial_samples, trial_state, trial_commands}
use Rattle.trial_script.specs.Totals.{summary_text}
use Rattle.trial_script.proofs.rows.worked_trials.Goals as goal

pub returns : goal.returns
unfolding digits number_of vector_of_text object_of add_in range_in near_in join_in command_of reply_of changed_state reply next_state components object_of_components l1_dist sorted_by range_answer near_answer join_answer entries_in chosen_places next_draw_state draw_of draw_state drawn_object trial_samples trial_state trial_commands summary_text
returns c = record {
  first_draw = refl;
  last_sample = refl;
  count = refl;
  first_line = refl;
  second_line = refl;
  range_line = refl;
  near_line = refl;
  join_line = refl;
  summary = refl;
  one = refl;
  eight = refl;
}
