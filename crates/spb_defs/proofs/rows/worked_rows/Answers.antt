use Rattle.std.proofs.Common.{refl}
use Rattle.std.specs.Fmt.{digits}
use Rattle.metrics_builtin.specs.Vectors.{components, object_of_components, l1_dist}
use Rattle.answer_lists.specs.Order.{sorted_by}
use Rattle.spb_edge.specs.Lines.{lines_of}
use Rattle.spb_defs.specs.Scans.{range_answer, near_answer, join_answer}
use Rattle.spb_defs.specs.Choice.{chosen_places}
use Rattle.spb_defs.specs.State.{entries_in}
use Rattle.spb_defs.specs.Numbers.{number_of}
use Rattle.spb_defs.specs.ObjectText.{vector_of_text, object_of}
use Rattle.spb_defs.specs.Grammar.{sample_in, add_in, drop_in, get_in, count_in, range_in, near_in, join_in, command_of}
use Rattle.spb_defs.specs.ReplyText.{reply_text}
use Rattle.spb_defs.specs.Step.{reply_of, changed_state, reply, next_state}
use Rattle.spb_defs.proofs.rows.worked_rows.Goals as goal

pub returns : goal.returns
unfolding digits number_of vector_of_text object_of sample_in add_in drop_in get_in count_in range_in near_in join_in command_of reply_text reply_of changed_state reply next_state lines_of components object_of_components l1_dist sorted_by range_answer near_answer join_answer entries_in chosen_places
returns c = record { added = refl; exists = refl; within = refl; refused = refl; dropped = refl; nearest = refl; joined = refl; long = refl; unended = refl }
