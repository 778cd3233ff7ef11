use Rattle.std.proofs.Common.{◌≡◌, ◌++◌, OnOk, subst, sym}
use Rattle.std.specs.Fmt.{digits}
use Rattle.spb_defs.specs.declared.Command.{Command}
use Rattle.spb_defs.specs.declared.Command.TheVariants.{Join}
use Rattle.spb_defs.specs.CommandText.{command_text}
use Rattle.trial_script.specs.Script.{trial_space}
use Rattle.trial_script.specs.Lines.{command_at}
use Rattle.trial_script.proofs.Places.{command_at-join}
use Rattle.trial_script.proofs.writing.write_command.Goals as goal

pub returns : goal.returns
unfolding digits
returns c =
    let is : command_at c.args.count c.args.place c.args.object.now ≡ Join 0 1 60 =
    command_at-join c.args.count c.args.place c.args.object.now c.if-place-count-3.false in
    subst (λ (command : Command). OnOk c.append.result (c.append.new.self ≡ c.args.text.now ++ command_text trial_space command)) (sym is) c.append.ensures.ok
