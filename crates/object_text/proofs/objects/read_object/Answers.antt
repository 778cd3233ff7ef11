use Rattle.std.proofs.Common.{◌≡◌, Some, rules}
use Rattle.spb_defs.specs.ObjectText.{object_of}
use Rattle.spb_defs.specs.ObjectTexts.{read_text}
use Rattle.object_text.proofs.objects.read_object.Goals as goal

pub returns-clause-valid : goal.returns-clause-valid
returns-clause-valid c =
    let read : object_of c.args.space.now c.args.text.now ≡ Some c.in_ok-of.field-0 = search rules in
    (read_text c.args.space.now c.args.text.now c.in_ok-of.field-0 c.requires read).0
