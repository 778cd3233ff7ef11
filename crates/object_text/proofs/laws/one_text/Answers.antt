use Rattle.spb_defs.specs.ObjectTexts.{read_text, text_read}
use Rattle.object_text.proofs.laws.one_text.Goals as goal

pub returns : goal.returns
returns c = λ space text object fit. (read_text space text object fit, λ h. text_read space text object fit h.0 h.1)
