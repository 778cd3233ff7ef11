use Rattle.std.proofs.Common.{rules}
use Rattle.spb_edge.specs.Reader.{rest, faults}
use Rattle.sample_lines.proofs.Reading.{completed}
use Rattle.sample_lines.proofs.samples.read_samples.Goals as goal

pub returns-clause-complete : goal.returns-clause-complete
returns-clause-complete g c =
    let done = completed c.samples_of_lines.result c.args.space.now (rest c.in-Ok.reader) (g.S.Source.left c.samples_of_lines.new.reader.source.now)
    (faults c.in-Ok.reader) (faults c.samples_of_lines.new.reader) c.samples_of_lines.ensures.answer c.samples_of_lines.ensures.cause in
    search (rules, done)
