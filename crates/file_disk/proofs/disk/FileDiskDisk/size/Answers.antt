use Rattle.file_disk.proofs.Lengths.{answers_found}
use Rattle.file_disk.proofs.disk.FileDiskDisk.size.Goals as goal

pub returns-clause-answer : goal.returns-clause-answer
returns-clause-answer g c = answers_found c.args.self.now.file _ c.length-length.result _ c.length-length.ensures c.counted.ensures.outcome
