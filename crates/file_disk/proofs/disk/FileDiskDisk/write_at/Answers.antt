use Rattle.spb_edge.specs.Tears.{torn-same}
use Rattle.file_disk.proofs.disk.FileDiskDisk.write_at.Goals as goal

pub returns-in-Ok-clause-crash : goal.returns-in-Ok-clause-crash
returns-in-Ok-clause-crash g c = λ image left. (image, left, torn-same _ _ image)

pub returns-in-Err-clause-crash : goal.returns-in-Err-clause-crash
returns-in-Err-clause-crash g c = λ image left. (image, left, torn-same _ _ image)
