use Rattle.spb_edge.specs.Tears.{torn-same}
use Rattle.spb_edge.proofs.sure_disk.SureDiskDisk.write_at.Goals as goal

pub returns-in-Err-clause-crash : goal.returns-in-Err-clause-crash
returns-in-Err-clause-crash c = λ image left. (image, left, torn-same _ _ image)

pub returns-clause-crash : goal.returns-clause-crash
returns-clause-crash c = λ image left. (image, left, torn-same _ _ image)
