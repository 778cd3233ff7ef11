use Rattle.std.proofs.Common.{arith}
use Rattle.store_check.proofs.Writing.{page_read}
use Rattle.store_check.proofs.profile_page.write_profile.Goals as goal

pub returns : goal.returns
returns c = page_read c.args.profile.now c.numbers_of-space.result.kind c.number_of_curve.result c.numbers_of-space.result.first c.numbers_of-space.result.second
    c.numbers_bytes.result c.roots_bytes.result c.lay.new.page c.requires c.numbers_of-space.ensures c.number_of_curve.ensures c.numbers_bytes.ensures.bytes
    c.numbers_bytes.ensures.fits (omega arith) c.roots_bytes.ensures c.lay.ensures
