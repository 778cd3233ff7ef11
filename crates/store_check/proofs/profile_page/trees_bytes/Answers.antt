use Rattle.std.proofs.Common.{◌≡◌, ◌++◌, ◌∙◌}
use Rattle.store_check.specs.Profile.{trees_in}
use Rattle.store_check.proofs.Writing.{root_bytes, trees_read}
use Rattle.store_check.proofs.profile_page.trees_bytes.Goals as goal

pub returns : goal.returns
returns c = λ rest.
    let front : c.copy_from_slice.new.self ≡ root_bytes c.args.curve = c.copy_from_slice.ensures.after ∙ c.root_bytes.ensures.bytes in
    let back : c.copy_from_slice-2.new.self ≡ root_bytes c.args.ids = c.copy_from_slice-2.ensures.after ∙ c.root_bytes-2.ensures.bytes in
    (λ i. trees_in (front i ++ back i ++ rest))
    ∙ trees_read c.args.curve c.args.ids rest c.root_bytes.ensures.fits c.root_bytes-2.ensures.fits c.requires.roots.0 c.requires.roots.1 c.requires.paired
