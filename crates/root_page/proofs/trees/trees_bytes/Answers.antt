use Rattle.std.proofs.Common.{◌≡◌, ◌++◌, ◌∙◌}
use Rattle.store_check.specs.Profile.{trees_in}
use Rattle.store_check.proofs.Writing.{root_bytes, trees_read}
use Rattle.root_page.proofs.trees.trees_bytes.Goals as goal

pub returns : goal.returns
returns c = λ are rest.
    let front : c.copy_from_slice.new.self ≡ root_bytes c.args.trees.curve = c.copy_from_slice.ensures.after ∙ c.root_bytes.ensures.bytes in
    let back : c.copy_from_slice-2.new.self ≡ root_bytes c.args.trees.ids = c.copy_from_slice-2.ensures.after ∙ c.root_bytes-2.ensures.bytes in
    (λ i. trees_in (front i ++ back i ++ rest))
    ∙ trees_read c.args.trees.curve c.args.trees.ids rest c.root_bytes.ensures.fits c.root_bytes-2.ensures.fits are.curve_is are.ids_is are.paired
