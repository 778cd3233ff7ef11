use Rattle.std.proofs.Common.{◌≡◌, ◌+◌, [], ap, ◌∙◌, arith}
use Rattle.std.specs.Prelude.{Some, slice_index_or}
use Rattle.store_format.proofs.new_file.NewFile.new.Goals as goal

pub returns : goal.returns
returns c = record {
  profile_is = c.write_profile.ensures;
  first_are = λ place lt.
      let on : 0 + place ≡ place = omega arith in
      c.pivot_page.ensures place lt ∙ ap (λ m. Some (slice_index_or c.args.pivots.now m [])) on;
  last_are = c.pivot_page-2.ensures;
  slots_are = c.free_page.ensures;
  pool = ap (λ n. 85 + n) c.slot_pages.ensures;
  total = c.file_pages.ensures;
}
