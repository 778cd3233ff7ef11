use Rattle.std.proofs.Common.{ℕ, ◌≤◌, ◌-◌, length, arith}
use Rattle.page_laws.specs.PlainPages.{Plain}
use Rattle.page_laws.proofs.Plain.{fits}
use Rattle.page_laws.proofs.plain_pages.PlainPagesPages.free_pages.Goals as goal

pub overflow_cast-result : goal.overflow_cast-result
overflow_cast-result c =
    let p : Plain = record {
      pages = c.self.inside.pages.items;
      first = c.self.inside.first;
      free = c.self.inside.free.items;
      fetches = c.self.inside.fetches;
    } in
    let few : length p.free ≤ length p.pages - p.first = fits p c.self.invariant.free in
    omega (arith, c.len.ensures, c.self.invariant.count, few)
