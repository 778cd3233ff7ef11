use Rattle.std.proofs.Common.{rules, ◌≡◌, ℕ, ◌<◌, ◌≤◌, ◌-◌, List, [], ◌∷◌, ◌++◌, IsTrue, length, sym, subst, ◌∙◌, arith}
use Rattle.std.specs.List.Sorted.{IsPermutation}
use Rattle.page_laws.specs.Pages.{is_live, AreFree}
use Rattle.page_laws.specs.FreeLaws.{given_free, last_first}
use Rattle.page_laws.specs.PlainPages.{Plain, in_pool}
use Rattle.page_laws.proofs.Plain.{fits_one}
use Rattle.page_laws.proofs.plain_pages.PlainPagesPages.give_page.Goals as goal

pub unreachable-requires : goal.unreachable-requires
unreachable-requires c =
    let live = subst (λ (p : Plain). IsTrue (is_live (in_pool p) p.free c.args.n)) (sym c.self.view_is) c.requires.live in
    let p : Plain = record {
      pages = c.self.inside.pages.items;
      first = c.self.inside.first;
      free = c.self.inside.free.items;
      fetches = c.self.inside.fetches;
    } in
    let below : length p.free < length p.pages - p.first = fits_one p c.args.n c.self.invariant.free live in
    search (rules, below, c.self.invariant.room)

pub invariant_of-self : goal.invariant_of-self
invariant_of-self c =
    let live = subst (λ (p : Plain). IsTrue (is_live (in_pool p) p.free c.args.n)) (sym c.self.view_is) c.requires.live in
    record {
      count = c.self.invariant.count;
      free = rw c.in-Ok.ensures.items (given_free _ _ c.args.n c.self.invariant.free live);
      room = search (rules, c.push.ensures.capacity, c.self.invariant.room);
    }

pub returns-clause-given : goal.returns-clause-given
returns-clause-given c = rw (c.in-Ok.ensures.items, ← c.self.view_is) (last_first c.self.inside.free.items c.args.n)

pub returns-clause-free : goal.returns-clause-free
returns-clause-free c =
    let live = subst (λ (p : Plain). IsTrue (is_live (in_pool p) p.free c.args.n)) (sym c.self.view_is) c.requires.live in
    rw c.in-Ok.ensures.items (given_free _ _ c.args.n c.self.invariant.free live)
