use Rattle.std.proofs.Common.{rules, ◌≡◌, ◌+◌, ◌<◌, ◌≤◌, [], IsTrue, length, refl, sym, ap, subst, ◌∙◌, arith}
use Rattle.store_check.specs.Layout.{slot_pages}
use Rattle.slot_notes.specs.Notes.{AreNotes, slots_on}
use Rattle.slot_notes.proofs.Noting.{none-noted, page-begins, no-pages, all-pages, page-there}
use Rattle.slot_notes.proofs.reading.read_notes.Goals as goal

pub loop-n-init : goal.loop-n-init
loop-n-init g c =
    let none : c.new-notes.result ≡ [] = c.new-notes.ensures in
    let start : slots_on c.args.profile.now.cap 0 ≡ 0 = no-pages c.args.profile.now.cap in
    record {
      count = ap length none ∙ sym start;
      notes = λ known. subst (AreNotes c.args.profile.now c.args.keys.now.pivots.now (g.P.Pages.page_at c.args.pages.now) (slots_on c.args.profile.now.cap 0)) (sym none)
          (subst (λ k. AreNotes c.args.profile.now c.args.keys.now.pivots.now (g.P.Pages.page_at c.args.pages.now) k []) (sym start)
          (none-noted c.args.profile.now c.args.keys.now.pivots.now (g.P.Pages.page_at c.args.pages.now)));
      stay = record {
        continues = record { told = refl; map = refl; pool = refl; free_pages = refl; change = refl; calmly = g.met.P.Pages.calm_same c.args.pages.now };
        contents = λ known. refl;
        put = refl;
      };
      later = omega arith;
    }

pub get-requires : goal.get-requires
get-requires g c =
    let below : c.loop-n.n < slot_pages c.args.profile.now.cap = search rules in
    record {
      there = subst (λ has. IsTrue (has (85 + c.loop-n.n))) (sym c.loop-n.invariant.stay.continues.map)
          (page-there (g.P.Pages.has c.args.pages.now) c.args.profile.now.cap c.loop-n.n c.requires.there below);
    }

pub note_page-requires-clause-page : goal.note_page-requires-clause-page
note_page-requires-clause-page g c =
    let below : c.loop-n.n < slot_pages c.args.profile.now.cap = search rules in
    page-begins c.args.profile.now.cap c.loop-n.n below

pub loop-n-preserved : goal.loop-n-preserved
loop-n-preserved g c =
    let P = g.P.Pages in
    let pages = P.page_at c.args.pages.now in
    let so_far = c.loop-n.invariant in
    let is = c.get.ensures in
    record {
      count = c.in_ok-note_page.ensures.count;
      notes = λ known.
          c.in_ok-note_page.ensures.notes pages
          (sym (c.in_ok-get.ensures.data (subst IsTrue (sym so_far.stay.continues.told) known) ∙ ap (λ p. p (85 + c.loop-n.n)) (so_far.stay.contents known)))
          (so_far.notes known);
      stay = record {
        continues = record {
          told = is.told ∙ so_far.stay.continues.told;
          map = is.map.0 ∙ so_far.stay.continues.map;
          pool = is.map.1 ∙ so_far.stay.continues.pool;
          free_pages = is.free.0 ∙ so_far.stay.continues.free_pages;
          change = is.open.0 ∙ so_far.stay.continues.change;
          calmly = g.met.P.Pages.calm_chains c.args.pages.now c.loop-n.pages c.get.new.self so_far.stay.continues.calmly is.calm;
        };
        contents = λ known. is.pages (subst IsTrue (sym so_far.stay.continues.told) known) ∙ so_far.stay.contents known;
        put = is.open.1 ∙ so_far.stay.put;
      };
      later =
          let before = so_far.later in
          let after : P.faults c.loop-n.pages ≤ P.faults c.get.new.self = c.in_ok-get.ensures.fault in
          omega (arith, before, after);
    }

pub returns-clause-notes : goal.returns-clause-notes
returns-clause-notes g c = λ known.
    let end : slot_pages c.args.profile.now.cap ≤ c.loop-n.n = search rules in
    subst (λ k. AreNotes c.args.profile.now c.args.keys.now.pivots.now (g.P.Pages.page_at c.args.pages.now) k c.loop-n.notes)
    (all-pages c.args.profile.now.cap c.loop-n.n end) (c.loop-n.invariant.notes known)

pub returns-clause-count : goal.returns-clause-count
returns-clause-count g c =
    let end : slot_pages c.args.profile.now.cap ≤ c.loop-n.n = search rules in
    c.loop-n.invariant.count ∙ all-pages c.args.profile.now.cap c.loop-n.n end
