use Rattle.std.proofs.Common.{rules, ◌≡◌, ℕ, ◌-◌, List, length, replicate, ap, sym, ◌∙◌, subst, arith}
use Rattle.std.specs.List.{range_with_len}
use Rattle.std.proofs.lemmas.List.{length-replicate}
use Rattle.page_laws.specs.PlainPages.{Plain}
use Rattle.page_laws.proofs.Plain.{all_free}
use Rattle.page_laws.proofs.plain_pages.PlainPages.new.Goals as goal

pub invariant_of-result : goal.invariant_of-result
invariant_of-result c =
    let p : Plain = record { pages = c.in_ok-zero_pages.field-0.items; first = c.args.first; free = c.in_ok-free.free.items; fetches = 0 } in
    let count : length p.pages ≡ c.args.pages = ap length c.in_ok-zero_pages.ensures ∙ length-replicate c.args.pages _ in
    record {
      count = omega (arith, count, c.ranges.pages);
      free = all_free p (c.in_ok-free.ensures.0 ∙ ap (λ n. range_with_len c.args.first (n - c.args.first)) (sym count));
      room = search (rules, count, c.in_ok-free.ensures.1);
    }
