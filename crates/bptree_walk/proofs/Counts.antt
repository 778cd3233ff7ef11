-- Fetches are counted.
use Rattle.std.proofs.Common.{◌≡◌, ℕ, ◌+◌, ◌-◌, ap, ◌∙◌, arith}
use Rattle.page_laws.specs.Pages.{risen, count_after, count_after-add}
use Rattle.bptree_walk.specs.Courses.{Course}
use Rattle.bptree_walk.specs.Steps.{CountsFetches}

pub none_counted : (old new : Course) (before : ℕ) → new.fetched ≡ old.fetched → CountsFetches old new before before
none_counted old new before same =
    let none : 0 ≡ new.fetched - old.fetched = omega (arith, same) in record { least = omega (arith, same); fetches = ap (count_after before) none }

pub one_counted : (old new : Course) (before now : ℕ) → new.fetched ≡ old.fetched + 1 → now ≡ risen before 1 → CountsFetches old new before now
one_counted old new before now more is =
    let one : 1 ≡ new.fetched - old.fetched = omega (arith, more) in record { least = omega (arith, more); fetches = is ∙ ap (count_after before) one }

-- one after the other
pub counted_on : (old mid new : Course) (before middle now : ℕ) → CountsFetches old mid before middle → CountsFetches mid new middle now → CountsFetches old new before now
counted_on old mid new before middle now first second =
    let one = first.least in
    let two = second.least in
    let total : (mid.fetched - old.fetched) + (new.fetched - mid.fetched) ≡ new.fetched - old.fetched = omega (arith, one, two) in
    record {
      least = omega (arith, one, two);
      fetches =
          second.fetches ∙ ap (λ n. count_after n (new.fetched - mid.fetched)) first.fetches
          ∙ count_after-add before (mid.fetched - old.fetched) (new.fetched - mid.fetched) ∙ ap (count_after before) total;
    }
