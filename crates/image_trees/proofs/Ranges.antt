-- Sets of the same range.
use Rattle.std.proofs.Common.{◌≡◌, ℕ, ◌+◌, Bool, ◌&&◌, length, refl, sym, subst, ◌∙◌}
use Rattle.std.specs.Prelude.{nat_le, nat_lt, IsTrue}
use Rattle.tree_check.specs.PageSets.{Marks, covers, CoversPool, HasSameRange}

pub same-range : (s : Marks) → HasSameRange s s
same-range s = record { first = refl; count = refl }

pub range-on : (a b c : Marks) → HasSameRange a b → HasSameRange b c → HasSameRange a c
range-on a b c first second = record { first = second.first ∙ first.first; count = second.count ∙ first.count }

-- what one covers the other covers
pub covers-moved : (a b : Marks) (n : ℕ) → HasSameRange a b → IsTrue (covers a n) → IsTrue (covers b n)
covers-moved a b n range is =
    subst (λ (first : ℕ). IsTrue (nat_le first n && nat_lt n (first + length b.marks))) (sym range.first)
    (subst (λ (count : ℕ). IsTrue (nat_le a.first n && nat_lt n (a.first + count))) (sym range.count) is)

pub pool-moved : (old_pool new_pool : ℕ → Bool) (a b : Marks) → new_pool ≡ old_pool → HasSameRange a b → CoversPool old_pool a → CoversPool new_pool b
pool-moved old_pool new_pool a b same range covered = λ n is.
    covers-moved a b n range (covered n (subst (λ (pool : ℕ → Bool). IsTrue (pool n)) same is))
