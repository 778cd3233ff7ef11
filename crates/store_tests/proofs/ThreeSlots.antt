-- What the tests owe: three slots on a page of pages in memory.
use Rattle.std.proofs.Common.{◌≡◌, ℕ, ◌<◌, Bool, IsTrue, [], ◌∷◌, length, refl, sym, subst, ap, ◌∙◌, arith}
use Rattle.std.specs.Prelude.{replicate}
use Rattle.std.specs.List.{IsDistinct}
use Rattle.std.proofs.lemmas.Bool.Decides.{nat_tests}
use Rattle.std.proofs.lemmas.List.{length-replicate}
use Rattle.page_laws.specs.Pages.{AreFree}
use Rattle.page_laws.specs.PlainPages.{Plain, has, zeros}
use Rattle.object_file.specs.ObjectFile.{is_slot, slot_page, HasSlots}

pub one_free : AreFree (is_slot 3) (0 ∷ [])
unfolding IsDistinct
one_free = record { pool = (refl, tt); distinct = (tt, tt) }

pub two_free : AreFree (is_slot 3) (0 ∷ 2 ∷ [])
unfolding IsDistinct
two_free = record { pool = (refl, (refl, tt)); distinct = ((refl, tt), (tt, tt)) }

-- pages with the same numbers as 86 new ones have three slots
pub three_slots : (old new : Plain) (cap : ℕ) → old ≡ zeros 86 86 → has new ≡ has old → cap ≡ 3 → HasSlots (has new) cap
three_slots old new cap is same three slot below =
    let few : slot < 3 = subst (λ n. slot < n) three below in
    let long : length old.pages ≡ 86 = ap (λ (p : Plain). length p.pages) is ∙ length-replicate 86 (replicate {A = ℕ} 512 0) in
    let inside : slot_page slot < length old.pages = omega (arith, few, long) in
    subst (λ (h : ℕ → Bool). IsTrue (h (slot_page slot))) (sym same) (grind (arith, nat_tests, inside))
