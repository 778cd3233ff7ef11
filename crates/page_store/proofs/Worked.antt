-- What the tests need of their pages.
use Rattle.std.proofs.Common.{[], ◌∷◌, refl}
use Rattle.page_laws.specs.Pages.{AreFree}
use Rattle.free_list.specs.FreeNumbers.{is_within}
use Rattle.std.specs.List.{IsDistinct}

-- two pages of a pool of four
pub two_free : AreFree (is_within 86 4) (86 ∷ 89 ∷ [])
unfolding IsDistinct
two_free = record { pool = (refl, (refl, tt)); distinct = ((refl, tt), (tt, tt)) }
