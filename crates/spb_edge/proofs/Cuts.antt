-- A list that is cut at its first LF.
use Rattle.std.proofs.Common.{◌≡◌, ℕ, suc, ◌+◌, ◌-◌, ◌<◌, ◌≤◌, Bool, true, false, List, [], ◌∷◌, ◌++◌, length, get_or, take, drop, refl, sym, ap, ◌∙◌, add-one, arith}
use Rattle.std.specs.List.{slice_range}
use Rattle.std.proofs.lemmas.List.{take-append-drop, get_or-take, drop-drop, get_or_default, length-take}
use Rattle.std.proofs.lemmas.Slice.{between_is}
use Rattle.std.proofs.Math.Seq.{drop-cons}
use Rattle.std.proofs.lemmas.Bool.Decides.{nat_tests}
use Rattle.memchr.specs.Find.{Nowhere, Passes, is_byte}
use Rattle.spb_edge.specs.Lines.{is_lf, HasNoLf}

not_true : (b : Bool) → (b ≡ true → ⊥) → b ≡ false
not_true true h = absurd (h refl)
not_true false h = refl

-- a prefix with an LF at none of its places has none
pub HasNoLf-take : (hay : List ℕ) (n : ℕ) → n ≤ length hay → Nowhere (Passes (is_byte 10) hay) 0 n → HasNoLf (take n hay)
HasNoLf-take hay n within nowhere = λ k d below.
    let inside : k < n = omega (arith, length-take n hay) in
    let known : is_lf (get_or hay k 0) ≡ false = not_true _ (nowhere k (omega arith) inside) in
    ap is_lf (get_or-take n hay k d inside ∙ get_or_default hay k d 0 (omega arith)) ∙ known

pub HasNoLf-all : (hay : List ℕ) → Nowhere (Passes (is_byte 10) hay) 0 (length hay) → HasNoLf hay
HasNoLf-all hay nowhere = λ k d below. ap is_lf (get_or_default hay k d 0 below) ∙ not_true _ (nowhere k (omega arith) below)

-- a list around the LF at a place
pub cut_at : (hay : List ℕ) (n : ℕ) → n < length hay → Passes (is_byte 10) hay n → hay ≡ take n hay ++ 10 ∷ drop (n + 1) hay
cut_at hay n within passes =
    let ten : get_or hay n 0 ≡ 10 = grind (arith, nat_tests) in
    let after : drop n hay ≡ 10 ∷ drop (n + 1) hay = rw (add-one, drop-cons hay n 0 within) (ap (λ x. x ∷ drop (suc n) hay) ten) in
    sym (take-append-drop n hay) ∙ ap (λ xs. take n hay ++ xs) after

-- what a part has after its first k
pub range-later : (xs : List ℕ) (from to k : ℕ) → slice_range xs (from + k) to ≡ drop k (slice_range xs from to)
range-later xs from to k =
    between_is xs (from + k) to ∙ sym (drop-drop k from (take to xs)) ∙ ap (drop k) (sym (between_is xs from to))

-- the part up to a place from that place on
pub range-empty : (xs : List ℕ) (at : ℕ) → slice_range xs at at ≡ []
range-empty xs at = let none : at - at ≡ 0 = omega arith in ap (λ n. take n (drop at xs)) none
