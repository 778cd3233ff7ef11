-- A vector by its fields: how many coordinates, and eight places for them.
use Rattle.std.specs.Prelude.{◌≡◌, ℕ, ◌-◌, ◌≤◌, List, ◌++◌, length, take, drop, replicate}
use Rattle.std.proofs.Common.{sym, ap, ◌∙◌, arith}
use Rattle.std.proofs.lemmas.List.{take-append-drop, length-take-le}
use Rattle.curve_laws.specs.declared.vect.Vect.TheInside.{Inside}

abbrev pub coordinates_of : Inside → List ℕ
coordinates_of v = take v.len v.at

-- what is past the length is zero
abbrev pub IsFilled : Inside → Type 0
IsFilled v = (length v.at ≡ 8) × (v.len ≤ 8) × (drop v.len v.at ≡ replicate (8 - v.len) 0)

abbrev pub fields_of : List ℕ → Inside
fields_of xs = record { len = length xs; at = xs ++ replicate (8 - length xs) 0 }

pub fields_back : (v : Inside) → IsFilled v → fields_of (coordinates_of v) ≡ v
fields_back v (whole, few, zero) =
    let count : length (take v.len v.at) ≡ v.len = length-take-le v.len v.at (omega (arith, whole, few)) in
    ap (λ n. record { len = n; at = take v.len v.at ++ replicate (8 - n) 0 }) count
    ∙ ap (λ (xs : List ℕ). record { len = v.len; at = xs }) (ap (λ xs. take v.len v.at ++ xs) (sym zero) ∙ take-append-drop v.len v.at)
