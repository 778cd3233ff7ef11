-- Content that contracts know or don't, and bytes taken from its start or added to its end.
use Rattle.std.specs.Prelude.{◌≡◌, ℕ, List, [], ◌++◌, Option, Some, None, refl}
use Rattle.std.proofs.Common.{append_assoc, append-nil, ap}

-- a prefix, and then what is known after it
abbrev pub with_prefix : List ℕ → Option (List ℕ) → Option (List ℕ)
with_prefix front None = None
with_prefix front (Some rest) = Some (front ++ rest)

-- what was known, and then a piece
abbrev pub with_suffix : Option (List ℕ) → List ℕ → Option (List ℕ)
with_suffix None piece = None
with_suffix (Some old) piece = Some (old ++ piece)

-- an empty piece changes nothing
pub with_suffix-nil : (old : Option (List ℕ)) → with_suffix old [] ≡ old
with_suffix-nil None = refl
with_suffix-nil (Some old) = ap Some (append-nil old)

-- two pieces, one after the other
pub with_suffix-append : (old : Option (List ℕ)) (a b : List ℕ) → with_suffix (with_suffix old a) b ≡ with_suffix old (a ++ b)
with_suffix-append None a b = refl
with_suffix-append (Some old) a b = ap Some (append_assoc old a b)

pub with_prefix-nil : (rest : Option (List ℕ)) → with_prefix [] rest ≡ rest
with_prefix-nil None = refl
with_prefix-nil (Some rest) = refl

pub with_prefix-append : (a b : List ℕ) (rest : Option (List ℕ)) → with_prefix (a ++ b) rest ≡ with_prefix a (with_prefix b rest)
with_prefix-append a b None = refl
with_prefix-append a b (Some rest) = ap Some (append_assoc a b rest)

-- the laws, for `simp`
pub ruleset affix_laws = (with_suffix-nil, with_suffix-append, with_prefix-nil, with_prefix-append)
