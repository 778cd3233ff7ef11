-- Pieces that go out one after the other.
use Rattle.std.proofs.Common.{◌≡◌, ℕ, ◌+◌, List, length, take, drop, ◌++◌, Option, sym, ap, ◌∙◌, arith}
use Rattle.std.specs.List.{between}
use Rattle.std.proofs.lemmas.Slice.{between_to_end}
use Rattle.std.proofs.Math.Seq.{take-add}
use Rattle.std.proofs.lemmas.List.{take-append-drop, take_at, drop-drop}
use Rattle.spb_edge.specs.Known.{with_suffix, with_suffix-append}

-- known content, then a prefix of the bytes, then the first of those after it
pub with_suffix-more : (first now last : Option (List ℕ)) (bytes : List ℕ) (done n : ℕ)
    → now ≡ with_suffix first (take done bytes) → last ≡ with_suffix now (take n (between done (length bytes) bytes))
    → last ≡ with_suffix first (take (done + n) bytes)
with_suffix-more first now last bytes done n before takes =
    takes ∙ ap (λ t. with_suffix t (take n (between done (length bytes) bytes))) before
    ∙ with_suffix-append first (take done bytes) (take n (between done (length bytes) bytes))
    ∙ ap (with_suffix first) (ap (λ xs. take done bytes ++ take n xs) (between_to_end bytes done (length bytes) (omega arith)) ∙ sym (take-add done n bytes))

-- a prefix that was copied into a buffer, and what is left after it
pub front_copied : (left bytes copied behind : List ℕ) (at count : ℕ) → left ≡ drop at bytes → copied ≡ take count left → length copied ≡ count
    → left ≡ take count (copied ++ behind) ++ drop (at + count) bytes
front_copied left bytes copied behind at count is copy long =
    sym (take-append-drop count left)
    ∙ ap (λ xs. xs ++ drop count left) (sym copy ∙ sym (take_at copied behind count long))
    ∙ ap (λ xs. take count (copied ++ behind) ++ xs) (ap (drop count) is ∙ drop-drop count at bytes)
