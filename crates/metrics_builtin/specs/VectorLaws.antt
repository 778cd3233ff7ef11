-- Laws of vectors: an object and its components determine each other.
use Rattle.std.proofs.Common.{◌≡◌, ℕ, zero, suc, ◌+◌, ◌*◌, ◌/◌, ◌^◌, ◌<◌, ◌≤◌, List, [], ◌∷◌, ◌++◌, length, get_or, refl, sym, ap, subst, ◌∙◌, arith}
use Rattle.std.specs.Prelude.{All}
use Rattle.std.specs.Int.{w32, to_be_bytes, from_be_bytes}
use Rattle.std.proofs.lemmas.List.Elements.{All-from_get_or, All-tail}
use Rattle.std.proofs.lemmas.Grind.{flat_map-append}
use Rattle.std.proofs.lemmas.Nat.{be_bytes_4, from_be_bytes-to_be_bytes_4}
use Rattle.metrics_builtin.specs.Vectors.{components, object_of_components, IsVector}

-- ---- objects and their components

-- the first component is spelled first
pub object_of_components-cons : (x : ℕ) (xs : List ℕ) → object_of_components (x ∷ xs) ≡ to_be_bytes w32 x ++ object_of_components xs
unfolding object_of_components
object_of_components-cons x xs = refl

-- what is spelled later comes after
pub object_of_components-append : (xs ys : List ℕ) → object_of_components (xs ++ ys) ≡ object_of_components xs ++ object_of_components ys
unfolding object_of_components
object_of_components-append xs ys = flat_map-append (to_be_bytes w32) xs ys

-- each component takes four bytes
pub length-object_of_components : (xs : List ℕ) → length (object_of_components xs) ≡ 4 * length xs
unfolding object_of_components
length-object_of_components [] = refl
length-object_of_components (x ∷ xs) = omega (arith, length-object_of_components xs)

-- what is spelled are bytes
pub All-object_of_components : (xs : List ℕ) → All (λ b. b < 256) (object_of_components xs)
unfolding object_of_components
All-object_of_components [] k d h = absurd (omega arith)
All-object_of_components (x ∷ xs) zero d h = omega arith
All-object_of_components (x ∷ xs) (suc zero) d h = omega arith
All-object_of_components (x ∷ xs) (suc (suc zero)) d h = omega arith
All-object_of_components (x ∷ xs) (suc (suc (suc zero))) d h = omega arith
All-object_of_components (x ∷ xs) (suc (suc (suc (suc k)))) d h = All-object_of_components xs k d (omega arith)

-- reading what was spelled gives the components
pub components-object_of_components : (xs : List ℕ) → All (λ x. x < 2 ^ 32) xs → components (object_of_components xs) ≡ xs
unfolding components object_of_components
components-object_of_components [] h = refl
components-object_of_components (x ∷ xs) h =
    let first : from_be_bytes w32 (to_be_bytes w32 x) ≡ x = from_be_bytes-to_be_bytes_4 x (h 0 0 (omega arith)) in
    let rest : components (object_of_components xs) ≡ xs = components-object_of_components xs (All-tail (λ y. y < 2 ^ 32) x xs h) in
    ap (λ y. y ∷ components (object_of_components xs)) first ∙ ap (λ ys. x ∷ ys) rest

-- four bytes are a component
pub length-components : (object : List ℕ) (n : ℕ) → length object ≡ 4 * n → length (components object) ≡ n
unfolding components
length-components (a ∷ b ∷ c ∷ d ∷ rest) zero e = absurd (omega arith)
length-components (a ∷ b ∷ c ∷ d ∷ rest) (suc n) e = ap suc (length-components rest n (omega arith))
length-components [] n e = omega arith
length-components (a ∷ []) n e = absurd (omega arith)
length-components (a ∷ b ∷ []) n e = absurd (omega arith)
length-components (a ∷ b ∷ c ∷ []) n e = absurd (omega arith)

-- as many components as there are whole groups of four bytes
pub length-components-div : (object : List ℕ) → length (components object) ≡ length object / 4
unfolding components
length-components-div (a ∷ b ∷ c ∷ d ∷ rest) = omega (arith, length-components-div rest)
length-components-div [] = refl
length-components-div (a ∷ []) = refl
length-components-div (a ∷ b ∷ []) = refl
length-components-div (a ∷ b ∷ c ∷ []) = refl

-- the rest follows the first four bytes
past_four : (a b c d : ℕ) (rest : List ℕ) (i j : ℕ) → j ≡ i + 4 →
    get_or (a ∷ b ∷ c ∷ d ∷ rest) j 0 ≡ get_or rest i 0
past_four a b c d rest i j e =
    let four : j ≡ suc (suc (suc (suc i))) = omega arith in
    ap (λ k. get_or (a ∷ b ∷ c ∷ d ∷ rest) k 0) four

-- the four bytes from `at` on
abbrev pub four_from : List ℕ → ℕ → List ℕ
four_from object at = get_or object at 0 ∷ get_or object (at + 1) 0 ∷ get_or object (at + 2) 0 ∷ get_or object (at + 3) 0 ∷ []

-- the bytes of the rest follow the first four
four_from-cons : (a b c d : ℕ) (rest : List ℕ) (i : ℕ) →
    four_from (a ∷ b ∷ c ∷ d ∷ rest) (4 * suc i) ≡ four_from rest (4 * i)
four_from-cons a b c d rest i =
    let at : (k j : ℕ) → j ≡ (4 * i + k) + 4
    → get_or (a ∷ b ∷ c ∷ d ∷ rest) j 0 ≡ get_or rest (4 * i + k) 0 = λ k j e. past_four a b c d rest (4 * i + k) j e in
    let first : get_or (a ∷ b ∷ c ∷ d ∷ rest) (4 * suc i) 0 ≡ get_or rest (4 * i) 0 = past_four a b c d rest (4 * i) (4 * suc i) (omega arith) in
    cc (first, at 1 (4 * suc i + 1) (omega arith), at 2 (4 * suc i + 2) (omega arith), at 3 (4 * suc i + 3) (omega arith))

-- component i is read from the four bytes at 4 * i
pub get_or-components : (object : List ℕ) (i : ℕ) → 4 * i + 4 ≤ length object →
    get_or (components object) i 0 ≡ from_be_bytes w32 (four_from object (4 * i))
unfolding components
get_or-components (a ∷ b ∷ c ∷ d ∷ rest) zero h = refl
get_or-components (a ∷ b ∷ c ∷ d ∷ rest) (suc i) h =
    get_or-components rest i (omega arith) ∙ ap (from_be_bytes w32) (sym (four_from-cons a b c d rest i))
get_or-components [] i h = absurd (omega arith)
get_or-components (a ∷ []) i h = absurd (omega arith)
get_or-components (a ∷ b ∷ []) i h = absurd (omega arith)
get_or-components (a ∷ b ∷ c ∷ []) i h = absurd (omega arith)

-- the first four of a list of bytes are bytes
four_bytes : (a b c d : ℕ) (rest : List ℕ) → ((i : ℕ) → get_or (a ∷ b ∷ c ∷ d ∷ rest) i 0 < 256) →
    (i : ℕ) → get_or (a ∷ b ∷ c ∷ d ∷ []) i 0 < 256
four_bytes a b c d rest h zero = h 0
four_bytes a b c d rest h (suc zero) = h 1
four_bytes a b c d rest h (suc (suc zero)) = h 2
four_bytes a b c d rest h (suc (suc (suc zero))) = h 3
four_bytes a b c d rest h (suc (suc (suc (suc i)))) = omega arith

-- an object of whole components is spelled by them
pub object_of_components-components : (object : List ℕ) (n : ℕ) → length object ≡ 4 * n →
    ((i : ℕ) → get_or object i 0 < 256) → object_of_components (components object) ≡ object
unfolding components object_of_components
object_of_components-components (a ∷ b ∷ c ∷ d ∷ rest) zero e h = absurd (omega arith)
object_of_components-components (a ∷ b ∷ c ∷ d ∷ rest) (suc n) e h =
    let first : to_be_bytes w32 (from_be_bytes w32 (a ∷ b ∷ c ∷ d ∷ [])) ≡ a ∷ b ∷ c ∷ d ∷ [] =
    be_bytes_4 (a ∷ b ∷ c ∷ d ∷ []) _ refl (four_bytes a b c d rest h) refl in
    let others : object_of_components (components rest) ≡ rest = object_of_components-components rest n (omega arith) (λ i. h (suc (suc (suc (suc i))))) in
    ap (λ bytes. bytes ++ object_of_components (components rest)) first ∙ ap (λ bytes. a ∷ b ∷ c ∷ d ∷ bytes) others
object_of_components-components [] n e h = refl
object_of_components-components (a ∷ []) n e h = absurd (omega arith)
object_of_components-components (a ∷ b ∷ []) n e h = absurd (omega arith)
object_of_components-components (a ∷ b ∷ c ∷ []) n e h = absurd (omega arith)

-- ---- vectors

-- components of the right number, none past `most`, spell a vector
pub IsVector-object_of_components : (dim most : ℕ) (xs : List ℕ) → length xs ≡ dim → All (λ x. x ≤ most) xs →
    IsVector dim most (object_of_components xs)
IsVector-object_of_components dim most xs e h = record { numbers = xs; dimension = e; within = h; spelling = refl }

-- a vector has four bytes for each component
pub length-IsVector : (dim most : ℕ) (object : List ℕ) → IsVector dim most object → length object ≡ 4 * dim
length-IsVector dim most object v = ap length v.spelling ∙ length-object_of_components v.numbers ∙ ap (λ n. 4 * n) v.dimension

-- the components of a vector are the numbers that it spells
pub components-IsVector : (dim most : ℕ) (object : List ℕ) → most < 2 ^ 32 →
    (v : IsVector dim most object) → components object ≡ v.numbers
components-IsVector dim most object small v =
    ap components v.spelling ∙ components-object_of_components v.numbers (λ k d h. let low : get_or v.numbers k d ≤ most = v.within k d h in omega arith)

-- a vector has `dim` components
pub length-components-IsVector : (dim most : ℕ) (object : List ℕ) → IsVector dim most object →
    length (components object) ≡ dim
length-components-IsVector dim most object v = length-components object dim (length-IsVector dim most object v)

-- no component of a vector is past `most`
pub All-components-IsVector : (dim most : ℕ) (object : List ℕ) → most < 2 ^ 32 →
    IsVector dim most object → All (λ x. x ≤ most) (components object)
All-components-IsVector dim most object small v =
    subst (All (λ x. x ≤ most)) (sym (components-IsVector dim most object small v)) v.within

-- two vectors of the same components are one object
pub same_components : (dim most : ℕ) (a b : List ℕ) → most < 2 ^ 32 → IsVector dim most a →
    IsVector dim most b → components a ≡ components b → a ≡ b
same_components dim most a b small v w e =
    let numbers : v.numbers ≡ w.numbers = sym (components-IsVector dim most a small v) ∙ e ∙ components-IsVector dim most b small w in
    v.spelling ∙ ap object_of_components numbers ∙ sym w.spelling

-- bytes of the right number with no component past `most` are a vector
pub IsVector-components : (dim most : ℕ) (object : List ℕ) → length object ≡ 4 * dim →
    ((i : ℕ) → get_or object i 0 < 256) → ((k : ℕ) → k < dim → get_or (components object) k 0 ≤ most) →
    IsVector dim most object
IsVector-components dim most object e bytes low =
    let many : length (components object) ≡ dim = length-components object dim e in
    record {
      numbers = components object;
      dimension = many;
      within = All-from_get_or (λ x. x ≤ most) (components object) 0 (λ k h. low k (omega arith));
      spelling = sym (object_of_components-components object dim e bytes);
    }

-- vectors of one dimension have as many components
pub same_length : (dim most : ℕ) (a b : List ℕ) → IsVector dim most a → IsVector dim most b →
    length (components a) ≡ length (components b)
same_length dim most a b v w = length-components-IsVector dim most a v ∙ sym (length-components-IsVector dim most b w)
