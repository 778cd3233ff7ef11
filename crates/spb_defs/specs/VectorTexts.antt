-- The text of a vector is read as it, and what is read as a vector is its text.
use Rattle.std.proofs.Common.{◌≡◌, ℕ, ◌^◌, ◌<◌, ◌≤◌, ◌==◌, Bool, true, cond, List, length, get_or, refl, sym, ap, subst, ◌∙◌, arith, Option, Some, None}
use Rattle.std.specs.Prelude.{option_and_then, All}
use Rattle.std.proofs.lemmas.Bool.Decides.{nat_tests}
use Rattle.std.proofs.lemmas.Option.{cond_some}
use Rattle.metrics_builtin.specs.Vectors.{components, object_of_components, IsVector}
use Rattle.metrics_builtin.specs.VectorLaws.{components-object_of_components, components-IsVector}
use Rattle.spb_defs.specs.ObjectText.{numbers_text, numbers_in, vector_with, vector_of_text}
use Rattle.metrics_builtin.specs.VectorLaws.{IsVector-object_of_components}
use Rattle.std.specs.List.{slice_split}
use Rattle.spb_defs.specs.TextLaws.{All-numbers_within}
use Rattle.spb_defs.specs.TextLaws.{AreRead, numbers_in-text, text-numbers_in, IsFree, IsFree-numbers_text}

-- ---- what is read is an object

valid_numbers : (dim most : ℕ) (words : List (List ℕ)) (read : Option (List ℕ)) (object : List ℕ) → ((ns : List ℕ) → read ≡ Some ns → All (λ n. n ≤ most) ns)
    → option_and_then (vector_with dim) read ≡ Some object → IsVector dim most object
valid_numbers dim most words None object h e = absurd (cc)
valid_numbers dim most words (Some ns) object h e =
    let test = cond_some (length ns == dim) (object_of_components ns) object e in
    let long : (length ns == dim) ≡ true = test.0 in
    let many : length ns ≡ dim = grind (arith, nat_tests) in
    subst (IsVector dim most) test.1 (IsVector-object_of_components dim most ns many (h ns refl))

pub vector_of_text-valid : (dim most : ℕ) (text object : List ℕ) → vector_of_text dim most text ≡ Some object → IsVector dim most object
unfolding vector_of_text
vector_of_text-valid dim most text object e =
    valid_numbers dim most (slice_split (λ b. b == 44) text) (numbers_in most text) object
    (All-numbers_within most (slice_split (λ b. b == 44) text)) e

-- ---- what is read has its text

-- what is read of the words
record IsOf (dim : ℕ) (read : Option (List ℕ)) (object : List ℕ) : Type 0 where
  numbers : List ℕ
  is : read ≡ Some numbers
  bytes : object_of_components numbers ≡ object

of : (dim : ℕ) (read : Option (List ℕ)) (object : List ℕ) → option_and_then (vector_with dim) read ≡ Some object → IsOf dim read object
of dim None object e = absurd (cc)
of dim (Some ns) object e = record { numbers = ns; is = refl; bytes = (cond_some (length ns == dim) (object_of_components ns) object e).1 }

pub read_vector : (dim most : ℕ) (text object : List ℕ) → most < 2 ^ 32 → vector_of_text dim most text ≡ Some object → IsVector dim most object
    × (text ≡ numbers_text (components object))
unfolding vector_of_text
read_vector dim most text object small e =
    let parts = of dim (numbers_in most text) object e in
    let read : AreRead most text parts.numbers = numbers_in-text most text parts.numbers parts.is in
    let below : All (λ n. n < 2 ^ 32) parts.numbers = λ k d h. let l : get_or parts.numbers k d ≤ most = read.within k d h in omega arith in
    let numbers : components object ≡ parts.numbers = ap components (sym parts.bytes) ∙ components-object_of_components parts.numbers below in
    (vector_of_text-valid dim most text object e, read.text_is ∙ ap numbers_text (sym numbers))

pub vector_read : (dim most : ℕ) (text object : List ℕ) → 1 ≤ dim → most < 2 ^ 32 → IsVector dim most object → text ≡ numbers_text (components object)
    → vector_of_text dim most text ≡ Some object
unfolding vector_of_text
vector_read dim most text object some small v e =
    let dimension = v.dimension in
    let numbers : components object ≡ v.numbers = components-IsVector dim most object small v in
    let text_is : text ≡ numbers_text v.numbers = e ∙ ap numbers_text numbers in
    let read : numbers_in most text ≡ Some v.numbers = ap (numbers_in most) text_is ∙ text-numbers_in most v.numbers (omega arith) (omega arith) v.within in
    let test : (length v.numbers == dim) ≡ true = grind (arith, nat_tests) in
    ap (option_and_then (vector_with dim)) read ∙ ap (λ (b : Bool). cond b (Some (object_of_components v.numbers)) None) test
    ∙ ap (λ (o : List ℕ). Some o) (sym v.spelling)

pub IsFree-vector : (dim most : ℕ) (object : List ℕ) → most < 2 ^ 32 → IsVector dim most object → IsFree 32 (numbers_text (components object))
IsFree-vector dim most object small v =
    subst (λ (ns : List ℕ). IsFree 32 (numbers_text ns)) (sym (components-IsVector dim most object small v))
    (IsFree-numbers_text 32 most v.numbers (omega arith) refl (omega arith) v.within)
