-- The text of numbers, one number more.
use Rattle.std.proofs.Common.{◌≡◌, ℕ, ◌+◌, ◌%◌, ◌<◌, ◌≤◌, List, [], ◌∷◌, ◌++◌, length, get_or, map, take, refl, ap, subst, sym, ◌∙◌, arith, append_assoc}
use Rattle.std.specs.Fmt.{decimal}
use Rattle.std.specs.List.{join_with_byte}
use Rattle.std.proofs.lemmas.List.{take_more, length-take-le, map-append, nil_from_length}
use Rattle.std.specs.Prelude.{IsTrue, codes}
use Rattle.std.proofs.lemmas.Bool.Decides.{nat_tests}
use Rattle.metrics_builtin.specs.declared.Space.{Space}
use Rattle.metrics_builtin.specs.declared.Space.TheVariants.{L1, LInf, Sets}
use Rattle.metrics_builtin.specs.Space.{fits, IsValid}
use Rattle.metrics_builtin.specs.Vectors.{components}
use Rattle.metrics_builtin.specs.VectorLaws.{length-IsVector, length-components-div}
use Rattle.metrics_builtin.specs.SetLaws.{length-IsSubset}
use Rattle.spb_defs.specs.ObjectText.{numbers_text, set_text}
use Rattle.spb_defs.specs.SetTexts.{text_of_none, text_of_some}

joined_push : (mark : ℕ) (words : List (List ℕ)) (word : List ℕ) → 0 < length words
    → join_with_byte mark (words ++ word ∷ []) ≡ join_with_byte mark words ++ mark ∷ word
joined_push mark [] word some = absurd (omega arith)
joined_push mark (w ∷ []) word some = refl
joined_push mark (w ∷ v ∷ vs) word some =
    ap (λ t. w ++ mark ∷ t) (joined_push mark (v ∷ vs) word (omega arith))
    ∙ sym (append_assoc w (mark ∷ join_with_byte mark (v ∷ vs)) (mark ∷ word))

numbers_push : (ns : List ℕ) (n : ℕ) → 0 < length ns → numbers_text (ns ++ n ∷ []) ≡ numbers_text ns ++ 44 ∷ decimal n
numbers_push [] n some = absurd (omega arith)
numbers_push (m ∷ ns) n some =
    ap (join_with_byte 44) (map-append decimal (m ∷ ns) (n ∷ [])) ∙ joined_push 44 (map decimal (m ∷ ns)) (decimal n) (omega arith)

-- the first number
pub first_text : (ns : List ℕ) → 0 < length ns → numbers_text (take 1 ns) ≡ decimal (get_or ns 0 0)
first_text [] some = absurd (omega arith)
first_text (n ∷ ns) some = refl

-- the number at `place` after those before it
more_text : (ns : List ℕ) (place : ℕ) → 1 ≤ place → place < length ns
    → numbers_text (take (place + 1) ns) ≡ numbers_text (take place ns) ++ 44 ∷ decimal (get_or ns place 0)
more_text ns place some inside =
    let long : length (take place ns) ≡ place = length-take-le place ns (omega arith) in
    ap numbers_text (take_more ns place 0 inside) ∙ numbers_push (take place ns) (get_or ns place 0) (omega arith)

-- a number is written after what was written so far
pub goes_on : (old so_far new ns : List ℕ) (place n : ℕ) → so_far ≡ old ++ numbers_text (take place ns) → new ≡ (so_far ++ 44 ∷ []) ++ decimal n
    → n ≡ get_or ns place 0 → 1 ≤ place → place < length ns →
    new ≡ old ++ numbers_text (take (place + 1) ns)
goes_on old so_far new ns place n before e is some inside =
    e ∙ append_assoc so_far (44 ∷ []) (decimal n)
    ∙ ap (λ t. t ++ 44 ∷ decimal n) before ∙ append_assoc old (numbers_text (take place ns)) (44 ∷ decimal n)
    ∙ ap (λ k. old ++ (numbers_text (take place ns) ++ 44 ∷ decimal k)) is
    ∙ ap (λ t. old ++ t) (sym (more_text ns place some inside))

-- the text of an object without elements
pub set_text-none : (object : List ℕ) → length object ≡ 0 → set_text (components object) ≡ codes "-"
set_text-none object e = ap (λ o. set_text (components o)) (nil_from_length object e) ∙ text_of_none

-- and of one with some
pub set_text-some : (object : List ℕ) → 4 ≤ length object → numbers_text (components object) ≡ set_text (components object)
set_text-some object some = text_of_some (components object) (omega (arith, length-components-div object))

-- ---- the bytes of an object

l1_some : (dim most : ℕ) → IsTrue (fits (L1 dim most)) → 1 ≤ dim
l1_some dim most h = grind (arith, nat_tests)

linf_some : (dim most : ℕ) → IsTrue (fits (LInf dim most)) → 1 ≤ dim
linf_some dim most h = grind (arith, nat_tests)

-- a vector has a component at least
pub l1_room : (space : Space) (dim most : ℕ) (object : List ℕ) → space ≡ L1 dim most → IsTrue (fits space) → IsValid space object → 4 ≤ length object
l1_room space dim most object e =
    subst (λ s. IsTrue (fits s) → IsValid s object → 4 ≤ length object) (sym e)
    (λ fit v. let some : 1 ≤ dim = l1_some dim most fit in omega (arith, length-IsVector dim most object v))

pub linf_room : (space : Space) (dim most : ℕ) (object : List ℕ) → space ≡ LInf dim most → IsTrue (fits space) → IsValid space object → 4 ≤ length object
linf_room space dim most object e =
    subst (λ s. IsTrue (fits s) → IsValid s object → 4 ≤ length object) (sym e)
    (λ fit v. let some : 1 ≤ dim = linf_some dim most fit in omega (arith, length-IsVector dim most object v))

-- a set has four bytes for each element
pub sets_whole : (space : Space) (universe most : ℕ) (object : List ℕ) → space ≡ Sets universe most → IsValid space object → length object % 4 ≡ 0
sets_whole space universe most object e =
    subst (λ s. IsValid s object → length object % 4 ≡ 0) (sym e) (λ v. omega (arith, length-IsSubset universe most object v))
