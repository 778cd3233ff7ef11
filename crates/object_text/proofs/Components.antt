-- The text of a vector, read from the left: what the components so far leave to be read.
use Rattle.std.proofs.Common.{◌≡◌, ℕ, ◌+◌, ◌*◌, ◌<◌, ◌==◌, Bool, true, false, cond, List, [], ◌∷◌, ◌++◌, length, take, drop, refl, sym, ap, ◌∙◌, arith, Option, Some, None, append_assoc}
use Rattle.std.specs.Prelude.{option_and_then}
use Rattle.std.specs.Int.{w32, to_be_bytes}
use Rattle.std.specs.List.{slice_split, position, flat_map, count_by}
use Rattle.std.proofs.lemmas.Bool.Decides.{nat_tests}
use Rattle.std.proofs.lemmas.List.{length-append, append-nil}
use Rattle.std.proofs.lemmas.Grind.{flat_map-append}
use Rattle.std.proofs.lemmas.List.Splits.{length-slice_split}
use Rattle.metrics_builtin.specs.Vectors.{object_of_components}
use Rattle.metrics_builtin.specs.VectorLaws.{length-object_of_components}
use Rattle.spb_defs.specs.Numbers.{number_within}
use Rattle.spb_defs.specs.ObjectText.{numbers_within, vector_with, vector_of_text}
use Rattle.spb_defs.specs.NumberLaws.{number_within-whole}
use Rattle.spb_defs.specs.TextLaws.{length-numbers_within}
use Rattle.object_text.proofs.Cuts.{split-none, split-some}

-- ---- the components so far, and the rest

-- what the words complete the components to
abbrev pub completed : ℕ → ℕ → List ℕ → List (List ℕ) → Option (List ℕ)
completed dim most ns words = option_and_then (λ ms. vector_with dim (ns ++ ms)) (numbers_within most words)

pub completed-none : (dim most : ℕ) (ns : List ℕ) (word : List ℕ) (words : List (List ℕ)) → number_within most word ≡ None
    → completed dim most ns (word ∷ words) ≡ None
completed-none dim most ns word words e =
    ap (λ (o : Option ℕ). option_and_then (λ ms. vector_with dim (ns ++ ms))
    (option_and_then (λ n. option_and_then (λ ms. Some (n ∷ ms)) (numbers_within most words)) o)) e

moved : (dim n : ℕ) (ns : List ℕ) (read : Option (List ℕ))
    → option_and_then (λ ms. vector_with dim (ns ++ ms)) (option_and_then (λ ms. Some (n ∷ ms)) read)
    ≡ option_and_then (λ ms. vector_with dim ((ns ++ n ∷ []) ++ ms)) read
moved dim n ns None = refl
moved dim n ns (Some ms) = ap (vector_with dim) (sym (append_assoc ns (n ∷ []) ms))

pub completed-more : (dim most n : ℕ) (ns : List ℕ) (word : List ℕ) (words : List (List ℕ)) → number_within most word ≡ Some n
    → completed dim most ns (word ∷ words) ≡ completed dim most (ns ++ n ∷ []) words
completed-more dim most n ns word words e =
    ap (λ (o : Option ℕ). option_and_then (λ ms. vector_with dim (ns ++ ms))
    (option_and_then (λ k. option_and_then (λ ms. Some (k ∷ ms)) (numbers_within most words)) o)) e
    ∙ moved dim n ns (numbers_within most words)

other_length : (dim : ℕ) (ns : List ℕ) → (length ns ≡ dim → ⊥) → vector_with dim ns ≡ None
other_length dim ns other =
    let test : (length ns == dim) ≡ false = grind (arith, nat_tests) in
    ap (λ (b : Bool). cond b (Some (object_of_components ns)) None) test

others : (dim many : ℕ) (ns : List ℕ) (read : Option (List ℕ)) → ((ms : List ℕ) → read ≡ Some ms → length ms ≡ many) → (length ns + many ≡ dim → ⊥)
    → option_and_then (λ ms. vector_with dim (ns ++ ms)) read ≡ None
others dim many ns None h other = refl
others dim many ns (Some ms) h other =
    let more : length ms ≡ many = h ms refl in
    let whole : length (ns ++ ms) ≡ length ns + length ms = length-append ns ms in
    other_length dim (ns ++ ms) (λ e. other (omega arith))

-- too few words or too many
pub completed-other : (dim most : ℕ) (ns : List ℕ) (words : List (List ℕ)) → (length ns + length words ≡ dim → ⊥) → completed dim most ns words ≡ None
completed-other dim most ns words other = others dim (length words) ns (numbers_within most words) (length-numbers_within most words) other

pub completed-whole : (dim most : ℕ) (ns : List ℕ) → length ns ≡ dim → completed dim most ns [] ≡ Some (object_of_components ns)
completed-whole dim most ns e =
    let whole : ns ++ [] ≡ ns = append-nil ns in
    let test : (length ns == dim) ≡ true = grind (arith, nat_tests) in
    ap (vector_with dim) whole ∙ ap (λ (b : Bool). cond b (Some (object_of_components ns)) None) test

-- ---- the loop

-- from the first component on
pub record IsBegun (dim most done : ℕ) (object rest : List ℕ) (whole : Option (List ℕ)) : Type 0 where
  pub numbers : List ℕ
  pub count : length numbers + 1 ≡ done
  pub bytes : object ≡ object_of_components numbers
  pub goes_on : whole ≡ completed dim most numbers (slice_split (λ b. b == 44) rest)

pub begins : (dim most : ℕ) (object text : List ℕ) → object ≡ [] → IsBegun dim most 1 object text (vector_of_text dim most text)
unfolding vector_of_text object_of_components
begins dim most object text e = record { numbers = []; count = refl; bytes = e; goes_on = refl }

pub room : (dim most done : ℕ) (object rest : List ℕ) (whole : Option (List ℕ)) → IsBegun dim most done object rest whole → length object + 4 ≡ 4 * done
room dim most done object rest whole b =
    let long : length object ≡ 4 * length b.numbers = ap length b.bytes ∙ length-object_of_components b.numbers in
    let count = b.count in
    omega arith

-- the rest is the last component, and some are missing
pub ends_early : (dim most done : ℕ) (object rest : List ℕ) (whole : Option (List ℕ)) → IsBegun dim most done object rest whole → done < dim
    → slice_split (λ b. b == 44) rest ≡ rest ∷ [] → whole ≡ None
ends_early dim most done object rest whole b below last =
    let count = b.count in
    b.goes_on ∙ ap (completed dim most b.numbers) last ∙ completed-other dim most b.numbers (rest ∷ []) (λ e. absurd (omega arith))

pub fails : (dim most done : ℕ) (object rest : List ℕ) (whole : Option (List ℕ)) (word : List ℕ) (words : List (List ℕ))
    → IsBegun dim most done object rest whole → slice_split (λ b. b == 44) rest ≡ word ∷ words → number_within most word ≡ None → whole ≡ None
fails dim most done object rest whole word words b parts none =
    b.goes_on ∙ ap (completed dim most b.numbers) parts ∙ completed-none dim most b.numbers word words none

pub object_of_components-push : (ns : List ℕ) (n : ℕ) → object_of_components (ns ++ n ∷ []) ≡ object_of_components ns ++ to_be_bytes w32 n
unfolding object_of_components
object_of_components-push ns n = flat_map-append (to_be_bytes w32) ns (n ∷ [])
    ∙ ap (λ (bytes : List ℕ). flat_map (to_be_bytes w32) ns ++ bytes) (append-nil (to_be_bytes w32 n))

pub goes_on : (dim most done n : ℕ) (object new rest word behind : List ℕ) (whole : Option (List ℕ)) → IsBegun dim most done object rest whole
    → slice_split (λ b. b == 44) rest ≡ word ∷ slice_split (λ b. b == 44) behind → number_within most word ≡ Some n → new ≡ object ++ to_be_bytes w32 n
    → IsBegun dim most (done + 1) new behind whole
goes_on dim most done n object new rest word behind whole b parts some e =
    let count = b.count in
    let pushed : length (b.numbers ++ n ∷ []) ≡ length b.numbers + 1 = length-append b.numbers (n ∷ []) in
    record {
      numbers = b.numbers ++ n ∷ [];
      count = omega arith;
      bytes = e ∙ ap (λ (bytes : List ℕ). bytes ++ to_be_bytes w32 n) b.bytes ∙ sym (object_of_components-push b.numbers n);
      goes_on = b.goes_on ∙ ap (completed dim most b.numbers) parts ∙ completed-more dim most n b.numbers word (slice_split (λ x. x == 44) behind) some;
    }

none_left : (dim most : ℕ) (ns rest : List ℕ) (place : Option ℕ) → position (λ b. b == 44) rest ≡ place → length ns + 1 ≡ dim → number_within most rest ≡ None
    → completed dim most ns (slice_split (λ b. b == 44) rest) ≡ None
none_left dim most ns rest None at count none =
    ap (completed dim most ns) (split-none (λ b. b == 44) rest at) ∙ completed-none dim most ns rest [] none
none_left dim most ns rest (Some i) at count none =
    let behind = drop (i + 1) rest in
    let more : length (slice_split (λ b. b == 44) behind) ≡ count_by (λ b. b == 44) behind + 1 = length-slice_split (λ b. b == 44) behind in
    ap (completed dim most ns) (split-some (λ b. b == 44) rest i at)
    ∙ completed-other dim most ns (take i rest ∷ slice_split (λ b. b == 44) behind) (λ e. absurd (omega arith))

-- the last one fails, also if more would follow
pub last_fails : (dim most done : ℕ) (object rest : List ℕ) (whole : Option (List ℕ)) → IsBegun dim most done object rest whole → done ≡ dim
    → number_within most rest ≡ None → whole ≡ None
last_fails dim most done object rest whole b end none =
    b.goes_on ∙ none_left dim most b.numbers rest (position (λ x. x == 44) rest) refl (b.count ∙ end) none

pub ends : (dim most done n : ℕ) (object new rest : List ℕ) (whole : Option (List ℕ)) → IsBegun dim most done object rest whole → done ≡ dim
    → number_within most rest ≡ Some n → new ≡ object ++ to_be_bytes w32 n → whole ≡ Some new
ends dim most done n object new rest whole b end some e =
    let pushed : length (b.numbers ++ n ∷ []) ≡ length b.numbers + 1 = length-append b.numbers (n ∷ []) in
    let count = b.count in
    let bytes : new ≡ object_of_components (b.numbers ++ n ∷ []) = e ∙ ap (λ (bytes : List ℕ). bytes ++ to_be_bytes w32 n) b.bytes
    ∙ sym (object_of_components-push b.numbers n) in
    b.goes_on ∙ ap (completed dim most b.numbers) (number_within-whole most n rest some) ∙ completed-more dim most n b.numbers rest [] some
    ∙ completed-whole dim most (b.numbers ++ n ∷ []) (omega arith) ∙ ap (λ (o : List ℕ). Some o) (sym bytes)
