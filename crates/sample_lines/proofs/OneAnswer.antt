-- Lines are all samples, or one is the first that is none.
use Rattle.std.proofs.Common.{◌≡◌, ℕ, ◌+◌, List, [], ◌∷◌, ◌++◌, length, map, Option, Some, None, inl, inr, refl, sym, ap, ◌∙◌, arith}
use Rattle.std.specs.Prelude.{◌⊎◌}
use Rattle.std.proofs.lemmas.List.{map-append, length-map}
use Rattle.spb_edge.specs.declared.reader.Line.{Line}
use Rattle.metrics_builtin.specs.declared.Space.{Space}
use Rattle.sample_lines.specs.SampleLines.{sample_of, AreSampleLines, AreAllSamples, IsFirstBad}

head_is : {A : Type 0} {x y : A} {xs ys : List A} → x ∷ xs ≡ y ∷ ys → x ≡ y
head_is e = cc

tail_is : {A : Type 0} {x y : A} {xs ys : List A} → x ∷ xs ≡ y ∷ ys → xs ≡ ys
tail_is e = cc

not_none : {A : Type 0} {x : A} {xs ys : List (Option A)} → None ∷ xs ≡ Some x ∷ ys → ⊥
not_none e = cc

some_alike : {A : Type 0} {x y : A} → Some x ≡ Some y → x ≡ y
some_alike e = cc

-- nothing is missing among items
none_among : {A : Type 0} (items : List A) (xs ys : List (Option A)) → xs ++ None ∷ ys ≡ map Some items → ⊥
none_among [] [] ys e = absurd (omega (arith, ap length e))
none_among [] (x ∷ xs) ys e = absurd (omega (arith, ap length e))
none_among (item ∷ items) [] ys e = not_none e
none_among (item ∷ items) (x ∷ xs) ys e = none_among items xs ys (tail_is e)

-- the first item that is missing has one place
one_place : {A : Type 0} (xs ys : List A) (us vs : List (Option A)) → map Some xs ++ None ∷ us ≡ map Some ys ++ None ∷ vs → length xs ≡ length ys
one_place [] [] us vs e = refl
one_place [] (y ∷ ys) us vs e = absurd (not_none e)
one_place (x ∷ xs) [] us vs e = absurd (not_none (sym e))
one_place (x ∷ xs) (y ∷ ys) us vs e = let same = one_place xs ys us vs (tail_is e) in omega (arith, same)

same_items : {A : Type 0} (xs ys : List A) → map Some xs ≡ map Some ys → xs ≡ ys
same_items [] [] e = refl
same_items [] (y ∷ ys) e = absurd (omega (arith, ap length e))
same_items (x ∷ xs) [] e = absurd (omega (arith, ap length e))
same_items (x ∷ xs) (y ∷ ys) e = ap (λ z. z ∷ xs) (some_alike (head_is e)) ∙ ap (λ zs. y ∷ zs) (same_items xs ys (tail_is e))

module _ (space : Space) (lines : List Line) where
  pub one_list : (first second : List (List ℕ)) → AreSampleLines space lines first → AreSampleLines space lines second → first ≡ second
  one_list first second one other = same_items first second (sym one ∙ other)

  -- the samples before the first bad line, and what follows them
  samples_before : (number : ℕ) (bad : IsFirstBad space lines number)
      → map (sample_of space) lines ≡ map Some bad.samples.0 ++ None ∷ map (sample_of space) bad.behind
  samples_before number bad =
      ap (map (sample_of space)) bad.split ∙ map-append (sample_of space) bad.before (bad.bad ∷ bad.behind)
      ∙ ap (λ xs. xs ++ sample_of space bad.bad ∷ map (sample_of space) bad.behind) bad.samples.1
      ∙ ap (λ x. map Some bad.samples.0 ++ x ∷ map (sample_of space) bad.behind) bad.none

  pub not_both : (number : ℕ) → AreAllSamples space lines → IsFirstBad space lines number → ⊥
  not_both number (objects, samples) bad =
      none_among objects (map Some bad.samples.0) (map (sample_of space) bad.behind) (sym (samples_before number bad) ∙ samples)

  before_is : (number : ℕ) (bad : IsFirstBad space lines number) → number ≡ length bad.samples.0 + 1
  before_is number bad =
      let as_many = ap length bad.samples.1 in
      let number_is = bad.number_is in
      omega (arith, number_is, as_many, length-map bad.before (sample_of space), length-map {B = Option (List ℕ)} bad.samples.0 Some)

  pub one_number : (first second : ℕ) → IsFirstBad space lines first → IsFirstBad space lines second → first ≡ second
  one_number first second one other =
      let same = one_place one.samples.0 other.samples.0 (map (sample_of space) one.behind) (map (sample_of space) other.behind)
      (sym (samples_before first one) ∙ samples_before second other) in
      omega (arith, same, before_is first one, before_is second other)

module _ (space : Space) where
  pub either_is : (lines : List Line) → AreAllSamples space lines ⊎ ((number : ℕ) × IsFirstBad space lines number)
  either_is [] = inl ([], refl)
  either_is (line ∷ lines) = go (sample_of space line) refl (either_is lines)
    where
      go : (sample : Option (List ℕ)) → sample_of space line ≡ sample → AreAllSamples space lines ⊎ ((number : ℕ) × IsFirstBad space lines number)
          → AreAllSamples space (line ∷ lines) ⊎ ((number : ℕ) × IsFirstBad space (line ∷ lines) number)
      go None is others = inr (
        1,
        record {
          before = [];
          bad = line;
          behind = lines;
          split = refl;
          number_is = refl;
          samples = ([], refl);
          none = is;
        },
      )
      go (Some object) is (inl (objects, samples)) =
          inl (object ∷ objects, ap (λ x. x ∷ map (sample_of space) lines) is ∙ ap (λ xs. Some object ∷ xs) samples)
      go (Some object) is (inr (number, bad)) = inr (
        number + 1,
        record {
          before = line ∷ bad.before;
          bad = bad.bad;
          behind = bad.behind;
          split = ap (λ xs. line ∷ xs) bad.split;
          number_is = let is = bad.number_is in omega (arith, is);
          samples = (
            object ∷ bad.samples.0,
            ap (λ x. x ∷ map (sample_of space) bad.before) is ∙ ap (λ xs. Some object ∷ xs) bad.samples.1,
          );
          none = bad.none;
        },
      )
