-- Passes one after the other, what they take at most, and what a pass may leave out.
use Rattle.std.proofs.Common.{◌≡◌, ℕ, ◌+◌, ◌≤◌, Bool, true, false, List, [], ◌∷◌, ◌++◌, length, Option, refl, sym, ap, subst, ◌∙◌, append_assoc, append-nil, arith}
use Rattle.std.specs.Prelude.{if◌then◌else◌, filter, map, count_by, All}
use Rattle.std.proofs.lemmas.List.{map-append}
use Rattle.std.proofs.lemmas.List.Elements.{All-head, All-tail, All-weaker, filter-append}
use Rattle.std.proofs.lemmas.List.Sums.{sum_by-append, sum_by-cons, count_by-le-length, length-filter}
use Rattle.metric_laws.specs.Log.{MeasuredPair, LogExtends}
use Rattle.metric_laws.specs.LogLaws.{LogExtends-nothing, LogExtends-then, LogExtends-same}
use Rattle.query_pass.specs.declared.verdict.Verdict.{Verdict}
use Rattle.query_pass.specs.declared.verdict.Verdict.TheVariants.{Apart}
use Rattle.query_pass.specs.declared.found.Found.{Found}
use Rattle.spb_edge.specs.Counts.{one_if}
use Rattle.query_pass.specs.Verdicts.{is_within, was_measured, was_sure}
use Rattle.query_pass.specs.Findings.{PassesOver, MeasuresOpen}

-- what a test keeps of two lists, one after the other
kept-then : {A K : Type 0} (test : A → Bool) (name : A → K) (xs ys : List A)
    → map name (filter test (xs ++ ys)) ≡ map name (filter test xs) ++ map name (filter test ys)
kept-then test name xs ys = ap (map name) (filter-append test xs ys) ∙ map-append name (filter test xs) (filter test ys)

count-then : {A : Type 0} (test : A → Bool) (xs ys : List A) → count_by test (xs ++ ys) ≡ count_by test xs + count_by test ys
count-then test xs ys = sum_by-append (λ x. if test x then 1 else 0) xs ys

-- ---- what was found

pub PassesOver-none : {A K : Type 0} (verdict : A → Verdict) (name : A → K) (found : Found K) → PassesOver verdict name [] found found
PassesOver-none verdict name found = record { kept = sym (append-nil found.kept.items); evals = omega arith; sure = omega arith }

pub PassesOver-then : {A K : Type 0} (verdict : A → Verdict) (name : A → K) (xs ys : List A) (before amid after : Found K)
    → PassesOver verdict name xs before amid → PassesOver verdict name ys amid after → PassesOver verdict name (xs ++ ys) before after
PassesOver-then verdict name xs ys before amid after first second = record {
  kept =
      second.kept ∙ ap (λ kept. kept ++ map name (filter (λ a. is_within (verdict a)) ys)) first.kept
      ∙ append_assoc before.kept.items (map name (filter (λ a. is_within (verdict a)) xs)) (map name (filter (λ a. is_within (verdict a)) ys))
      ∙ ap (λ more. before.kept.items ++ more) (sym (kept-then (λ a. is_within (verdict a)) name xs ys));
  evals = let e = count-then (λ a. was_measured (verdict a)) xs ys in let f = first.evals in let h = second.evals in omega (arith, e, f, h);
  sure = let e = count-then (λ a. was_sure (verdict a)) xs ys in let f = first.sure in let h = second.sure in omega (arith, e, f, h);
}

one_kept : {A B K : Type 0} (name : A → K) (x : A) (w : B) (b : Bool) → map (λ (w : B). name x) (if b then w ∷ [] else []) ≡ map name (if b then x ∷ [] else [])
one_kept name x w true = refl
one_kept name x w false = refl

one_counted : {A B : Type 0} (test : A → Bool) (other : B → Bool) (x : A) (w : B) → other w ≡ test x → count_by other (w ∷ []) ≡ count_by test (x ∷ [])
one_counted test other x w same =
    let a = sum_by-cons (λ x. if test x then 1 else 0) x [] in
    let b = sum_by-cons (λ w. if other w then 1 else 0) w [] in
    let c = ap one_if same in omega (arith, a, b, c)

found_one : {A K : Type 0} (verdict : A → Verdict) (name : A → K) (x : A) (before after : Found K)
    → PassesOver (λ (v : Verdict). v) (λ (v : Verdict). name x) (verdict x ∷ []) before after → PassesOver verdict name (x ∷ []) before after
found_one verdict name x before after one = record {
  kept = one.kept ∙ ap (λ more. before.kept.items ++ more) (one_kept name x (verdict x) (is_within (verdict x)));
  evals = one.evals ∙ ap (λ n. before.evals + n) (one_counted (λ a. was_measured (verdict a)) was_measured x (verdict x) refl);
  sure = one.sure ∙ ap (λ n. before.sure + n) (one_counted (λ a. was_sure (verdict a)) was_sure x (verdict x) refl);
}

pub PassesOver-one : {A K : Type 0} (verdict : A → Verdict) (name : A → K) (x : A) (v : Verdict) (n : K) (before after : Found K) → v ≡ verdict x → n ≡ name x
    → PassesOver (λ (v : Verdict). v) (λ (v : Verdict). n) (v ∷ []) before after → PassesOver verdict name (x ∷ []) before after
PassesOver-one {K} verdict name x v n before after is called one =
    found_one verdict name x before after
    (subst (λ (n : K). PassesOver (λ (v : Verdict). v) (λ (v : Verdict). n) (verdict x ∷ []) before after) called
    (subst (λ (v : Verdict). PassesOver (λ (v : Verdict). v) (λ (v : Verdict). n) (v ∷ []) before after) is one))

-- ---- what was measured

pub MeasuresOpen-none : {A : Type 0} (verdict : A → Verdict) (objects : A → MeasuredPair) (count : ℕ) (log : Option (List MeasuredPair))
    → MeasuresOpen verdict objects [] count log count log
MeasuresOpen-none verdict objects count log = record { counted = omega arith; logged = LogExtends-nothing log }

pub MeasuresOpen-then : {A : Type 0} (verdict : A → Verdict) (objects : A
    → MeasuredPair) (xs ys : List A) (count : ℕ) (log : Option (List MeasuredPair)) (count' : ℕ) (log' : Option (List MeasuredPair)) (count'' : ℕ)
    (log'' : Option (List MeasuredPair))
    → MeasuresOpen verdict objects xs count log count' log' → MeasuresOpen verdict objects ys count' log' count'' log''
    → MeasuresOpen verdict objects (xs ++ ys) count log count'' log''
MeasuresOpen-then verdict objects xs ys count log count' log' count'' log'' first second = record {
  counted = let e = count-then (λ a. was_measured (verdict a)) xs ys in let f = first.counted in let h = second.counted in omega (arith, e, f, h);
  logged =
      LogExtends-same log log'' _ _ (sym (kept-then (λ a. was_measured (verdict a)) objects xs ys))
      (LogExtends-then log log' log'' _ _ first.logged second.logged);
}

one_logged : {A : Type 0} (objects : A → MeasuredPair) (x : A) (b : Bool) → map objects (if b then x ∷ [] else []) ≡ (if b then objects x ∷ [] else [])
one_logged objects x true = refl
one_logged objects x false = refl

pub MeasuresOpen-one : {A : Type 0} (verdict : A → Verdict) (objects : A
    → MeasuredPair) (x : A) (v : Verdict) (m : MeasuredPair) (count : ℕ) (log : Option (List MeasuredPair)) (count' : ℕ) (log' : Option (List MeasuredPair))
    → v ≡ verdict x → m ≡ objects x
    → count' ≡ count + one_if (was_measured v) → LogExtends log log' (if was_measured v then m ∷ [] else [])
    → MeasuresOpen verdict objects (x ∷ []) count log count' log'
MeasuresOpen-one verdict objects x v m count log count' log' is are counted logged = record {
  counted =
      let a = sum_by-cons (λ a. if was_measured (verdict a) then 1 else 0) x [] in
      let b = ap (λ v. one_if (was_measured v)) is in omega (arith, a, b, counted);
  logged =
      LogExtends-same log log' _ _
      (ap (λ m. if was_measured v then m ∷ [] else []) are ∙ ap (λ v. if was_measured v then objects x ∷ [] else []) is
      ∙ sym (one_logged objects x (was_measured (verdict x))))
      logged;
}

pub MeasuresOpen-few : {A : Type 0} (verdict : A → Verdict) (objects : A
    → MeasuredPair) (xs : List A) (count : ℕ) (log : Option (List MeasuredPair)) (count' : ℕ) (log' : Option (List MeasuredPair))
    → MeasuresOpen verdict objects xs count log count' log' → count' ≤ count + length xs
MeasuresOpen-few verdict objects xs count log count' log' h = let a = h.counted in let b = count_by-le-length (λ a. was_measured (verdict a)) xs in
    omega (arith, a, b)

pub evals-few : {A K : Type 0} (verdict : A → Verdict) (name : A → K) (xs : List A) (before after : Found K) → PassesOver verdict name xs before after
    → after.evals ≤ before.evals + length xs
evals-few verdict name xs before after h = let a = h.evals in let b = count_by-le-length (λ a. was_measured (verdict a)) xs in omega (arith, a, b)

pub sure-few : {A K : Type 0} (verdict : A → Verdict) (name : A → K) (xs : List A) (before after : Found K) → PassesOver verdict name xs before after
    → after.sure ≤ before.sure + length xs
sure-few verdict name xs before after h = let a = h.sure in let b = count_by-le-length (λ a. was_sure (verdict a)) xs in omega (arith, a, b)

-- ---- those that are apart

filter-none : {A : Type 0} (test : A → Bool) (xs : List A) → All (λ x. test x ≡ false) xs → filter test xs ≡ []
filter-none test [] none = refl
filter-none test (x ∷ xs) none =
    ap (λ b. if b then x ∷ filter test xs else filter test xs) (All-head (λ x. test x ≡ false) x xs none)
    ∙ filter-none test xs (All-tail (λ x. test x ≡ false) x xs none)

count-none : {A : Type 0} (test : A → Bool) (xs : List A) → All (λ x. test x ≡ false) xs → count_by test xs ≡ 0
count-none test xs none = sym (length-filter test xs) ∙ ap length (filter-none test xs none)

kept-step : {A : Type 0} (test : A → Bool) (x : A) (ys zs : List A) (keeps : Bool) → (keeps ≡ false → test x ≡ false) → filter test ys ≡ zs
    → filter test (if keeps then x ∷ ys else ys) ≡ (if test x then x ∷ zs else zs)
kept-step test x ys zs true none rest = ap (λ kept. if test x then x ∷ kept else kept) rest
kept-step test x ys zs false none rest = rest ∙ sym (ap (λ b. if b then x ∷ zs else zs) (none refl))

-- a test finds the same, if first those are kept that may pass it
pub filter-kept : {A : Type 0} (test keep : A → Bool) (xs : List A) → All (λ x. keep x ≡ false → test x ≡ false) xs
    → filter test (filter keep xs) ≡ filter test xs
filter-kept test keep [] none = refl
filter-kept test keep (x ∷ xs) none =
    kept-step test x (filter keep xs) (filter test xs) (keep x)
    (All-head (λ x. keep x ≡ false → test x ≡ false) x xs none)
    (filter-kept test keep xs (All-tail (λ x. keep x ≡ false → test x ≡ false) x xs none))

pub count-kept : {A : Type 0} (test keep : A → Bool) (xs : List A) → All (λ x. keep x ≡ false → test x ≡ false) xs
    → count_by test (filter keep xs) ≡ count_by test xs
count-kept test keep xs none = sym (length-filter test (filter keep xs)) ∙ ap length (filter-kept test keep xs none) ∙ length-filter test xs

-- a test that passes no verdict of two that are apart
fails_if : {A : Type 0} (verdict : A → Verdict) (keep : A → Bool) (xs : List A) (test : Verdict → Bool) → test Apart ≡ false
    → All (λ x. keep x ≡ false → verdict x ≡ Apart) xs → All (λ x. keep x ≡ false → test (verdict x) ≡ false) xs
fails_if verdict keep xs test none apart =
    All-weaker (λ x. keep x ≡ false → verdict x ≡ Apart) (λ x. keep x ≡ false → test (verdict x) ≡ false) (λ x is out. ap test (is out) ∙ none) xs apart

fails : {A : Type 0} (verdict : A → Verdict) (xs : List A) (test : Verdict → Bool) → test Apart ≡ false → All (λ x. verdict x ≡ Apart) xs
    → All (λ x. test (verdict x) ≡ false) xs
fails verdict xs test none apart = All-weaker (λ x. verdict x ≡ Apart) (λ x. test (verdict x) ≡ false) (λ x is. ap test is ∙ none) xs apart

-- a pass over those that were kept is one over all, if the others are apart
pub PassesOver-kept : {A K : Type 0} (verdict : A → Verdict) (name : A → K) (keep : A → Bool) (xs : List A) (before after : Found K)
    → All (λ x. keep x ≡ false → verdict x ≡ Apart) xs
    → PassesOver verdict name (filter keep xs) before after → PassesOver verdict name xs before after
PassesOver-kept verdict name keep xs before after apart finds = record {
  kept = finds.kept ∙ ap (λ kept. before.kept.items ++ map name kept)
      (filter-kept (λ x. is_within (verdict x)) keep xs (fails_if verdict keep xs is_within refl apart));
  evals = finds.evals ∙ ap (λ n. before.evals + n) (count-kept (λ x. was_measured (verdict x)) keep xs (fails_if verdict keep xs was_measured refl apart));
  sure = finds.sure ∙ ap (λ n. before.sure + n) (count-kept (λ x. was_sure (verdict x)) keep xs (fails_if verdict keep xs was_sure refl apart));
}

pub MeasuresOpen-kept : {A : Type 0} (verdict : A → Verdict) (objects : A → MeasuredPair) (keep : A
    → Bool) (xs : List A) (count : ℕ) (log : Option (List MeasuredPair)) (count' : ℕ) (log' : Option (List MeasuredPair))
    → All (λ x. keep x ≡ false → verdict x ≡ Apart) xs
    → MeasuresOpen verdict objects (filter keep xs) count log count' log' → MeasuresOpen verdict objects xs count log count' log'
MeasuresOpen-kept verdict objects keep xs count log count' log' apart measures =
    let out = fails_if verdict keep xs was_measured refl apart in record {
      counted = measures.counted ∙ ap (λ n. count + n) (count-kept (λ x. was_measured (verdict x)) keep xs out);
      logged = LogExtends-same log log' _ _ (ap (map objects) (filter-kept (λ x. was_measured (verdict x)) keep xs out)) measures.logged;
    }

-- nothing is found of those that are apart
pub PassesOver-apart : {A K : Type 0} (verdict : A → Verdict) (name : A → K) (xs : List A) (found : Found K) → All (λ x. verdict x ≡ Apart) xs
    → PassesOver verdict name xs found found
PassesOver-apart verdict name xs found apart = record {
  kept = sym (append-nil found.kept.items)
      ∙ ap (λ kept. found.kept.items ++ map name kept) (sym (filter-none (λ x. is_within (verdict x)) xs (fails verdict xs is_within refl apart)));
  evals = let none = count-none (λ x. was_measured (verdict x)) xs (fails verdict xs was_measured refl apart) in omega (arith, none);
  sure = let none = count-none (λ x. was_sure (verdict x)) xs (fails verdict xs was_sure refl apart) in omega (arith, none);
}

pub MeasuresOpen-apart : {A : Type 0} (verdict : A → Verdict) (objects : A → MeasuredPair) (xs : List A) (count : ℕ) (log : Option (List MeasuredPair))
    → All (λ x. verdict x ≡ Apart) xs → MeasuresOpen verdict objects xs count log count log
MeasuresOpen-apart verdict objects xs count log apart =
    let out = fails verdict xs was_measured refl apart in record {
      counted = let none = count-none (λ x. was_measured (verdict x)) xs out in omega (arith, none);
      logged = LogExtends-same log log _ _ (sym (ap (map objects) (filter-none (λ x. was_measured (verdict x)) xs out))) (LogExtends-nothing log);
    }

-- ---- the same test of the items of two lists

kept_if : {A B K : Type 0} (h : A → B) (name : A → K) (name' : B → K) (x : A) (xs : List A) (ys : List B) (b : Bool) → name x ≡ name' (h x)
    → map name xs ≡ map name' ys
    → map name (if b then x ∷ xs else xs) ≡ map name' (if b then h x ∷ ys else ys)
kept_if h name name' x xs ys true same others = ap (λ n. n ∷ map name xs) same ∙ ap (λ ns. name' (h x) ∷ ns) others
kept_if h name name' x xs ys false same others = others

pub kept_same : {A B K : Type 0} (h : A → B) (test : A → Bool) (test' : B → Bool) (name : A → K) (name' : B → K) → ((x : A) → name x ≡ name' (h x))
    → (xs : List A) → All (λ x. test x ≡ test' (h x)) xs
    → map name (filter test xs) ≡ map name' (filter test' (map h xs))
kept_same h test test' name name' named [] same = refl
kept_same h test test' name name' named (x ∷ xs) same =
    kept_if h name name' x (filter test xs) (filter test' (map h xs)) (test x) (named x)
    (kept_same h test test' name name' named xs (All-tail (λ x. test x ≡ test' (h x)) x xs same))
    ∙ ap (λ b. map name' (if b then h x ∷ filter test' (map h xs) else filter test' (map h xs))) (All-head (λ x. test x ≡ test' (h x)) x xs same)

pub count_same : {A B : Type 0} (h : A → B) (test : A → Bool) (test' : B → Bool) (xs : List A) → All (λ x. test x ≡ test' (h x)) xs
    → count_by test xs ≡ count_by test' (map h xs)
count_same h test test' [] same = refl
count_same h test test' (x ∷ xs) same =
    let a = sum_by-cons (λ x. if test x then 1 else 0) x xs in
    let b = sum_by-cons (λ y. if test' y then 1 else 0) (h x) (map h xs) in
    let c = count_same h test test' xs (All-tail (λ x. test x ≡ test' (h x)) x xs same) in
    let d = ap one_if (All-head (λ x. test x ≡ test' (h x)) x xs same) in omega (arith, a, b, c, d)
