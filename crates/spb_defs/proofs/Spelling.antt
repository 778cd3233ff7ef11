-- The words ask for what they spell, and for nothing else.
use Rattle.std.proofs.Common.{◌≡◌, ◌⊎◌, inl, inr, ⊎_elim, ℕ, ◌*◌, ◌^◌, ◌<◌, ◌≤◌, Bool, true, false, Option, Some, None, List, [], ◌∷◌, ◌++◌, refl, sym, ap, ap₂, subst, ◌∙◌, arith}
use Rattle.std.specs.Prelude.{◌↔◌, IsTrue, nat_le, option_and_then, option_map, codes, if◌then◌else◌}
use Rattle.std.specs.Str.{bytes_eq}
use Rattle.std.specs.Str.Parse.{digits_value}
use Rattle.std.specs.Fmt.{decimal}
use Rattle.std.proofs.Math.Nat.{le-mul_of_pos_right, mul_comm}
use Rattle.std.proofs.lemmas.Bool.Decides.{nat_tests}
use Rattle.std.proofs.lemmas.Option.{none-some}
use Rattle.std.proofs.lemmas.Slice.Eq.{bytes_eq-Decides}
use Rattle.metrics_builtin.specs.declared.Space.{Space}
use Rattle.metrics_builtin.specs.declared.Space.TheVariants.{L1, LInf, Hamming, Sets}
use Rattle.metrics_builtin.specs.Space.{fits}
use Rattle.spb_defs.specs.declared.CurveKind.{CurveKind}
use Rattle.spb_defs.specs.declared.CurveKind.TheVariants.{Z, Hilbert}
use Rattle.spb_defs.specs.declared.MemorySetup.{MemorySetup}
use Rattle.spb_defs.specs.declared.Asked.{Asked}
use Rattle.spb_defs.specs.declared.Asked.TheVariants.{Mem, Make, Run, Check, Trial}
use Rattle.spb_defs.specs.declared.TheConstants.{PIVOT_LIMIT, MEMORY_CAP}
use Rattle.spb_defs.specs.Numbers.{at_least, at_most, number_of, number_within}
use Rattle.spb_defs.specs.NumberLaws.{IsPlain, number_of-plain, number_of-some, at_most-some, number_within-decimal, decimal-number_within}
use Rattle.spb_defs.specs.Words.{checked_space, parameter_in, space_with_one, space_with_two, space_in, without_pivots, with_pivots, setup_in, mem_in, names_file, curve_in, positive_in, make_in, file_alone, trial_in, asked_by, asked_of, kind_of, parameters_of, curve_word, AreWordsFor}

-- ---- what was read in turn

some_is : {A : Type 0} {x y : A} → Some x ≡ Some y → x ≡ y
some_is e = cc

then-some : {A B : Type 0} (f : A → Option B) (o : Option A) (b : B) → option_and_then f o ≡ Some b → (x : A) × (o ≡ Some x) × (f x ≡ Some b)
then-some f None b e = absurd (none-some b e)
then-some f (Some x) b e = (x, refl, e)

map-some : {A B : Type 0} (f : A → B) (o : Option A) (b : B) → option_map f o ≡ Some b → (x : A) × (o ≡ Some x) × (f x ≡ b)
map-some f None b e = absurd (none-some b e)
map-some f (Some x) b e = (x, refl, some_is e)

if-some : {A : Type 0} (b : Bool) (x : Option A) (a : A) → (if b then x else None) ≡ Some a → (b ≡ true) × (x ≡ Some a)
if-some true x a e = (refl, e)
if-some false x a e = absurd (none-some a e)

either : {A : Type 0} (b : Bool) (x y : Option A) (a : A) → (if b then x else y) ≡ Some a → ((b ≡ true) × (x ≡ Some a)) ⊎ (y ≡ Some a)
either true x y a e = inl (refl, e)
either false x y a e = inr e

word-is : (a b : List ℕ) → bytes_eq a b ≡ true → a ≡ b
word-is a b e = (bytes_eq-Decides a b).0 e

-- ---- numbers

at_least-some : (bound n : ℕ) (read : Option ℕ) → at_least bound read ≡ Some n → (read ≡ Some n) × (bound ≤ n)
at_least-some bound n None e = absurd (none-some n e)
at_least-some bound n (Some m) e =
    let parts = if-some (nat_le bound m) (Some m) n e in
    let same : m ≡ n = some_is parts.1 in
    (parts.1, subst (λ k. bound ≤ k) same (grind (arith, nat_tests, parts.0)))

positive-spelled : (bound n : ℕ) (word : List ℕ) → positive_in bound word ≡ Some n → (word ≡ decimal n) × (1 ≤ n) × (n ≤ bound)
positive-spelled bound n word e =
    let parts = at_least-some 1 n (number_within bound word) e in
    let spelled = number_within-decimal bound n word parts.0 in (spelled.0, parts.1, spelled.1)

at_least-kept : (n : ℕ) → 1 ≤ n → at_least 1 (Some n) ≡ Some n
at_least-kept n h = let some : nat_le 1 n ≡ true = grind (arith, nat_tests) in ap (λ b. if b then Some n else None) some

positive-read : (bound n : ℕ) → 1 ≤ n → n ≤ bound → n < 2 ^ 64 → positive_in bound (decimal n) ≡ Some n
positive-read bound n some few small = ap (at_least 1) (decimal-number_within bound n few small) ∙ at_least-kept n some

at_most-itself : (n : ℕ) → nat_le n n ≡ true
at_most-itself n = grind (arith, nat_tests)

seed-spelled : (word : List ℕ) (n : ℕ) → number_of word ≡ Some n → (word ≡ decimal n) × (n < 2 ^ 64)
seed-spelled word n e =
    let plain = number_of-some word n e in
    let same : digits_value 10 word ≡ n = some_is (sym (number_of-plain word plain) ∙ e) in
    let within : number_within n word ≡ Some n = ap (at_most n) e ∙ ap (λ b. if b then Some n else None) (at_most-itself n) in
    ((number_within-decimal n n word within).0, subst (λ k. k < 2 ^ 64) same plain.small)

seed-read : (n : ℕ) → n < 2 ^ 64 → number_of (decimal n) ≡ Some n
seed-read n small = (at_most-some n n (number_of (decimal n)) (decimal-number_within n n (omega arith) small)).0

parameter-read : (n : ℕ) → n ≤ 4294967295 → parameter_in (decimal n) ≡ Some n
parameter-read n small = decimal-number_within 4294967295 n small (omega (arith, small))

-- ---- spaces

checked_space-some : (space s : Space) → checked_space space ≡ Some s → IsTrue (fits s) × (space ≡ s)
checked_space-some space s e =
    let parts = if-some (fits space) (Some space) s e in
    let same : space ≡ s = some_is parts.1 in (subst (λ x. IsTrue (fits x)) same parts.0, same)

-- the words of a space that fits
abbrev IsSpelled : List ℕ → List (List ℕ) → Space → Type 0
IsSpelled kind parameters s = IsTrue (fits s) × (kind ≡ kind_of s) × (parameters ≡ parameters_of s)

with-one : (make : ℕ → Space) (kind first : List ℕ) (s : Space) → ((n : ℕ) → kind ≡ kind_of (make n)) → ((n : ℕ) → parameters_of (make n) ≡ decimal n ∷ [])
    → space_with_one make first ≡ Some s → IsSpelled kind (first ∷ []) s
with-one make kind first s kinds shown e =
    let n = then-some (λ n. checked_space (make n)) (parameter_in first) s e in
    let made = checked_space-some (make n.0) s n.2 in
    let word : first ≡ decimal n.0 = (number_within-decimal 4294967295 n.0 first n.1).0 in (
      made.0,
      kinds n.0 ∙ ap kind_of made.1,
      ap (λ w. w ∷ []) word ∙ sym (shown n.0) ∙ ap parameters_of made.1,
    )

with-two : (make : ℕ → ℕ → Space) (kind first second : List ℕ) (s : Space) → ((m n : ℕ) → kind ≡ kind_of (make m n))
    → ((m n : ℕ) → parameters_of (make m n) ≡ decimal m ∷ decimal n ∷ []) → space_with_two make first second ≡ Some s → IsSpelled kind (first ∷ second ∷ []) s
with-two make kind first second s kinds shown e =
    let m = then-some (λ m. option_and_then (λ n. checked_space (make m n)) (parameter_in second)) (parameter_in first) s e in
    let n = then-some (λ n. checked_space (make m.0 n)) (parameter_in second) s m.2 in
    let made = checked_space-some (make m.0 n.0) s n.2 in
    let one : first ≡ decimal m.0 = (number_within-decimal 4294967295 m.0 first m.1).0 in
    let two : second ≡ decimal n.0 = (number_within-decimal 4294967295 n.0 second n.1).0 in (
      made.0,
      kinds m.0 n.0 ∙ ap kind_of made.1,
      ap₂ (λ v w. v ∷ w ∷ []) one two ∙ sym (shown m.0 n.0) ∙ ap parameters_of made.1,
    )

space-spelled : (kind : List ℕ) (parameters : List (List ℕ)) (s : Space) → space_in kind parameters ≡ Some s → IsSpelled kind parameters s
space-spelled kind [] s e = absurd (none-some s e)
space-spelled kind (first ∷ []) s e =
    let parts = if-some (bytes_eq kind (codes "hamming")) (space_with_one Hamming first) s e in
    with-one Hamming kind first s (λ n. word-is kind (codes "hamming") parts.0) (λ n. refl) parts.1
space-spelled kind (first ∷ second ∷ []) s e =
    ⊎_elim (λ h. with-two L1 kind first second s (λ m n. word-is kind (codes "l1") h.0) (λ m n. refl) h.1)
    (λ rest. ⊎_elim (λ h. with-two LInf kind first second s (λ m n. word-is kind (codes "linf") h.0) (λ m n. refl) h.1)
    (λ last. let h = if-some (bytes_eq kind (codes "sets")) (space_with_two Sets first second) s last in
    with-two Sets kind first second s (λ m n. word-is kind (codes "sets") h.0) (λ m n. refl) h.1)
    (either (bytes_eq kind (codes "linf")) (space_with_two LInf first second) (if bytes_eq kind (codes "sets") then space_with_two Sets first second else None)
    s rest))
    (either (bytes_eq kind (codes "l1")) (space_with_two L1 first second)
    (if bytes_eq kind (codes "linf") then space_with_two LInf first second else
    (if bytes_eq kind (codes "sets") then space_with_two Sets first second else None)) s e)
space-spelled kind (first ∷ second ∷ third ∷ rest) s e = absurd (none-some s e)

checked_space-itself : (s : Space) → IsTrue (fits s) → checked_space s ≡ Some s
checked_space-itself s h = ap (λ b. if b then Some s else None) h

one-read : (make : ℕ → Space) (n : ℕ) → n ≤ 4294967295 → IsTrue (fits (make n)) → space_with_one make (decimal n) ≡ Some (make n)
one-read make n small h = ap (option_and_then (λ n. checked_space (make n))) (parameter-read n small) ∙ checked_space-itself (make n) h

two-read : (make : ℕ → ℕ → Space) (m n : ℕ) → m ≤ 4294967295 → n ≤ 4294967295 → IsTrue (fits (make m n))
    → space_with_two make (decimal m) (decimal n) ≡ Some (make m n)
two-read make m n few small h =
    ap (option_and_then (λ m. option_and_then (λ n. checked_space (make m n)) (parameter_in (decimal n)))) (parameter-read m few)
    ∙ ap (option_and_then (λ n. checked_space (make m n))) (parameter-read n small) ∙ checked_space-itself (make m n) h

pub factor : (m n : ℕ) → 1 ≤ m → m * n ≤ 4294967295 → n ≤ 4294967295
factor m n some product = let more : n ≤ n * m = le-mul_of_pos_right n some in let same : n * m ≡ m * n = mul_comm n m in omega (arith, more, same, product)

space-read : (s : Space) → IsTrue (fits s) → space_in (kind_of s) (parameters_of s) ≡ Some s
space-read (L1 dim most) h = two-read L1 dim most (grind (arith, nat_tests, h)) (factor dim most (grind (arith, nat_tests, h)) (grind (arith, nat_tests, h))) h
space-read (LInf dim most) h = two-read LInf dim most (grind (arith, nat_tests, h)) (grind (arith, nat_tests, h)) h
space-read (Hamming len) h = one-read Hamming len (grind (arith, nat_tests, h)) h
space-read (Sets universe most) h = two-read Sets universe most (grind (arith, nat_tests, h)) (grind (arith, nat_tests, h)) h

-- ---- the store in memory

abbrev SpellsMem : List ℕ → List (List ℕ) → MemorySetup → Type 0
SpellsMem kind parameters setup =
    IsTrue (fits setup.space) × (setup.pivots ≤ PIVOT_LIMIT) × (kind ≡ kind_of setup.space)
    × ((setup.pivots ≡ 0) × (parameters ≡ parameters_of setup.space) ⊎ (parameters ≡ parameters_of setup.space ++ decimal setup.pivots ∷ []))

without-spelled : (kind : List ℕ) (parameters : List (List ℕ)) (setup : MemorySetup) → without_pivots (space_in kind parameters) ≡ Some setup
    → SpellsMem kind parameters setup
without-spelled kind parameters setup e =
    let s = map-some (λ s. record { space = s; pivots = 0 }) (space_in kind parameters) setup e in
    let spelled = space-spelled kind parameters s.0 s.1 in
    subst (SpellsMem kind parameters) s.2 (spelled.0, omega arith, spelled.1, inl (refl, spelled.2))

with-spelled : (kind : List ℕ) (parameters : List (List ℕ)) (word : List ℕ) (setup : MemorySetup) → with_pivots (space_in kind parameters) word ≡ Some setup
    → SpellsMem kind (parameters ++ word ∷ []) setup
with-spelled kind parameters word setup e =
    let s = then-some (λ s. option_map (λ n. record { space = s; pivots = n }) (number_within PIVOT_LIMIT word)) (space_in kind parameters) setup e in
    let n = map-some (λ n. record { space = s.0; pivots = n }) (number_within PIVOT_LIMIT word) setup s.2 in
    let spelled = space-spelled kind parameters s.0 s.1 in
    let number = number_within-decimal PIVOT_LIMIT n.0 word n.1 in
    subst (SpellsMem kind (parameters ++ word ∷ [])) n.2 (spelled.0, number.1, spelled.1, inr (ap₂ (λ ps w. ps ++ w ∷ []) spelled.2 number.0))

setup-spelled : (kind : List ℕ) (parameters : List (List ℕ)) (setup : MemorySetup) → setup_in kind parameters ≡ Some setup → SpellsMem kind parameters setup
setup-spelled kind [] setup e = absurd (none-some setup e)
setup-spelled kind (first ∷ []) setup e = without-spelled kind (first ∷ []) setup e
setup-spelled kind (first ∷ second ∷ []) setup e =
    ⊎_elim (λ h. with-spelled kind (first ∷ []) second setup h.1) (λ h. without-spelled kind (first ∷ second ∷ []) setup h)
    (either (bytes_eq kind (codes "hamming")) (with_pivots (space_in kind (first ∷ [])) second) (without_pivots (space_in kind (first ∷ second ∷ []))) setup e)
setup-spelled kind (first ∷ second ∷ third ∷ []) setup e = with-spelled kind (first ∷ second ∷ []) third setup e
setup-spelled kind (first ∷ second ∷ third ∷ fourth ∷ rest) setup e = absurd (none-some setup e)

without-read : (s : Space) → IsTrue (fits s) → without_pivots (space_in (kind_of s) (parameters_of s)) ≡ Some (record { space = s; pivots = 0 })
without-read s h = ap without_pivots (space-read s h)

with-read : (s : Space) (n : ℕ) → IsTrue (fits s) → n ≤ PIVOT_LIMIT
    → with_pivots (space_in (kind_of s) (parameters_of s)) (decimal n) ≡ Some (record { space = s; pivots = n })
with-read s n h few =
    ap (λ (o : Option Space). with_pivots o (decimal n)) (space-read s h)
    ∙ ap (option_map (λ n. record { space = s; pivots = n })) (decimal-number_within PIVOT_LIMIT n few (omega (arith, few)))

-- a kind and exactly its parameters, and with one word more
plain-read : (s : Space) → IsTrue (fits s) → setup_in (kind_of s) (parameters_of s) ≡ Some (record { space = s; pivots = 0 })
plain-read (L1 dim most) h = without-read (L1 dim most) h
plain-read (LInf dim most) h = without-read (LInf dim most) h
plain-read (Hamming len) h = without-read (Hamming len) h
plain-read (Sets universe most) h = without-read (Sets universe most) h

more-read : (s : Space) (n : ℕ) → IsTrue (fits s) → n ≤ PIVOT_LIMIT
    → setup_in (kind_of s) (parameters_of s ++ decimal n ∷ []) ≡ Some (record { space = s; pivots = n })
more-read (L1 dim most) n h few = with-read (L1 dim most) n h few
more-read (LInf dim most) n h few = with-read (LInf dim most) n h few
more-read (Hamming len) n h few = with-read (Hamming len) n h few
more-read (Sets universe most) n h few = with-read (Sets universe most) n h few

-- ---- curves and files

curve-spelled : (word : List ℕ) (c : CurveKind) → curve_in word ≡ Some c → word ≡ curve_word c
curve-spelled word c e =
    ⊎_elim (λ h. word-is word (codes "z") h.0 ∙ ap curve_word (some_is h.1))
    (λ rest. let h = if-some (bytes_eq word (codes "hilbert")) (Some Hilbert) c rest in word-is word (codes "hilbert") h.0 ∙ ap curve_word (some_is h.1))
    (either (bytes_eq word (codes "z")) (Some Z) (if bytes_eq word (codes "hilbert") then Some Hilbert else None) c e)

curve-read : (c : CurveKind) → curve_in (curve_word c) ≡ Some c
curve-read Z = refl
curve-read Hilbert = refl

alone-spelled : (asked : Asked) (words : List (List ℕ)) (a : Asked) → file_alone asked words ≡ Some a → (asked ≡ a)
    × ((file : List ℕ) × IsTrue (names_file file) × (words ≡ file ∷ []))
alone-spelled asked [] a e = absurd (none-some a e)
alone-spelled asked (file ∷ []) a e = let h = if-some (names_file file) (Some asked) a e in (some_is h.1, (file, h.0, refl))
alone-spelled asked (file ∷ more ∷ rest) a e = absurd (none-some a e)

-- ---- what each program is asked

mem-spelled : (words : List (List ℕ)) (a : Asked) → mem_in words ≡ Some a → AreWordsFor (codes "mem" ∷ words) a
mem-spelled [] a e = absurd (none-some a e)
mem-spelled (kind ∷ parameters) a e =
    let setup = map-some Mem (setup_in kind parameters) a e in
    let spelled = setup-spelled kind parameters setup.0 setup.1 in
    let named : codes "mem" ∷ kind ∷ parameters ≡ codes "mem" ∷ kind_of setup.0.space ∷ parameters = ap (λ k. codes "mem" ∷ k ∷ parameters) spelled.2 in
    subst (AreWordsFor (codes "mem" ∷ kind ∷ parameters)) setup.2 (
      spelled.0,
      spelled.1,
      ⊎_elim (λ h. inl (h.0, named ∙ ap (λ ps. codes "mem" ∷ kind_of setup.0.space ∷ ps) h.1))
          (λ h. inr (named ∙ ap (λ ps. codes "mem" ∷ kind_of setup.0.space ∷ ps) h)) spelled.3,
    )

make-spelled : (words : List (List ℕ)) (a : Asked) → make_in words ≡ Some a → AreWordsFor (codes "make" ∷ words) a
make-spelled [] a e = absurd (none-some a e)
make-spelled (w ∷ []) a e = absurd (none-some a e)
make-spelled (w ∷ x ∷ []) a e = absurd (none-some a e)
make-spelled (w ∷ x ∷ y ∷ []) a e = absurd (none-some a e)
make-spelled (w ∷ x ∷ y ∷ z ∷ []) a e = absurd (none-some a e)
make-spelled (file ∷ curve ∷ pivots ∷ cap ∷ kind ∷ parameters) a e =
    let named = if-some (names_file file) _ a e in
    let c = then-some _ (curve_in curve) a named.1 in
    let p = then-some _ (positive_in PIVOT_LIMIT pivots) a c.2 in
    let n = then-some _ (positive_in MEMORY_CAP cap) a p.2 in
    let s = map-some (λ s. Make c.0 p.0 n.0 s) (space_in kind parameters) a n.2 in
    let few = positive-spelled PIVOT_LIMIT p.0 pivots p.1 in
    let room = positive-spelled MEMORY_CAP n.0 cap n.1 in
    let space = space-spelled kind parameters s.0 s.1 in
    let words : codes "make" ∷ file ∷ curve ∷ pivots ∷ cap ∷ kind ∷ parameters
    ≡ codes "make" ∷ file ∷ curve_word c.0 ∷ decimal p.0 ∷ decimal n.0 ∷ kind_of s.0 ∷ parameters_of s.0 =
    ap (λ w. codes "make" ∷ file ∷ w ∷ pivots ∷ cap ∷ kind ∷ parameters) (curve-spelled curve c.0 c.1)
    ∙ ap₂ (λ v w. codes "make" ∷ file ∷ curve_word c.0 ∷ v ∷ w ∷ kind ∷ parameters) few.0 room.0
    ∙ ap₂ (λ k ps. codes "make" ∷ file ∷ curve_word c.0 ∷ decimal p.0 ∷ decimal n.0 ∷ k ∷ ps) space.1 space.2 in
    subst (AreWordsFor (codes "make" ∷ file ∷ curve ∷ pivots ∷ cap ∷ kind ∷ parameters)) s.2 (space.0, few.1, few.2, room.1, room.2, (file, named.0, words))

trial-spelled : (words : List (List ℕ)) (a : Asked) → trial_in words ≡ Some a → AreWordsFor (codes "trial" ∷ words) a
trial-spelled [] a e = absurd (none-some a e)
trial-spelled (w ∷ []) a e = absurd (none-some a e)
trial-spelled (w ∷ x ∷ []) a e = absurd (none-some a e)
trial-spelled (file ∷ seed ∷ count ∷ []) a e =
    let named = if-some (names_file file) _ a e in
    let s = then-some _ (number_of seed) a named.1 in
    let n = map-some (λ n. Trial s.0 n) (positive_in MEMORY_CAP count) a s.2 in
    let one = seed-spelled seed s.0 s.1 in
    let many = positive-spelled MEMORY_CAP n.0 count n.1 in
    subst (AreWordsFor (codes "trial" ∷ file ∷ seed ∷ count ∷ [])) n.2 (
      one.1,
      many.1,
      many.2,
      (file, named.0, ap₂ (λ v w. codes "trial" ∷ file ∷ v ∷ w ∷ []) one.0 many.0),
    )
trial-spelled (w ∷ x ∷ y ∷ z ∷ rest) a e = absurd (none-some a e)

run-spelled : (words : List (List ℕ)) (a : Asked) → file_alone Run words ≡ Some a → AreWordsFor (codes "run" ∷ words) a
run-spelled words a e =
    let h = alone-spelled Run words a e in
    subst (AreWordsFor (codes "run" ∷ words)) h.0 (h.1.0, h.1.1, ap (λ ws. codes "run" ∷ ws) h.1.2)

check-spelled : (words : List (List ℕ)) (a : Asked) → file_alone Check words ≡ Some a → AreWordsFor (codes "check" ∷ words) a
check-spelled words a e =
    let h = alone-spelled Check words a e in
    subst (AreWordsFor (codes "check" ∷ words)) h.0 (h.1.0, h.1.1, ap (λ ws. codes "check" ∷ ws) h.1.2)

by-name : (name known : List ℕ) (words : List (List ℕ)) (a : Asked) → bytes_eq name known ≡ true → AreWordsFor (known ∷ words) a → AreWordsFor (name ∷ words) a
by-name name known words a e h = subst (λ n. AreWordsFor (n ∷ words) a) (sym (word-is name known e)) h

asked-spelled : (name : List ℕ) (words : List (List ℕ)) (a : Asked) → asked_by name words ≡ Some a → AreWordsFor (name ∷ words) a
asked-spelled name words a e =
    let trial = if bytes_eq name (codes "trial") then trial_in words else None in
    let check = if bytes_eq name (codes "check") then file_alone Check words else trial in
    let run = if bytes_eq name (codes "run") then file_alone Run words else check in
    let make = if bytes_eq name (codes "make") then make_in words else run in
    ⊎_elim (λ h. by-name name (codes "mem") words a h.0 (mem-spelled words a h.1))
    (λ r. ⊎_elim (λ h. by-name name (codes "make") words a h.0 (make-spelled words a h.1))
    (λ r. ⊎_elim (λ h. by-name name (codes "run") words a h.0 (run-spelled words a h.1))
    (λ r. ⊎_elim (λ h. by-name name (codes "check") words a h.0 (check-spelled words a h.1))
    (λ r. let h = if-some (bytes_eq name (codes "trial")) (trial_in words) a r in by-name name (codes "trial") words a h.0 (trial-spelled words a h.1))
    (either (bytes_eq name (codes "check")) (file_alone Check words) trial a r))
    (either (bytes_eq name (codes "run")) (file_alone Run words) check a r))
    (either (bytes_eq name (codes "make")) (make_in words) run a r))
    (either (bytes_eq name (codes "mem")) (mem_in words) make a e)

spelled : (words : List (List ℕ)) (a : Asked) → asked_of words ≡ Some a → AreWordsFor words a
unfolding asked_of
spelled [] a e = absurd (none-some a e)
spelled (name ∷ words) a e = asked-spelled name words a e

-- ---- and back

named-read : (file : List ℕ) (o : Option Asked) → IsTrue (names_file file) → (if names_file file then o else None) ≡ o
named-read file o h = ap (λ b. if b then o else None) h

read : (words : List (List ℕ)) (a : Asked) → AreWordsFor words a → asked_of words ≡ Some a
unfolding asked_of
read words (Mem setup) (fit, few, inl (none, is)) =
    ap asked_of is ∙ ap (option_map Mem) (plain-read setup.space fit) ∙ ap (λ n. Some (Mem (record { space = setup.space; pivots = n }))) (sym none)
read words (Mem setup) (fit, few, inr is) = ap asked_of is ∙ ap (option_map Mem) (more-read setup.space setup.pivots fit few)
read words (Make curve pivots cap space) (fit, some, few, one, room, (file, named, is)) =
    ap asked_of is ∙ named-read file _ named
    ∙ ap (option_and_then (λ c. option_and_then (λ p. option_and_then (λ n. option_map (λ s. Make c p n s) (space_in (kind_of space) (parameters_of space)))
    (positive_in MEMORY_CAP (decimal cap))) (positive_in PIVOT_LIMIT (decimal pivots)))) (curve-read curve)
    ∙ ap (option_and_then (λ p. option_and_then (λ n. option_map (λ s. Make curve p n s) (space_in (kind_of space) (parameters_of space)))
    (positive_in MEMORY_CAP (decimal cap)))) (positive-read PIVOT_LIMIT pivots some few (omega (arith, few)))
    ∙ ap (option_and_then (λ n. option_map (λ s. Make curve pivots n s) (space_in (kind_of space) (parameters_of space))))
    (positive-read MEMORY_CAP cap one room (omega (arith, room)))
    ∙ ap (option_map (λ s. Make curve pivots cap s)) (space-read space fit)
read words Run (file, named, is) = ap asked_of is ∙ named-read file (Some Run) named
read words Check (file, named, is) = ap asked_of is ∙ named-read file (Some Check) named
read words (Trial seed count) (small, one, few, (file, named, is)) =
    ap asked_of is ∙ named-read file _ named
    ∙ ap (option_and_then (λ s. option_map (λ n. Trial s n) (positive_in MEMORY_CAP (decimal count)))) (seed-read seed small)
    ∙ ap (option_map (λ n. Trial seed n)) (positive-read MEMORY_CAP count one few (omega (arith, few)))

pub both_ways : (words : List (List ℕ)) (a : Asked) → (asked_of words ≡ Some a) ↔ AreWordsFor words a
both_ways words a = (spelled words a, read words a)
