-- A line is a command exactly if it is that command's one line.
use Rattle.std.proofs.Common.{◌≡◌, ℕ, ◌^◌, ◌<◌, ◌≤◌, ◌==◌, Bool, true, false, cond, List, [], ◌∷◌, refl, sym, ap, subst, ◌∙◌, arith, Option, Some, None, codes}
use Rattle.std.specs.Prelude.{Result, Ok, Err, IsTrue, nat_le}
use Rattle.std.specs.Fmt.{decimal}
use Rattle.std.specs.List.{AllByRecursion, slice_split, join_with_byte}
use Rattle.std.specs.Option.{ok_or}
use Rattle.std.specs.Str.{bytes_eq}
use Rattle.std.proofs.lemmas.Bool.Decides.{nat_tests}
use Rattle.std.proofs.lemmas.List.Elements.{All-cons}
use Rattle.std.proofs.lemmas.List.Splits.{join_with_byte-slice_split}
use Rattle.std.proofs.lemmas.Slice.Eq.{bytes_eq-Decides}
use Rattle.metrics_builtin.specs.declared.Space.{Space}
use Rattle.metrics_builtin.specs.Space.{fits, IsValid}
use Rattle.spb_defs.specs.declared.Command.{Command}
use Rattle.spb_defs.specs.declared.Command.TheVariants.{Sample, Add, Discard, Get, Count, Range, Near, Join}
use Rattle.spb_defs.specs.declared.What.{What}
use Rattle.spb_defs.specs.declared.What.TheVariants as what
use Rattle.spb_defs.specs.Numbers.{at_least, number_within}
use Rattle.spb_defs.specs.ObjectText.{object_of, text_of}
use Rattle.spb_defs.specs.Grammar.{◌>>=◌, collection_in, id_in, radius_in, ranks_in, object_in, sample_in, add_in, drop_in, get_in, count_in, range_in, near_in, join_in, command_in, command_of}
use Rattle.spb_defs.specs.NumberLaws.{number_within-decimal, decimal-number_within}
use Rattle.spb_defs.specs.TextLaws.{IsFree, IsFree-decimal, split_joined}
use Rattle.spb_defs.specs.ObjectTexts.{IsFree-text_of, read_text, text_read}
use Rattle.spb_defs.specs.CommandText.{IsWellFormed, words_of, command_text}

-- ---- words that are read in turn

module _ {A : Type 0} where
  one_read : (p : Result A What) (make : A → Command) (command : Command) → (p >>= (λ x. Ok (make x))) ≡ Ok command → (x : A) × (p ≡ Ok x) × (make x ≡ command)
  one_read (Ok x) make command e = (x, refl, cc)
  one_read (Err failed) make command e = absurd (cc)

module _ {A B : Type 0} where
  two_read : (p : Result A What) (q : Result B What) (make : A → B → Command) (command : Command) → (p >>= (λ x. q >>= (λ y. Ok (make x y)))) ≡ Ok command
      → (x : A) × (y : B) × (p ≡ Ok x) × (q ≡ Ok y) × (make x y ≡ command)
  two_read (Ok x) (Ok y) make command e = (x, y, refl, refl, cc)
  two_read (Ok x) (Err failed) make command e = absurd (cc)
  two_read (Err failed) q make command e = absurd (cc)

module _ {A B C : Type 0} where
  three_read : (p : Result A What) (q : Result B What) (r : Result C What) (make : A → B → C → Command) (command : Command)
      → (p >>= (λ x. q >>= (λ y. r >>= (λ z. Ok (make x y z))))) ≡ Ok command
      → (x : A) × (y : B) × (z : C) × (p ≡ Ok x) × (q ≡ Ok y) × (r ≡ Ok z) × (make x y z ≡ command)
  three_read (Ok x) (Ok y) (Ok z) make command e = (x, y, z, refl, refl, refl, cc)
  three_read (Ok x) (Ok y) (Err failed) make command e = absurd (cc)
  three_read (Ok x) (Err failed) r make command e = absurd (cc)
  three_read (Err failed) q r make command e = absurd (cc)

  read_three : (p : Result A What) (q : Result B What) (r : Result C What) (make : A → B → C → Command) (x : A) (y : B) (z : C) → p ≡ Ok x → q ≡ Ok y
      → r ≡ Ok z → (p >>= (λ x. q >>= (λ y. r >>= (λ z. Ok (make x y z))))) ≡ Ok (make x y z)
  read_three p q r make x y z e f g =
      ap (λ (t : Result A What). t >>= (λ x. q >>= (λ y. r >>= (λ z. Ok (make x y z))))) e
      ∙ ap (λ (t : Result B What). t >>= (λ y. r >>= (λ z. Ok (make x y z)))) f
      ∙ ap (λ (t : Result C What). t >>= (λ z. Ok (make x y z))) g

module _ {A B : Type 0} where
  read_two : (p : Result A What) (q : Result B What) (make : A → B → Command) (x : A) (y : B) → p ≡ Ok x → q ≡ Ok y
      → (p >>= (λ x. q >>= (λ y. Ok (make x y)))) ≡ Ok (make x y)
  read_two p q make x y e f =
      ap (λ (t : Result A What). t >>= (λ x. q >>= (λ y. Ok (make x y)))) e
      ∙ ap (λ (t : Result B What). t >>= (λ y. Ok (make x y))) f

module _ {A : Type 0} where
  read_one : (p : Result A What) (make : A → Command) (x : A) → p ≡ Ok x → (p >>= (λ x. Ok (make x))) ≡ Ok (make x)
  read_one p make x e = ap (λ (t : Result A What). t >>= (λ x. Ok (make x))) e

  there : (o : Option A) (failed : What) (x : A) → ok_or o failed ≡ Ok x → o ≡ Some x
  there (Some y) failed x e = cc
  there None failed x e = absurd (cc)

-- ---- one word

collection_read : (word : List ℕ) (c : ℕ) → collection_in word ≡ Ok c → (word ≡ decimal c) × (c < 4)
collection_read word c e = let read = number_within-decimal 3 c word (there (number_within 3 word) what.Collection c e) in let l = read.1 in
    (read.0, omega (arith, l))

id_read : (word : List ℕ) (n : ℕ) → id_in word ≡ Ok n → (word ≡ decimal n) × (n < 2 ^ 32)
id_read word n e = let read = number_within-decimal 4294967295 n word (there (number_within 4294967295 word) what.Id n e) in let l = read.1 in
    (read.0, omega (arith, l))

radius_read : (word : List ℕ) (n : ℕ) → radius_in word ≡ Ok n → (word ≡ decimal n) × (n < 2 ^ 32)
radius_read word n e = let read = number_within-decimal 4294967295 n word (there (number_within 4294967295 word) what.Number n e) in let l = read.1 in
    (read.0, omega (arith, l))

some_at_least : (low m n : ℕ) (b : Bool) → nat_le low m ≡ b → ◌≡◌ {A = Option ℕ} (cond b (Some m) None) (Some n) → (m ≡ n) × (low ≤ n)
some_at_least low m n true is e = let same : m ≡ n = cc in (same, grind (arith, nat_tests, same))
some_at_least low m n false is e = absurd (cc)

at_least_read : (low : ℕ) (o : Option ℕ) (n : ℕ) → at_least low o ≡ Some n → (o ≡ Some n) × (low ≤ n)
at_least_read low None n e = absurd (cc)
at_least_read low (Some m) n e = let read = some_at_least low m n (nat_le low m) refl e in (ap Some read.0, read.1)

ranks_read : (word : List ℕ) (k : ℕ) → ranks_in word ≡ Ok k → (word ≡ decimal k) × (1 ≤ k) × (k ≤ 65536)
ranks_read word k e =
    let some = at_least_read 1 (number_within 65536 word) k (there (at_least 1 (number_within 65536 word)) what.Number k e) in
    let read = number_within-decimal 65536 k word some.0 in (read.0, some.1, read.1)

object_read : (space : Space) (word object : List ℕ) → IsTrue (fits space) → object_in space word ≡ Ok object → (word ≡ text_of space object)
    × IsValid space object
object_read space word object fit e = let read = read_text space word object fit (there (object_of space word) what.Object object e) in (read.1, read.0)

collection_again : (c : ℕ) → c < 4 → collection_in (decimal c) ≡ Ok c
collection_again c low = ap (λ (o : Option ℕ). ok_or o what.Collection) (decimal-number_within 3 c (omega (arith, low)) (omega (arith, low)))

id_again : (n : ℕ) → n < 2 ^ 32 → id_in (decimal n) ≡ Ok n
id_again n low = ap (λ (o : Option ℕ). ok_or o what.Id) (decimal-number_within 4294967295 n (omega (arith, low)) (omega (arith, low)))

radius_again : (n : ℕ) → n < 2 ^ 32 → radius_in (decimal n) ≡ Ok n
radius_again n low = ap (λ (o : Option ℕ). ok_or o what.Number) (decimal-number_within 4294967295 n (omega (arith, low)) (omega (arith, low)))

some_again : (low n : ℕ) → low ≤ n → at_least low (Some n) ≡ Some n
some_again low n le = let is : nat_le low n ≡ true = grind (arith, nat_tests) in ap (λ b. cond b (Some n) None) is

ranks_again : (k : ℕ) → 1 ≤ k → k ≤ 65536 → ranks_in (decimal k) ≡ Ok k
ranks_again k low high =
    ap (λ (o : Option ℕ). ok_or (at_least 1 o) what.Number) (decimal-number_within 65536 k (omega (arith, high)) (omega (arith, high)))
    ∙ ap (λ (o : Option ℕ). ok_or o what.Number) (some_again 1 k low)

object_again : (space : Space) (object : List ℕ) → IsTrue (fits space) → IsValid space object → object_in space (text_of space object) ≡ Ok object
object_again space object fit valid = ap (λ (o : Option (List ℕ)). ok_or o what.Object) (text_read space (text_of space object) object fit valid refl)

-- ---- from the words

two_same : (a b w x : List ℕ) → a ≡ w → b ≡ x → ◌≡◌ {A = List (List ℕ)} (a ∷ b ∷ []) (w ∷ x ∷ [])
two_same a b w x e f = cc

three_same : (a b c w x y : List ℕ) → a ≡ w → b ≡ x → c ≡ y → ◌≡◌ {A = List (List ℕ)} (a ∷ b ∷ c ∷ []) (w ∷ x ∷ y ∷ [])
three_same a b c w x y e f g = cc

four_same : (a b c d w x y z : List ℕ) → a ≡ w → b ≡ x → c ≡ y → d ≡ z → ◌≡◌ {A = List (List ℕ)} (a ∷ b ∷ c ∷ d ∷ []) (w ∷ x ∷ y ∷ z ∷ [])
four_same a b c d w x y z e f g h = cc

abbrev Means : Space → List (List ℕ) → Command → Type 0
Means space words command = IsWellFormed space command × (words ≡ words_of space command)

is_name : (name word : List ℕ) → bytes_eq name word ≡ true → name ≡ word
is_name name word same = (bytes_eq-Decides name word).0 same

sample_means : (space : Space) (name first : List ℕ) (command : Command) → IsTrue (fits space) → bytes_eq name (codes "sample") ≡ true
    → sample_in space first ≡ Ok command → Means space (name ∷ first ∷ []) command
unfolding sample_in
sample_means space name first command fit same e =
    let parts = one_read (object_in space first) Sample command e in
    let o = object_read space first parts.0 fit parts.1 in
    subst (Means space (name ∷ first ∷ [])) parts.2 (o.1, two_same name first (codes "sample") (text_of space parts.0) (is_name name (codes "sample") same) o.0)

count_means : (space : Space) (name first : List ℕ) (command : Command) → bytes_eq name (codes "count") ≡ true → count_in first ≡ Ok command
    → Means space (name ∷ first ∷ []) command
unfolding count_in
count_means space name first command same e =
    let parts = one_read (collection_in first) Count command e in
    let c = collection_read first parts.0 parts.1 in
    subst (Means space (name ∷ first ∷ [])) parts.2 (c.1, two_same name first (codes "count") (decimal parts.0) (is_name name (codes "count") same) c.0)

drop_means : (space : Space) (name first second : List ℕ) (command : Command) → bytes_eq name (codes "drop") ≡ true → drop_in first second ≡ Ok command
    → Means space (name ∷ first ∷ second ∷ []) command
unfolding drop_in
drop_means space name first second command same e =
    let parts = two_read (collection_in first) (id_in second) Discard command e in
    let c = collection_read first parts.0 parts.2 in
    let i = id_read second parts.1 parts.3 in
    subst (Means space (name ∷ first ∷ second ∷ [])) parts.4 (
      (c.1, i.1),
      three_same name first second (codes "drop") (decimal parts.0) (decimal parts.1) (is_name name (codes "drop") same) c.0 i.0,
    )

get_means : (space : Space) (name first second : List ℕ) (command : Command) → bytes_eq name (codes "get") ≡ true → get_in first second ≡ Ok command
    → Means space (name ∷ first ∷ second ∷ []) command
unfolding get_in
get_means space name first second command same e =
    let parts = two_read (collection_in first) (id_in second) Get command e in
    let c = collection_read first parts.0 parts.2 in
    let i = id_read second parts.1 parts.3 in
    subst (Means space (name ∷ first ∷ second ∷ [])) parts.4 (
      (c.1, i.1),
      three_same name first second (codes "get") (decimal parts.0) (decimal parts.1) (is_name name (codes "get") same) c.0 i.0,
    )

add_means : (space : Space) (name first second third : List ℕ) (command : Command) → IsTrue (fits space) → bytes_eq name (codes "add") ≡ true
    → add_in space first second third ≡ Ok command → Means space (name ∷ first ∷ second ∷ third ∷ []) command
unfolding add_in
add_means space name first second third command fit same e =
    let parts = three_read (collection_in first) (id_in second) (object_in space third) Add command e in
    let c = collection_read first parts.0 parts.3 in
    let i = id_read second parts.1 parts.4 in
    let o = object_read space third parts.2 fit parts.5 in
    subst (Means space (name ∷ first ∷ second ∷ third ∷ [])) parts.6 (
      (c.1, i.1, o.1),
      four_same name first second third (codes "add") (decimal parts.0) (decimal parts.1) (text_of space parts.2) (is_name name (codes "add") same) c.0 i.0 o.0,
    )

range_means : (space : Space) (name first second third : List ℕ) (command : Command) → IsTrue (fits space) → bytes_eq name (codes "range") ≡ true
    → range_in space first second third ≡ Ok command → Means space (name ∷ first ∷ second ∷ third ∷ []) command
unfolding range_in
range_means space name first second third command fit same e =
    let parts = three_read (collection_in first) (radius_in second) (object_in space third) Range command e in
    let c = collection_read first parts.0 parts.3 in
    let i = radius_read second parts.1 parts.4 in
    let o = object_read space third parts.2 fit parts.5 in
    subst (Means space (name ∷ first ∷ second ∷ third ∷ [])) parts.6 (
      (c.1, i.1, o.1),
      four_same name first second third (codes "range") (decimal parts.0) (decimal parts.1) (text_of space parts.2) (is_name name (codes "range") same)
          c.0 i.0 o.0,
    )

near_means : (space : Space) (name first second third : List ℕ) (command : Command) → IsTrue (fits space) → bytes_eq name (codes "near") ≡ true
    → near_in space first second third ≡ Ok command → Means space (name ∷ first ∷ second ∷ third ∷ []) command
unfolding near_in
near_means space name first second third command fit same e =
    let parts = three_read (collection_in first) (ranks_in second) (object_in space third) Near command e in
    let c = collection_read first parts.0 parts.3 in
    let i = ranks_read second parts.1 parts.4 in
    let o = object_read space third parts.2 fit parts.5 in
    subst (Means space (name ∷ first ∷ second ∷ third ∷ [])) parts.6 (
      (c.1, (i.1, i.2), o.1),
      four_same name first second third (codes "near") (decimal parts.0) (decimal parts.1) (text_of space parts.2) (is_name name (codes "near") same)
          c.0 i.0 o.0,
    )

join_means : (space : Space) (name first second third : List ℕ) (command : Command) → bytes_eq name (codes "join") ≡ true
    → join_in first second third ≡ Ok command → Means space (name ∷ first ∷ second ∷ third ∷ []) command
unfolding join_in
join_means space name first second third command same e =
    let parts = three_read (collection_in first) (collection_in second) (radius_in third) Join command e in
    let c = collection_read first parts.0 parts.3 in
    let d = collection_read second parts.1 parts.4 in
    let r = radius_read third parts.2 parts.5 in
    subst (Means space (name ∷ first ∷ second ∷ third ∷ [])) parts.6 (
      (c.1, d.1, r.1),
      four_same name first second third (codes "join") (decimal parts.0) (decimal parts.1) (decimal parts.2) (is_name name (codes "join") same) c.0 d.0 r.0,
    )

-- a choice by names, of which one holds
module _ (P : Command → Type 0) (command : Command) where
  by_name : (p : Bool) (x rest : Result Command What) → cond p x rest ≡ Ok command → (p ≡ true → x ≡ Ok command → P command) → (rest ≡ Ok command → P command)
      → P command
  by_name true x rest e named others = named refl e
  by_name false x rest e named others = others e

no_command : (P : Type 0) (command : Command) → Err what.Command ≡ Ok command → P
no_command P command e = absurd (cc)

words_mean : (space : Space) (words : List (List ℕ)) (command : Command) → IsTrue (fits space) → command_in space words ≡ Ok command → Means space words command
words_mean space [] command fit e = absurd (cc)
words_mean space (a ∷ []) command fit e = absurd (cc)
words_mean space (name ∷ first ∷ []) command fit e =
    let P : Command → Type 0 = Means space (name ∷ first ∷ []) in
    let count : Result Command What = cond (bytes_eq name (codes "count")) (count_in first) (Err what.Command) in
    by_name P command (bytes_eq name (codes "sample")) (sample_in space first) count e (λ same e. sample_means space name first command fit same e) (λ e.
    by_name P command (bytes_eq name (codes "count")) (count_in first) (Err what.Command) e (λ same e. count_means space name first command same e)
    (no_command (P command) command))
words_mean space (name ∷ first ∷ second ∷ []) command fit e =
    let P : Command → Type 0 = Means space (name ∷ first ∷ second ∷ []) in
    let get : Result Command What = cond (bytes_eq name (codes "get")) (get_in first second) (Err what.Command) in
    by_name P command (bytes_eq name (codes "drop")) (drop_in first second) get e (λ same e. drop_means space name first second command same e) (λ e.
    by_name P command (bytes_eq name (codes "get")) (get_in first second) (Err what.Command) e (λ same e. get_means space name first second command same e)
    (no_command (P command) command))
words_mean space (name ∷ first ∷ second ∷ third ∷ []) command fit e =
    let P : Command → Type 0 = Means space (name ∷ first ∷ second ∷ third ∷ []) in
    let join : Result Command What = cond (bytes_eq name (codes "join")) (join_in first second third) (Err what.Command) in
    let near : Result Command What = cond (bytes_eq name (codes "near")) (near_in space first second third) join in
    let range : Result Command What = cond (bytes_eq name (codes "range")) (range_in space first second third) near in
    by_name P command (bytes_eq name (codes "add")) (add_in space first second third) range e
    (λ same e. add_means space name first second third command fit same e) (λ e.
    by_name P command (bytes_eq name (codes "range")) (range_in space first second third) near e
    (λ same e. range_means space name first second third command fit same e) (λ e.
    by_name P command (bytes_eq name (codes "near")) (near_in space first second third) join e
    (λ same e. near_means space name first second third command fit same e) (λ e.
    by_name P command (bytes_eq name (codes "join")) (join_in first second third) (Err what.Command) e
    (λ same e. join_means space name first second third command same e) (no_command (P command) command))))
words_mean space (a ∷ b ∷ c ∷ d ∷ f ∷ rest) command fit e = absurd (cc)

pub read_line : (space : Space) (line : List ℕ) (command : Command) → IsTrue (fits space) → command_of space line ≡ Ok command → IsWellFormed space command
    × (line ≡ command_text space command)
unfolding command_of
read_line space line command fit e =
    let means = words_mean space (slice_split (λ b. b == 32) line) command fit e in
    (means.0, sym (join_with_byte-slice_split 32 line) ∙ ap (join_with_byte 32) means.1)

-- ---- to the words

-- a word none of whose letters is a space
free_word : (word : List ℕ) → AllByRecursion (λ x. (x == 32) ≡ false) word → IsFree 32 word
free_word [] free = λ k d h. absurd (omega (arith, h))
free_word (x ∷ xs) free = All-cons (λ x. (x == 32) ≡ false) x xs free.0 (free_word xs free.1)

free_number : (n : ℕ) → n < 2 ^ 32 → IsFree 32 (decimal n)
free_number n small = IsFree-decimal 32 n (omega (arith, small)) (omega (arith, small))

command_again : (space : Space) (command : Command) → IsTrue (fits space) → IsWellFormed space command → command_in space (words_of space command) ≡ Ok command
unfolding sample_in add_in drop_in get_in count_in range_in near_in join_in
command_again space (Sample object) fit p = read_one (object_in space (text_of space object)) Sample object (object_again space object fit p)
command_again space (Add c id object) fit p =
    read_three (collection_in (decimal c)) (id_in (decimal id)) (object_in space (text_of space object)) Add c id object (collection_again c p.0)
    (id_again id p.1) (object_again space object fit p.2)
command_again space (Discard c id) fit p = read_two (collection_in (decimal c)) (id_in (decimal id)) Discard c id (collection_again c p.0) (id_again id p.1)
command_again space (Get c id) fit p = read_two (collection_in (decimal c)) (id_in (decimal id)) Get c id (collection_again c p.0) (id_again id p.1)
command_again space (Count c) fit p = read_one (collection_in (decimal c)) Count c (collection_again c p)
command_again space (Range c r object) fit p =
    read_three (collection_in (decimal c)) (radius_in (decimal r)) (object_in space (text_of space object)) Range c r object (collection_again c p.0)
    (radius_again r p.1) (object_again space object fit p.2)
command_again space (Near c k object) fit p =
    read_three (collection_in (decimal c)) (ranks_in (decimal k)) (object_in space (text_of space object)) Near c k object (collection_again c p.0)
    (ranks_again k p.1.0 p.1.1) (object_again space object fit p.2)
command_again space (Join c d r) fit p =
    read_three (collection_in (decimal c)) (collection_in (decimal d)) (radius_in (decimal r)) Join c d r (collection_again c p.0) (collection_again d p.1)
    (radius_again r p.2)

free_collection : (c : ℕ) → c < 4 → IsFree 32 (decimal c)
free_collection c low = free_number c (omega (arith, low))

split_again : (space : Space) (command : Command) → IsTrue (fits space) → IsWellFormed space command
    → slice_split (λ b. b == 32) (command_text space command) ≡ words_of space command
split_again space (Sample object) fit p =
    split_joined 32 (words_of space (Sample object)) (omega arith)
    (free_word (codes "sample") (refl, (refl, (refl, (refl, (refl, (refl, tt)))))), (IsFree-text_of space object fit p, tt))
split_again space (Add c id object) fit p =
    split_joined 32 (words_of space (Add c id object)) (omega arith)
    (free_word (codes "add") (refl, (refl, (refl, tt))), (free_collection c p.0, (free_number id p.1, (IsFree-text_of space object fit p.2, tt))))
split_again space (Discard c id) fit p =
    split_joined 32 (words_of space (Discard c id)) (omega arith)
    (free_word (codes "drop") (refl, (refl, (refl, (refl, tt)))), (free_collection c p.0, (free_number id p.1, tt)))
split_again space (Get c id) fit p =
    split_joined 32 (words_of space (Get c id)) (omega arith)
    (free_word (codes "get") (refl, (refl, (refl, tt))), (free_collection c p.0, (free_number id p.1, tt)))
split_again space (Count c) fit p =
    split_joined 32 (words_of space (Count c)) (omega arith)
    (free_word (codes "count") (refl, (refl, (refl, (refl, (refl, tt))))), (free_collection c p, tt))
split_again space (Range c r object) fit p =
    split_joined 32 (words_of space (Range c r object)) (omega arith) (
      free_word (codes "range") (refl, (refl, (refl, (refl, (refl, tt))))),
      (free_collection c p.0, (free_number r p.1, (IsFree-text_of space object fit p.2, tt))),
    )
split_again space (Near c k object) fit p =
    let few = p.1.1 in
    split_joined 32 (words_of space (Near c k object)) (omega arith) (
      free_word (codes "near") (refl, (refl, (refl, (refl, tt)))),
      (free_collection c p.0, (free_number k (omega (arith, few)), (IsFree-text_of space object fit p.2, tt))),
    )
split_again space (Join c d r) fit p =
    split_joined 32 (words_of space (Join c d r)) (omega arith)
    (free_word (codes "join") (refl, (refl, (refl, (refl, tt)))), (free_collection c p.0, (free_collection d p.1, (free_number r p.2, tt))))

pub line_read : (space : Space) (line : List ℕ) (command : Command) → IsTrue (fits space) → IsWellFormed space command → line ≡ command_text space command
    → command_of space line ≡ Ok command
unfolding command_of
line_read space line command fit p e = ap (command_of space) e ∙ ap (command_in space) (split_again space command fit p) ∙ command_again space command fit p
