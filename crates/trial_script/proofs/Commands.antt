-- What holds of all commands of a trial: they are commands on objects of its space, and their texts are lines.
use Rattle.std.proofs.Common.{◌≡◌, ℕ, ◌+◌, ◌*◌, ◌/◌, ◌%◌, ◌^◌, ◌<◌, ◌≤◌, ◌==◌, true, false, cond, List, [], ◌∷◌, ◌++◌, get_or, length, map, All, Ok, refl, sym, ap, subst, ◌∙◌, append_assoc, arith, ⊎_elim}
use Rattle.std.specs.Prelude.{codes, nat_le}
use Rattle.std.specs.Fmt.{decimal}
use Rattle.std.specs.List.{range_with_len, AllByRecursion, flat_map, join_with_byte}
use Rattle.std.proofs.lemmas.Bool.{cases_lt}
use Rattle.std.proofs.lemmas.Bool.Decides.{nat_tests}
use Rattle.std.proofs.lemmas.Fmt.{length-decimal-le}
use Rattle.std.proofs.lemmas.List.{length-append}
use Rattle.std.proofs.lemmas.List.Elements.{All-map, All-head, All-tail, All-cons}
use Rattle.metrics_builtin.specs.Space.{IsValid}
use Rattle.metrics_builtin.specs.Vectors.{components}
use Rattle.metrics_builtin.specs.VectorLaws.{All-components-IsVector, length-components-IsVector}
use Rattle.spb_edge.specs.declared.reader.Line.TheVariants.{Text, Long}
use Rattle.spb_edge.specs.Lines.{HasNoLf, lines_of}
use Rattle.spb_edge.specs.LineLaws.{lines_of-nil, lines_of-ended}
use Rattle.spb_defs.specs.declared.TheConstants.{LINE_LIMIT}
use Rattle.spb_defs.specs.declared.Command.{Command}
use Rattle.spb_defs.specs.declared.Command.TheVariants.{Add, Range, Near, Join}
use Rattle.spb_defs.specs.ObjectText.{numbers_text, text_of}
use Rattle.spb_defs.specs.TextLaws.{IsFree, IsFree-decimal, IsFree-numbers_text, IsFree-joined}
use Rattle.spb_defs.specs.CommandText.{IsWellFormed, command_text}
use Rattle.spb_defs.specs.CommandLaws.{line_read}
use Rattle.spb_defs.specs.Grammar.{command_of}
use Rattle.spb_defs.specs.Scripts.{with_lf}
use Rattle.trial_script.specs.Draws.{drawn_object}
use Rattle.trial_script.specs.Script.{trial_space, trial_commands, trial_line, trial_lines, trial_script}
use Rattle.trial_script.specs.Lines.{command_at}
use Rattle.trial_script.proofs.Drawing.{drawn_object-IsValid}
use Rattle.trial_script.proofs.Places.{command_at-addition, command_at-range, command_at-near, command_at-join, placed, trial_commands-placed}

-- ---- by the kinds of commands

-- what holds of the four kinds holds of all
module _ (P : Command → Type 0) (small : (c id : ℕ) (object : List ℕ) → c < 2 → id < 2 ^ 32 → IsValid trial_space object → P (Add c id object))
    (range : (object : List ℕ) → IsValid trial_space object → P (Range 1 400 object))
    (near : (object : List ℕ) → IsValid trial_space object → P (Near 0 5 object)) (join : P (Join 0 1 60)) where
  module _ (count place : ℕ) (object : List ℕ) (few : count < 2 ^ 32) (valid : IsValid trial_space object) where
    at_end : count + 32 ≤ place → P (command_at count place object)
    at_end late = subst P (sym (command_at-join count place object late)) join

    past_ranges : count + 16 ≤ place → P (command_at count place object)
    past_ranges late = ⊎_elim (λ early. subst P (sym (command_at-near count place object late early)) (near object valid)) at_end (cases_lt place (count + 32))

    past_additions : count ≤ place → P (command_at count place object)
    past_additions late =
        ⊎_elim (λ early. subst P (sym (command_at-range count place object late early)) (range object valid)) past_ranges (cases_lt place (count + 16))

    in_additions : place < count → P (command_at count place object)
    in_additions early =
        subst P (sym (command_at-addition count place object early))
        (small (place % 2) (place / 2) object (omega arith) (omega (arith, early, few)) valid)

    at_any_place : P (command_at count place object)
    at_any_place = ⊎_elim in_additions past_additions (cases_lt place count)

  all_commands : (seed count : ℕ) → count < 2 ^ 32 → All P (trial_commands seed count)
  all_commands seed count few =
      subst (All P) (sym (trial_commands-placed seed count)) (
      All-map P (placed seed count) (range_with_len 0 (count + 33)) (λ k d less.
      let place = get_or (range_with_len 0 (count + 33)) k d in
      at_any_place count place (drawn_object seed (16 + place)) few (drawn_object-IsValid seed (16 + place)))
      )

-- ---- well formed, and read

pub commands-proper : (seed count : ℕ) → count < 2 ^ 32 → All (IsWellFormed trial_space) (trial_commands seed count)
commands-proper =
    all_commands (IsWellFormed trial_space) (λ c id object two many valid. (omega (arith, two), many, valid)) (λ object valid. (omega arith, omega arith, valid))
    (λ object valid. (omega arith, (omega arith, omega arith), valid)) (omega arith, omega arith, omega arith)

pub command-read : (command : Command) → IsWellFormed trial_space command → command_of trial_space (command_text trial_space command) ≡ Ok command
command-read command proper = line_read trial_space (command_text trial_space command) command refl proper refl

-- ---- the texts are lines

-- a word of at most 32 bytes, none of which is LF
record IsWord (word : List ℕ) : Type 0 where
  free : IsFree 10 word
  short : length word ≤ 32

-- a word none of whose letters is LF
free_word : (word : List ℕ) → AllByRecursion (λ x. (x == 10) ≡ false) word → IsFree 10 word
free_word [] free = λ k d h. absurd (omega (arith, h))
free_word (x ∷ xs) free = All-cons (λ x. (x == 10) ≡ false) x xs free.0 (free_word xs free.1)

number-word : (n : ℕ) → n < 2 ^ 32 → IsWord (decimal n)
number-word n small =
    let few = length-decimal-le 10 n (omega arith) (omega (arith, small)) (omega (arith, small)) in record {
      free = IsFree-decimal 10 n (omega arith) (omega (arith, small));
      short = omega (arith, few);
    }

numbers-short : (ns : List ℕ) → All (λ n. n ≤ 1000) ns → length (numbers_text ns) ≤ 5 * length ns
numbers-short [] low = omega arith
numbers-short (n ∷ []) low =
    let first : n ≤ 1000 = All-head (λ m. m ≤ 1000) n [] low in
    let few = length-decimal-le 4 n (omega arith) (omega (arith, first)) (omega (arith, first)) in
    omega (arith, few)
numbers-short (n ∷ m ∷ ns) low =
    let first : n ≤ 1000 = All-head (λ m. m ≤ 1000) n (m ∷ ns) low in
    let few = length-decimal-le 4 n (omega arith) (omega (arith, first)) (omega (arith, first)) in
    let rest = numbers-short (m ∷ ns) (All-tail (λ m. m ≤ 1000) n (m ∷ ns) low) in
    let both = length-append (decimal n) (44 ∷ numbers_text (m ∷ ns)) in
    omega (arith, few, rest, both)

object-word : (object : List ℕ) → IsValid trial_space object → IsWord (text_of trial_space object)
object-word object valid =
    let low = All-components-IsVector 4 1000 object (omega arith) valid in
    let many = length-components-IsVector 4 1000 object valid in
    let few = numbers-short (components object) low in record {
      free = IsFree-numbers_text 10 1000 (components object) (omega arith) refl (omega arith) low;
      short = omega (arith, few, many);
    }

-- a text within the limit, no byte of which is LF
record IsLine (text : List ℕ) : Type 0 where
  whole : HasNoLf text
  short : length text ≤ LINE_LIMIT

module _ (a b c d : List ℕ) (wa : IsWord a) (wb : IsWord b) (wc : IsWord c) (wd : IsWord d) where
  words-line : IsLine (join_with_byte 32 (a ∷ b ∷ c ∷ d ∷ []))
  words-line =
      let la = wa.short in
      let lb = wb.short in
      let lc = wc.short in
      let ld = wd.short in
      let first = length-append a (32 ∷ (b ++ 32 ∷ (c ++ 32 ∷ d))) in
      let second = length-append b (32 ∷ (c ++ 32 ∷ d)) in
      let third = length-append c (32 ∷ d) in record {
        whole = IsFree-joined 10 32 (a ∷ b ∷ c ∷ d ∷ []) refl (wa.free, (wb.free, (wc.free, (wd.free, tt))));
        short = omega (arith, la, lb, lc, ld, first, second, third);
      }

commands-lines : (seed count : ℕ) → count < 2 ^ 32 → All (λ command. IsLine (command_text trial_space command)) (trial_commands seed count)
commands-lines =
    all_commands (λ command. IsLine (command_text trial_space command)) (λ c id object two many valid.
    words-line (codes "add") (decimal c) (decimal id) (text_of trial_space object)
    (record { free = free_word (codes "add") (refl, (refl, (refl, tt))); short = omega arith })
    (number-word c (omega (arith, two))) (number-word id many) (object-word object valid)) (λ object valid.
    words-line (codes "range") (decimal 1) (decimal 400) (text_of trial_space object)
    (record { free = free_word (codes "range") (refl, (refl, (refl, (refl, (refl, tt))))); short = omega arith })
    (number-word 1 (omega arith)) (number-word 400 (omega arith)) (object-word object valid)) (λ object valid.
    words-line (codes "near") (decimal 0) (decimal 5) (text_of trial_space object)
    (record { free = free_word (codes "near") (refl, (refl, (refl, (refl, tt)))); short = omega arith })
    (number-word 0 (omega arith)) (number-word 5 (omega arith)) (object-word object valid)) (
    words-line (codes "join") (decimal 0) (decimal 1) (decimal 60)
    (record { free = free_word (codes "join") (refl, (refl, (refl, (refl, tt)))); short = omega arith })
    (number-word 0 (omega arith)) (number-word 1 (omega arith)) (number-word 60 (omega arith))
    )

-- the lines of such texts, each with its LF
lines-read : (commands : List Command) → All (λ command. IsLine (command_text trial_space command)) commands
    → lines_of LINE_LIMIT (flat_map with_lf (map (command_text trial_space) commands)) ≡ map trial_line commands
lines-read [] lines = lines_of-nil LINE_LIMIT
lines-read (command ∷ commands) lines =
    let text = command_text trial_space command in
    let rest = flat_map with_lf (map (command_text trial_space) commands) in
    let line : IsLine text = All-head (λ command. IsLine (command_text trial_space command)) command commands lines in
    let others = All-tail (λ command. IsLine (command_text trial_space command)) command commands lines in
    let short = line.short in
    let fits : nat_le (length text) LINE_LIMIT ≡ true = grind (arith, nat_tests) in
    ap (lines_of LINE_LIMIT) (append_assoc text (10 ∷ []) rest)
    ∙ lines_of-ended LINE_LIMIT text rest line.whole
    ∙ ap (λ b. cond b (Text text) Long ∷ lines_of LINE_LIMIT rest) fits
    ∙ ap (λ ls. Text text ∷ ls) (lines-read commands others)

pub trial_script-lines : (seed count : ℕ) → count < 2 ^ 32 → lines_of LINE_LIMIT (trial_script seed count) ≡ trial_lines seed count
unfolding trial_script
trial_script-lines seed count few = lines-read (trial_commands seed count) (commands-lines seed count few)
