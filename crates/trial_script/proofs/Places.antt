-- The commands of a trial by their places, and the lines from a place on.
use Rattle.std.proofs.Common.{◌≡◌, ℕ, suc, ◌+◌, ◌-◌, ◌/◌, ◌%◌, ◌<◌, ◌≤◌, true, false, cond, List, [], ◌∷◌, ◌++◌, length, map, ap, ◌∙◌, sym, arith, nat_lt}
use Rattle.std.specs.List.{range_with_len}
use Rattle.std.proofs.lemmas.Bool.Decides.{nat_tests}
use Rattle.std.proofs.lemmas.List.{length-map}
use Rattle.std.proofs.lemmas.List.FromFn.{length-map-range_with_len}
use Rattle.std.proofs.lemmas.Simd.{map-map}
use Rattle.spb_edge.specs.declared.reader.Line.{Line}
use Rattle.spb_edge.specs.declared.reader.Line.TheVariants.{Text}
use Rattle.spb_defs.specs.declared.Command.{Command}
use Rattle.spb_defs.specs.declared.Command.TheVariants.{Add, Range, Near, Join}
use Rattle.spb_defs.specs.CommandText.{command_text}
use Rattle.trial_script.specs.Draws.{draw_state, drawn_object}
use Rattle.trial_script.specs.Script.{trial_space, addition, trial_commands, trial_line, trial_lines}
use Rattle.trial_script.specs.Lines.{command_at, lines_from}
use Rattle.trial_script.proofs.Ranges.{map-range-same, map-range-parts}
use Rattle.trial_script.proofs.Drawing.{drawn_object-after}

-- ---- which command

below : (m n : ℕ) → m < n → nat_lt m n ≡ true
below m n less = grind (arith, nat_tests)

not_below : (m n : ℕ) → n ≤ m → nat_lt m n ≡ false
not_below m n le = grind (arith, nat_tests)

module _ (count place : ℕ) (object : List ℕ) where
  abbrev last : Command
  last = cond (nat_lt place (count + 32)) (Near 0 5 object) (Join 0 1 60)

  abbrev queried : Command
  queried = cond (nat_lt place (count + 16)) (Range 1 400 object) last

  pub command_at-addition : place < count → command_at count place object ≡ Add (place % 2) (place / 2) object
  command_at-addition early = ap (λ b. cond b (Add (place % 2) (place / 2) object) queried) (below place count early)

  after : count ≤ place → command_at count place object ≡ queried
  after late = ap (λ b. cond b (Add (place % 2) (place / 2) object) queried) (not_below place count late)

  pub command_at-range : count ≤ place → place < count + 16 → command_at count place object ≡ Range 1 400 object
  command_at-range late early = after late ∙ ap (λ b. cond b (Range 1 400 object) last) (below place (count + 16) early)

  later : count + 16 ≤ place → command_at count place object ≡ last
  later late =
      let past : count ≤ place = omega (arith, late) in
      after past ∙ ap (λ b. cond b (Range 1 400 object) last) (not_below place (count + 16) late)

  pub command_at-near : count + 16 ≤ place → place < count + 32 → command_at count place object ≡ Near 0 5 object
  command_at-near late early = later late ∙ ap (λ b. cond b (Near 0 5 object) (Join 0 1 60)) (below place (count + 32) early)

  pub command_at-join : count + 32 ≤ place → command_at count place object ≡ Join 0 1 60
  command_at-join late =
      let past : count + 16 ≤ place = omega (arith, late) in
      later past ∙ ap (λ b. cond b (Near 0 5 object) (Join 0 1 60)) (not_below place (count + 32) late)

-- ---- the lines from a place on

module _ (state place count : ℕ) where
  abbrev at : ℕ → Line
  at k = trial_line (command_at count (place + k) (drawn_object state k))

  abbrev behind : ℕ → Line
  behind k = trial_line (command_at count (place + 1 + k) (drawn_object (draw_state state 4) k))

  pub lines_from-next : place < count + 33
      → lines_from state place count ≡ trial_line (command_at count place (drawn_object state 0)) ∷ lines_from (draw_state state 4) (place + 1) count
  unfolding lines_from
  lines_from-next more =
      let left : count + 33 - place ≡ suc (count + 33 - (place + 1)) = omega (arith, more) in
      let here : place + 0 ≡ place = omega arith in
      ap (λ n. map at (range_with_len 0 n)) left
      ∙ ap (λ p. trial_line (command_at count p (drawn_object state 0)) ∷ map at (range_with_len 1 (count + 33 - (place + 1)))) here
      ∙ ap (λ lines. trial_line (command_at count place (drawn_object state 0)) ∷ lines) (
      map-range-same at behind 1 0 (count + 33 - (place + 1)) (λ k less.
      let one : 0 + k ≡ k = omega arith in
      let next : place + (1 + k) ≡ place + 1 + (0 + k) = omega arith in
      let object : drawn_object state (1 + k) ≡ drawn_object (draw_state state 4) (0 + k) =
      sym (drawn_object-after state 1 k) ∙ ap (drawn_object (draw_state state 4)) (sym one) in
      ap (λ p. trial_line (command_at count p (drawn_object state (1 + k)))) next
      ∙ ap (λ o. trial_line (command_at count (place + 1 + (0 + k)) o)) object)
      )

  pub lines_from-none : count + 33 ≤ place → lines_from state place count ≡ []
  unfolding lines_from
  lines_from-none past = let left : count + 33 - place ≡ 0 = omega (arith, past) in ap (λ n. map at (range_with_len 0 n)) left

-- ---- all lines

module _ {X : Type 0} {a b c d e f g h : List X} where
  four : a ≡ e → b ≡ f → c ≡ g → d ≡ h → a ++ b ++ c ++ d ≡ e ++ f ++ g ++ h
  four p q r s =
      ap (λ x. x ++ b ++ c ++ d) p ∙ ap (λ x. e ++ x ++ c ++ d) q ∙ ap (λ x. e ++ f ++ x ++ d) r ∙ ap (λ x. e ++ f ++ g ++ x) s

module _ (seed count : ℕ) where
  -- the command at a place
  abbrev pub placed : ℕ → Command
  placed k = command_at count k (drawn_object seed (16 + k))

  additions : map (addition seed) (range_with_len 0 count) ≡ map placed (range_with_len 0 count)
  additions =
      map-range-same (addition seed) placed 0 0 count (λ k less.
      sym (command_at-addition count (0 + k) (drawn_object seed (16 + (0 + k))) (omega (arith, less))))

  ranges : map (λ i. Range 1 400 (drawn_object seed i)) (range_with_len (16 + count) 16) ≡ map placed (range_with_len count 16)
  ranges =
      map-range-same (λ i. Range 1 400 (drawn_object seed i)) placed (16 + count) count 16 (λ k less.
      let same : 16 + count + k ≡ 16 + (count + k) = omega arith in
      ap (λ i. Range 1 400 (drawn_object seed i)) same
      ∙ sym (command_at-range count (count + k) (drawn_object seed (16 + (count + k))) (omega arith) (omega (arith, less))))

  nearest : map (λ i. Near 0 5 (drawn_object seed i)) (range_with_len (32 + count) 16) ≡ map placed (range_with_len (count + 16) 16)
  nearest =
      map-range-same (λ i. Near 0 5 (drawn_object seed i)) placed (32 + count) (count + 16) 16 (λ k less.
      let same : 32 + count + k ≡ 16 + (count + 16 + k) = omega arith in
      ap (λ i. Near 0 5 (drawn_object seed i)) same
      ∙ sym (command_at-near count (count + 16 + k) (drawn_object seed (16 + (count + 16 + k))) (omega arith) (omega (arith, less))))

  join : Join 0 1 60 ∷ [] ≡ map placed (range_with_len (count + 32) 1)
  join = ap (λ c. c ∷ []) (sym (command_at-join count (count + 32) (drawn_object seed (16 + (count + 32))) (omega arith)))

  pub trial_commands-placed : trial_commands seed count ≡ map placed (range_with_len 0 (count + 33))
  unfolding trial_commands
  trial_commands-placed =
      let all : count + 32 + 1 ≡ count + 33 = omega arith in
      let queries : count + 16 + 16 ≡ count + 32 = omega arith in
      let start : 0 + count ≡ count = omega arith in
      let first : 0 + (count + 16) ≡ count + 16 = omega arith in
      let second : 0 + (count + 32) ≡ count + 32 = omega arith in
      let Commands : Type 0 = List Command in
      let a : Commands = map placed (range_with_len 0 count) in
      let b : Commands = map placed (range_with_len count 16) in
      let c : Commands = map placed (range_with_len (count + 16) 16) in
      let d : Commands = map placed (range_with_len (count + 32) 1) in
      four additions ranges nearest join
      ∙ sym (
      ap (λ n. map placed (range_with_len 0 n)) (sym all)
      ∙ map-range-parts placed 0 (count + 32) 1
      ∙ ap (λ p. map placed (range_with_len 0 (count + 32)) ++ map placed (range_with_len p 1)) second
      ∙ ap (λ n. map placed (range_with_len 0 n) ++ d) (sym queries)
      ∙ ap (λ xs. xs ++ d) (
      map-range-parts placed 0 (count + 16) 16
      ∙ ap (λ p. map placed (range_with_len 0 (count + 16)) ++ map placed (range_with_len p 16)) first
      ∙ ap (λ xs. xs ++ c) (map-range-parts placed 0 count 16 ∙ ap (λ p. a ++ map placed (range_with_len p 16)) start)
      )
      )

-- the lines after the samples
pub lines_from-start : (seed state count : ℕ) → state ≡ draw_state seed 64 → lines_from state 0 count ≡ trial_lines seed count
unfolding lines_from
lines_from-start seed state count is =
    let first : ℕ → Line = λ k. trial_line (command_at count (0 + k) (drawn_object state k)) in
    let all : count + 33 - 0 ≡ count + 33 = omega arith in
    ap (λ n. map first (range_with_len 0 n)) all
    ∙ map-range-same first (λ k. trial_line (placed seed count k)) 0 0 (count + 33) (λ k less.
    let same : 0 + k ≡ k = omega arith in
    ap (λ x. trial_line (command_at count (0 + (0 + k)) (drawn_object x (0 + k)))) is
    ∙ ap (λ o. trial_line (command_at count (0 + (0 + k)) o)) (drawn_object-after seed 16 (0 + k))
    ∙ ap (λ p. trial_line (command_at count (0 + p) (drawn_object seed (16 + (0 + k))))) same
    ∙ ap (λ p. trial_line (command_at count p (drawn_object seed (16 + (0 + k))))) (omega arith))
    ∙ sym (map-map trial_line (placed seed count) (range_with_len 0 (count + 33)))
    ∙ sym (ap (map trial_line) (trial_commands-placed seed count))

-- the line whose text was written
pub line-written : (text old : List ℕ) (command : Command) → text ≡ old ++ command_text trial_space command → old ≡ [] → trial_line command ≡ Text text
line-written text old command is none = ap Text (sym (is ∙ ap (λ front. front ++ command_text trial_space command) none))

-- the next line, and the others
pub lines-given : (lines : List Line) (state place count next : ℕ) (object text old : List ℕ) → place < count + 33 → lines_from state place count ≡ lines
    → object ≡ drawn_object state 0 → next ≡ draw_state state 4 → text ≡ old ++ command_text trial_space (command_at count place object) → old ≡ []
    → lines ≡ Text text ∷ lines_from next (place + 1) count
lines-given lines state place count next object text old more left drawn moved written none =
    let line : trial_line (command_at count place (drawn_object state 0)) ≡ Text text =
    ap (λ o. trial_line (command_at count place o)) (sym drawn) ∙ line-written text old (command_at count place object) written none in
    sym left
    ∙ lines_from-next state place count more
    ∙ ap (λ x. x ∷ lines_from (draw_state state 4) (place + 1) count) line
    ∙ ap (λ x. Text text ∷ lines_from x (place + 1) count) (sym moved)

-- how many lines there are
pub length-trial_lines : (seed count : ℕ) → length (trial_lines seed count) ≡ count + 33
length-trial_lines seed count =
    length-map (trial_commands seed count) trial_line
    ∙ ap length (trial_commands-placed seed count)
    ∙ length-map-range_with_len (placed seed count) 0 (count + 33)
