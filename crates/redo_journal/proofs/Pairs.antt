-- Pages one after another, and their numbers: taken apart, replaced, and with one more between them.
use Rattle.std.proofs.Common.{◌≡◌, inl, inr, ⊎_elim, Result, Ok, Err, OnOk, ℕ, zero, suc, ◌+◌, ◌*◌, ◌<◌, ◌≤◌, ◌==◌, Bool, true, false, cond, Option, Some, None, IsSome, List, [], ◌∷◌, ◌++◌, length, take, drop, get_or, refl, sym, ◌∙◌, ap, subst, arith, append_assoc, length-append}
use Rattle.std.specs.List.{insert}
use Rattle.std.specs.Map.{keys_of, lookup}
use Rattle.std.proofs.lemmas.Bool.Decides.{nat_tests}
use Rattle.std.specs.Ordering.{nat_cmp, match_ordering}
use Rattle.std.specs.declared.cmp.Ordering.{Ordering}
use Rattle.std.specs.declared.cmp.Ordering.TheVariants.{Less, Equal, Greater}
use Rattle.std.specs.Cmp.{nat_cmp_is}
use Rattle.std.proofs.lemmas.Bool.{cases_lt}
use Rattle.std.proofs.lemmas.List.{drop-append-le, drop-take, take-append-drop, take_at, drop_at, drop-drop, length-take-le, length-drop}
use Rattle.std.proofs.Math.Seq.{take-add}
use Rattle.redo_journal.specs.declared.errors.StageError.{StageError}
use Rattle.redo_journal.specs.Pages.{IsHome}
use Rattle.redo_journal.specs.Header.{AreHomes}
use Rattle.redo_journal.specs.Change.{page_entries, joined_images, with_page, ArePages, StagedPages, IsChange, IsStaged, IsPlaceOf, IsBetween, Stages}

pub length-page_entries : (size : ℕ) (ns bytes : List ℕ) → length (page_entries size ns bytes) ≡ length ns
length-page_entries size [] bytes = refl
length-page_entries size (n ∷ ns) bytes = ap suc (length-page_entries size ns (drop size bytes))

pub keys-page_entries : (size : ℕ) (ns bytes : List ℕ) → keys_of (page_entries size ns bytes) ≡ ns
keys-page_entries size [] bytes = refl
keys-page_entries size (n ∷ ns) bytes = ap (λ ks. n ∷ ks) (keys-page_entries size ns (drop size bytes))

-- one after another the pages are the bytes
pub joined-page_entries : (ns bytes : List ℕ) → length bytes ≡ 512 * length ns → joined_images (page_entries 512 ns bytes) ≡ bytes
joined-page_entries [] [] long = refl
joined-page_entries [] (b ∷ bs) long = absurd (omega (arith, long))
joined-page_entries (n ∷ ns) bytes long =
    ap (λ xs. take 512 bytes ++ xs) (joined-page_entries ns (drop 512 bytes) (length-drop 512 bytes ∙ omega (arith, long)))
    ∙ take-append-drop 512 bytes

-- one page further on
further : (place : ℕ) (bytes : List ℕ) → drop (512 * place) (drop 512 bytes) ≡ drop (512 * suc place) bytes
further place bytes =
    let on : 512 + 512 * place ≡ 512 * suc place = omega arith in
    drop-drop (512 * place) 512 bytes ∙ ap (λ m. drop m bytes) on

front : (place : ℕ) (bytes : List ℕ) → take 512 bytes ++ take (512 * place) (drop 512 bytes) ≡ take (512 * suc place) bytes
front place bytes =
    let on : 512 + 512 * place ≡ 512 * suc place = omega arith in
    sym (take-add 512 (512 * place) bytes) ∙ ap (λ m. take m bytes) on

-- the page at a place
entry_at : (place : ℕ) (ns bytes : List ℕ) → place < length ns
    → page_entries 512 ns bytes ≡ take place (page_entries 512 ns bytes)
    ++ (get_or ns place 0, take 512 (drop (512 * place) bytes)) ∷ drop (suc place) (page_entries 512 ns bytes)
entry_at zero (n ∷ ns) bytes lt = refl
entry_at (suc place) (n ∷ ns) bytes lt =
    ap (λ es. (n, take 512 bytes) ∷ es) (entry_at place ns (drop 512 bytes) (omega (arith, lt))
    ∙ ap (λ xs. take place (page_entries 512 ns (drop 512 bytes))
    ++ (get_or ns place 0, take 512 xs) ∷ drop (suc place) (page_entries 512 ns (drop 512 bytes))) (further place bytes))
entry_at place [] bytes lt = absurd (omega (arith, lt))

pub entry-page_entries : (place : ℕ) (ns bytes : List ℕ) → place < length ns
    → page_entries 512 ns bytes ≡ take place (page_entries 512 ns bytes)
    ++ (get_or ns place 0, take 512 (drop (512 * place) bytes)) ∷ drop (place + 1) (page_entries 512 ns bytes)
entry-page_entries place ns bytes lt =
    let on : suc place ≡ place + 1 = omega arith in
    entry_at place ns bytes lt ∙ ap (λ k. take place (page_entries 512 ns bytes)
    ++ (get_or ns place 0, take 512 (drop (512 * place) bytes)) ∷ drop k (page_entries 512 ns bytes)) on

not_equal : (m n : ℕ) → (m ≡ n → ⊥) → (m == n) ≡ false
not_equal m n apart = grind (arith, nat_tests)

same_number : (m n : ℕ) → m ≡ n → (m == n) ≡ true
same_number m n is = grind (arith, nat_tests)

some_or : (b : Bool) (page : List ℕ) (found : Option (List ℕ)) → IsSome found → IsSome (cond b (Some page) found)
some_or true page found is = refl
some_or false page found is = is

greater : (n m : ℕ) → m < n → nat_cmp n m ≡ Greater
greater n m lt = sym (nat_cmp_is n m Greater lt)

less : (n m : ℕ) → n < m → nat_cmp n m ≡ Less
less n m lt = sym (nat_cmp_is n m Less lt)

equal : (n m : ℕ) → n ≡ m → nat_cmp n m ≡ Equal
equal n m is = sym (nat_cmp_is n m Equal is)

-- a page with its number goes before the first, in its place, or after it
module _ (n m : ℕ) (page first : List ℕ) (es : List (ℕ × List ℕ)) where
  goes_first : n < m → with_page ((m, first) ∷ es) n page ≡ (n, page) ∷ (m, first) ∷ es
  goes_first lt = ap (λ o. match_ordering o ((n, page) ∷ (m, first) ∷ es) ((m, page) ∷ es) ((m, first) ∷ with_page es n page)) (less n m lt)

  goes_here : n ≡ m → with_page ((m, first) ∷ es) n page ≡ (m, page) ∷ es
  goes_here is = ap (λ o. match_ordering o ((n, page) ∷ (m, first) ∷ es) ((m, page) ∷ es) ((m, first) ∷ with_page es n page)) (equal n m is)

  pub goes_behind : m < n → with_page ((m, first) ∷ es) n page ≡ (m, first) ∷ with_page es n page
  goes_behind lt = ap (λ o. match_ordering o ((n, page) ∷ (m, first) ∷ es) ((m, page) ∷ es) ((m, first) ∷ with_page es n page)) (greater n m lt)

-- there is a page then
some_of : (o : Ordering) (a b c : List (ℕ × List ℕ)) → 0 < length a → 0 < length b → 0 < length c → 0 < length (match_ordering o a b c)
some_of Less a b c x y z = x
some_of Equal a b c x y z = y
some_of Greater a b c x y z = z

pub with_page-some : (es : List (ℕ × List ℕ)) (n : ℕ) (page : List ℕ) → 0 < length (with_page es n page)
with_page-some [] n page = omega arith
with_page-some (e ∷ es) n page = some_of (nat_cmp n e.0) ((n, page) ∷ e ∷ es) ((e.0, page) ∷ es) (e ∷ with_page es n page) (omega arith) (omega arith)
    (omega arith)

-- a first page, and then those after it
paired_on : (m : ℕ) (ns first rest : List ℕ) → length first ≡ 512 → page_entries 512 (m ∷ ns) (first ++ rest) ≡ (m, first) ∷ page_entries 512 ns rest
paired_on m ns first rest whole =
    ap (λ p. (m, p) ∷ page_entries 512 ns (drop 512 (first ++ rest))) (take_at first rest 512 whole)
    ∙ ap (λ xs. (m, first) ∷ page_entries 512 ns xs) (drop_at first rest 512 whole)

-- what follows the first page, if a later page is put in or replaced
split_on : (place : ℕ) (bytes tail : List ℕ) → take (512 * suc place) bytes ++ tail ≡ take 512 bytes ++ (take (512 * place) (drop 512 bytes) ++ tail)
split_on place bytes tail = ap (λ xs. xs ++ tail) (sym (front place bytes)) ∙ append_assoc (take 512 bytes) (take (512 * place) (drop 512 bytes)) tail

pub later : (place : ℕ) (ns : List ℕ) → (last total n : ℕ) → AreHomes total last ns → place < length ns → get_or ns place 0 ≡ n → last < n
later zero (m ∷ ns) last total n homes lt is = omega (arith, homes.1, is)
later (suc place) (m ∷ ns) last total n homes lt is = omega (arith, homes.1, later place ns m total n homes.2 (omega (arith, lt)) is)
later place [] last total n homes lt is = absurd (omega (arith, lt))

-- a page takes the place of the one with its number
pub replaced : (place total last n : ℕ) (ns bytes page : List ℕ) → AreHomes total last ns → place < length ns → get_or ns place 0 ≡ n → length page ≡ 512
    → 512 * length ns ≤ length bytes
    → page_entries 512 ns (take (512 * place) bytes ++ (page ++ drop (512 * place + 512) bytes)) ≡ with_page (page_entries 512 ns bytes) n page
replaced zero total last n (m ∷ ns) bytes page homes lt is whole fits =
    paired_on m ns page (drop 512 bytes) whole ∙ sym (goes_here n m page (take 512 bytes) (page_entries 512 ns (drop 512 bytes)) (sym is))
replaced (suc place) total last n (m ∷ ns) bytes page homes lt is whole fits =
    let on : 512 * suc place + 512 ≡ 512 + (512 * place + 512) = omega arith in
    ap (page_entries 512 (m ∷ ns)) (split_on place bytes (page ++ drop (512 * suc place + 512) bytes))
    ∙ paired_on m ns (take 512 bytes) (take (512 * place) (drop 512 bytes) ++ (page ++ drop (512 * suc place + 512) bytes))
    (length-take-le 512 bytes (omega (arith, fits)))
    ∙ ap (λ xs. (m, take 512 bytes) ∷ page_entries 512 ns (take (512 * place) (drop 512 bytes) ++ (page ++ xs))) (ap (λ k. drop k bytes) on
    ∙ sym (drop-drop (512 * place + 512) 512 bytes))
    ∙ ap (λ es. (m, take 512 bytes) ∷ es)
    (replaced place total m n ns (drop 512 bytes) page homes.2 (omega (arith, lt)) is whole (omega (arith, fits, length-drop 512 bytes)))
    ∙ sym (goes_behind n m page (take 512 bytes) (page_entries 512 ns (drop 512 bytes)) (later place ns m total n homes.2 (omega (arith, lt)) is))
replaced place total last n [] bytes page homes lt is whole fits = absurd (omega (arith, lt))

-- a page is added to the others
pub joins : (place n : ℕ) (ns bytes page : List ℕ) → place ≤ length ns → ((k : ℕ) → k < place → get_or ns k 0 < n)
    → ((k : ℕ) → place ≤ k → k < length ns → n < get_or ns k 0)
    → length page ≡ 512 → 512 * length ns ≤ length bytes
    → page_entries 512 (insert ns place n) (take (512 * place) bytes ++ (page ++ drop (512 * place) bytes)) ≡ with_page (page_entries 512 ns bytes) n page
joins zero n [] bytes page le below above whole fits = paired_on n [] page bytes whole
joins zero n (m ∷ ns) bytes page le below above whole fits =
    paired_on n (m ∷ ns) page bytes whole
    ∙ sym (goes_first n m page (take 512 bytes) (page_entries 512 ns (drop 512 bytes)) (above 0 (omega arith) (omega arith)))
joins (suc place) n (m ∷ ns) bytes page le below above whole fits =
    ap (page_entries 512 (m ∷ insert ns place n)) (split_on place bytes (page ++ drop (512 * suc place) bytes))
    ∙ paired_on m (insert ns place n) (take 512 bytes) (take (512 * place) (drop 512 bytes) ++ (page ++ drop (512 * suc place) bytes))
    (length-take-le 512 bytes (omega (arith, fits)))
    ∙ ap (λ xs. (m, take 512 bytes) ∷ page_entries 512 (insert ns place n) (take (512 * place) (drop 512 bytes) ++ (page ++ xs))) (sym (further place bytes))
    ∙ ap (λ es. (m, take 512 bytes) ∷ es) (joins place n ns (drop 512 bytes) page (omega (arith, le)) (λ k lt. below (suc k) (omega (arith, lt)))
    (λ k ge lt. above (suc k) (omega (arith, ge)) (omega (arith, lt))) whole (omega (arith, fits, length-drop 512 bytes)))
    ∙ sym (goes_behind n m page (take 512 bytes) (page_entries 512 ns (drop 512 bytes)) (below 0 (omega arith)))
joins (suc place) n [] bytes page le below above whole fits = absurd (omega (arith, le))

-- the same of equal entries
pub is_at : (place : ℕ) (es now : List (ℕ × List ℕ)) (n m : ℕ) (page other : List ℕ) → es ≡ now → m ≡ n → other ≡ page
    → es ≡ take place es ++ (n, page) ∷ drop (place + 1) es → now ≡ take place now ++ (m, other) ∷ drop (place + 1) now
is_at place es now n m page other same number pages is =
    subst (λ (l : List (ℕ × List ℕ)). l ≡ take place l ++ (m, other) ∷ drop (place + 1) l) same
    (is ∙ ap (λ e. take place es ++ (e, page) ∷ drop (place + 1) es) (sym number) ∙ ap (λ p. take place es ++ (m, p) ∷ drop (place + 1) es) (sym pages))

-- a number that isn't there
absent : (n : ℕ) (ns bytes : List ℕ) → ((k : ℕ) → k < length ns → get_or ns k 0 ≡ n → ⊥) → lookup (λ m. m == n) (page_entries 512 ns bytes) ≡ None
absent n [] bytes none = refl
absent n (m ∷ ns) bytes none =
    ap (λ b. cond b (Some (take 512 bytes)) (lookup (λ k. k == n) (page_entries 512 ns (drop 512 bytes)))) (not_equal m n (none 0 (omega arith)))
    ∙ absent n ns (drop 512 bytes) (λ k lt. none (suc k) (omega (arith, lt)))

pub absent_between : (n place : ℕ) (ns bytes : List ℕ) → IsBetween ns n place → lookup (λ m. m == n) (page_entries 512 ns bytes) ≡ None
absent_between n place ns bytes between =
    absent n ns bytes (λ k lt is. ⊎_elim (λ l. omega (arith, between.1 k l, is)) (λ l. omega (arith, between.2 k l lt, is)) (cases_lt k place))

-- one that is
pub present : (n place : ℕ) (ns bytes : List ℕ) → place < length ns → get_or ns place 0 ≡ n → IsSome (lookup (λ m. m == n) (page_entries 512 ns bytes))
present n zero (m ∷ ns) bytes lt is = subst
    (λ (b : Bool). IsSome (cond b (Some (take 512 bytes)) (lookup (λ k. k == n) (page_entries 512 ns (drop 512 bytes))))) (sym (same_number m n is)) refl
present n (suc place) (m ∷ ns) bytes lt is =
    some_or (m == n) (take 512 bytes) (lookup (λ k. k == n) (page_entries 512 ns (drop 512 bytes))) (present n place ns (drop 512 bytes) (omega (arith, lt)) is)
present n place [] bytes lt is = absurd (omega (arith, lt))

-- the numbers don't fall
pub rises : (total last : ℕ) (ns : List ℕ) → AreHomes total last ns → (i j : ℕ) → i ≤ j → j < length ns → get_or ns i 0 ≤ get_or ns j 0
rises total last (m ∷ ns) homes zero zero le lt = omega arith
rises total last (m ∷ ns) homes zero (suc j) le lt = omega (arith, later j ns m total (get_or ns j 0) homes.2 (omega (arith, lt)) refl)
rises total last (m ∷ ns) homes (suc i) (suc j) le lt = rises total m ns homes.2 i j (omega (arith, le)) (omega (arith, lt))
rises total last (m ∷ ns) homes (suc i) zero le lt = absurd (omega (arith, le))
rises total last [] homes i j le lt = absurd (omega (arith, lt))

pub positive : (total n : ℕ) → IsHome total n → 0 < n
positive total n (inl low) = low.0
positive total n (inr high) = omega (arith, high)

-- a number is added to the others
pub homes_insert : (total last place n : ℕ) (ns : List ℕ) → AreHomes total last ns → IsHome total n → last < n → place ≤ length ns
    → ((k : ℕ) → k < place → get_or ns k 0 < n)
    → ((k : ℕ) → place ≤ k → k < length ns → n < get_or ns k 0) → AreHomes total last (insert ns place n)
homes_insert total last zero n [] homes home rise le below above = (home, rise, tt)
homes_insert total last zero n (m ∷ ns) homes home rise le below above = (home, rise, (homes.0, above 0 (omega arith) (omega arith), homes.2))
homes_insert total last (suc place) n (m ∷ ns) homes home rise le below above = (
  homes.0,
  homes.1,
  homes_insert total m place n ns homes.2 home (below 0 (omega arith)) (omega (arith, le)) (λ k lt. below (suc k) (omega (arith, lt)))
      (λ k ge lt. above (suc k) (omega (arith, ge)) (omega (arith, lt))),
)
homes_insert total last (suc place) n [] homes home rise le below above = absurd (omega (arith, le))

-- after the header: the bytes once a page is replaced at a place, or put there
split_behind : (place tail : ℕ) (body page : List ℕ) → 512 * (place + 1) ≤ length body
    → drop 512 (take (512 * (place + 1)) body ++ (page ++ drop tail body)) ≡ take (512 * place) (drop 512 body) ++ (page ++ drop tail body)
split_behind place tail body page within =
    let on : 512 * (place + 1) ≡ 512 + 512 * place = omega arith in
    drop-append-le 512 (take (512 * (place + 1)) body) (page ++ drop tail body) (omega (arith, length-take-le (512 * (place + 1)) body within))
    ∙ ap (λ xs. xs ++ (page ++ drop tail body)) (ap (λ m. drop 512 (take m body)) on ∙ drop-take 512 (512 * place) body)

module _ (total capacity n place : ℕ) (numbers body page : List ℕ) (staged : IsStaged total numbers body capacity) (whole : length page ≡ 512) where
  images : List ℕ
  images = drop 512 body

  long : length (drop 512 body) ≡ 512 * length numbers
  long = length-drop 512 body ∙ omega (arith, staged.long)

  pub stage_replaces : IsPlaceOf numbers n place
      → Stages (Ok tt) (page_entries 512 numbers (drop 512 body)) n page
      (page_entries 512 numbers (drop 512 (take (512 * (place + 1)) body ++ (page ++ drop (512 * (place + 1) + 512) body))))
  stage_replaces at =
      let on : 512 * (place + 1) + 512 ≡ 512 + (512 * place + 512) = omega arith in (
        ap (page_entries 512 numbers) (split_behind place (512 * (place + 1) + 512) body page (omega (arith, at.0, staged.long))
            ∙ ap (λ xs. take (512 * place) (drop 512 body) ++ (page ++ xs)) (ap (λ m. drop m body) on ∙ sym (drop-drop (512 * place + 512) 512 body)))
            ∙ replaced place total 0 n numbers (drop 512 body) page staged.homes at.0 at.1 whole (omega (arith, long)),
        inr (present n place numbers (drop 512 body) at.0 at.1),
      )

  pub stage_joins : IsBetween numbers n place → length numbers < 80
      → Stages (Ok tt) (page_entries 512 numbers (drop 512 body)) n page
      (page_entries 512 (insert numbers place n) (drop 512 (take (512 * (place + 1)) body ++ (page ++ drop (512 * (place + 1)) body))))
  stage_joins between room =
      let on : 512 * (place + 1) ≡ 512 + 512 * place = omega arith in (
        ap (page_entries 512 (insert numbers place n)) (split_behind place (512 * (place + 1)) body page (omega (arith, between.0, staged.long))
            ∙ ap (λ xs. take (512 * place) (drop 512 body) ++ (page ++ xs)) (ap (λ m. drop m body) on ∙ sym (drop-drop (512 * place) 512 body)))
            ∙ joins place n numbers (drop 512 body) page between.0 between.1 between.2 whole (omega (arith, long)),
        inl (omega (arith, room, length-page_entries 512 numbers (drop 512 body))),
      )

  pub stage_refuses : IsBetween numbers n place → length numbers ≡ 80 → (length (page_entries 512 numbers (drop 512 body)) ≡ 80)
      × (lookup (λ m. m == n) (page_entries 512 numbers (drop 512 body)) ≡ None)
  stage_refuses between full = (
    length-page_entries 512 numbers (drop 512 body) ∙ full,
    absent_between n place numbers (drop 512 body) between,
  )

  pub joins_staged : (later : ℕ) → IsHome total n → IsBetween numbers n place → length numbers < 80 → capacity ≤ later
      → IsStaged total (insert numbers place n) (take (512 * (place + 1)) body ++ (page ++ drop (512 * (place + 1)) body)) later
  joins_staged later home between room kept =
      let front : length (take (512 * (place + 1)) body) ≡ 512 * (place + 1) =
      length-take-le (512 * (place + 1)) body (omega (arith, between.0, staged.long)) in
      let more : length (insert numbers place n) ≡ length numbers + 1 =
      length-append (take place numbers) (n ∷ drop place numbers)
      ∙ omega (arith, length-take-le place numbers between.0, length-drop place numbers, between.0) in record {
        small = staged.small;
        homes = homes_insert total 0 place n numbers staged.homes home (positive total n home) between.0 between.1 between.2;
        few = omega (arith, more, room);
        long = length-append (take (512 * (place + 1)) body) (page ++ drop (512 * (place + 1)) body)
            ∙ omega (
              arith,
              front,
              whole,
              more,
              between.0,
              staged.long,
              length-append page (drop (512 * (place + 1)) body),
              length-drop (512 * (place + 1)) body,
            );
        room = omega (arith, kept, staged.room);
      }

-- a number among those of a change
pub home_at : (total last place : ℕ) (ns : List ℕ) → AreHomes total last ns → place < length ns → IsHome total (get_or ns place 0)
home_at total last zero (n ∷ ns) homes lt = homes.0
home_at total last (suc place) (n ∷ ns) homes lt = home_at total n place ns homes.2 (omega (arith, lt))
home_at total last place [] homes lt = absurd (omega (arith, lt))

pages-page_entries : (ns bytes : List ℕ) → 512 * length ns ≤ length bytes → ArePages (page_entries 512 ns bytes)
pages-page_entries [] bytes long = tt
pages-page_entries (n ∷ ns) bytes long =
    (length-take-le 512 bytes (omega (arith, long)), pages-page_entries ns (drop 512 bytes) (omega (arith, long, length-drop 512 bytes)))

-- what is kept in memory is sound
pub is_sound : (total capacity : ℕ) (ns body : List ℕ) (now : StagedPages) → IsStaged total ns body capacity
    → record { total = total; header = take 512 body; pages = page_entries 512 ns (drop 512 body) } ≡ now → IsChange now
is_sound total capacity ns body now staged is = subst IsChange is (record {
  few = omega (arith, staged.few, length-page_entries 512 ns (drop 512 body));
  homes = subst (AreHomes total 0) (sym (keys-page_entries 512 ns (drop 512 body))) staged.homes;
  whole = pages-page_entries ns (drop 512 body) (omega (arith, staged.long, length-drop 512 body));
  small = staged.small;
})

pub stages_some : (result : Result Unit StageError) (old new : List (ℕ × List ℕ)) (n : ℕ) (page : List ℕ) → Stages result old n page new
    → OnOk result (0 < length new)
stages_some (Ok u) old new n page stages = subst (λ l. 0 < length l) (sym stages.0) (with_page-some old n page)
stages_some (Err e) old new n page stages = tt
