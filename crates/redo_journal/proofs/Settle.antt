-- What is on the disk while the pages of a change go home.
use Rattle.std.proofs.Common.{◌≡◌, ◌⊎◌, inl, inr, ⊎_elim, ℕ, suc, ◌+◌, ◌*◌, ◌<◌, ◌≤◌, ◌==◌, ◌||◌, Bool, true, false, cond, if◌then◌else◌, Option, Some, Result, Ok, Err, OnOk, List, [], ◌∷◌, ◌++◌, length, take, drop, slice_index, refl, sym, ◌∙◌, ap, subst, arith}
use Rattle.std.specs.Map.{keys_of, lookup}
use Rattle.std.proofs.lemmas.Bool.{false≢true, cases_lt}
use Rattle.std.proofs.lemmas.Bool.Decides.{nat_tests}
use Rattle.spb_edge.specs.Crash.{IsTornWrite}
use Rattle.spb_edge.specs.Disk.{overwritten_at}
use Rattle.spb_edge.specs.Tears.{torn-overwritten_at}
use Rattle.std.proofs.Math.Seq.{take-append-add}
use Rattle.std.proofs.lemmas.List.{length-take-le}
use Rattle.redo_journal.specs.Pages.{page, gate}
use Rattle.redo_journal.specs.Header.{page_numbers, IsHeader, AreHomes}
use Rattle.redo_journal.specs.Redo.{has_open_gate, entries_from, journal_entries, overlay, page_or, redo_page, RecoversTo, is_listed, DiffersWithin}
use Rattle.redo_journal.specs.declared.errors.RecoverError.{RecoverError}
use Rattle.redo_journal.specs.Change.{AreInPlace, HoldsChange, IsRedone, Recovers}
use Rattle.redo_journal.proofs.Pages.{laid_page, laid_gate, torn_size, torn_page, gate_same, magic_same, byte_same}
use Rattle.redo_journal.proofs.Home.{survives, not_among, journal_same, redo_opened, redo_closed, home_positive, home_within}
use Rattle.redo_journal.proofs.Commit.{GateAlone, gate_torn}

apart : (m n : ℕ) (numbers : List ℕ) → is_listed m numbers ≡ false → is_listed n numbers ≡ true → m ≡ n → ⊥
apart m n numbers free among is = false≢true (sym free ∙ ap (λ k. is_listed k numbers) is ∙ among)

-- a page of the change goes home: what was equal elsewhere stays equal
pub page_goes_home : (total n : ℕ) (numbers start old c : List ℕ) → n < total → length start ≡ 512 * total → is_listed n numbers ≡ true
    → DiffersWithin total numbers start old → IsTornWrite (512 * n) 512 old c → DiffersWithin total numbers start c
page_goes_home total n numbers start old c within long among so_far torn =
    let size : length old ≡ 512 * total = so_far.size ∙ long in record {
      size = torn_size (512 * n) 512 old c torn (omega (arith, size, within)) ∙ so_far.size;
      pages_are = λ m lt free. torn_page (512 * n) 512 old c torn m (omega (arith, lt, size)) (beside m (apart m n numbers free among))
          ∙ so_far.pages_are m lt free;
    }
  where
    beside : (m : ℕ) → (m ≡ n → ⊥) → (512 * m + 512 ≤ 512 * n) ⊎ (512 * n + 512 ≤ 512 * m)
    beside m other = ⊎_elim (λ lt. inl (omega (arith, lt)))
        (λ ge. ⊎_elim (λ lt. inr (omega (arith, lt))) (λ le. absurd (other (omega (arith, ge, le)))) (cases_lt n m)) (cases_lt m n)

pub differs_none : (total : ℕ) (numbers image : List ℕ) → DiffersWithin total numbers image image
differs_none total numbers image = record { size = refl; pages_are = λ n lt free. refl }

-- the entry at a place: its number is among those of all, and those before it are lower
among_middle : (before after : List (ℕ × List ℕ)) (n : ℕ) (p : List ℕ) → is_listed n (keys_of (before ++ (n, p) ∷ after)) ≡ true
among_middle [] after n p = here n (is_listed n (keys_of after))
  where
    here : (n : ℕ) (b : Bool) → ((n == n) || b) ≡ true
    here n b = grind (arith, nat_tests)
among_middle (e ∷ before) after n p = any_way (e.0 == n) (is_listed n (keys_of (before ++ (n, p) ∷ after))) (among_middle before after n p)
  where
    any_way : (a b : Bool) → b ≡ true → (a || b) ≡ true
    any_way true b is = refl
    any_way false b is = is

pub among : (es before after : List (ℕ × List ℕ)) (n : ℕ) (p : List ℕ) → es ≡ before ++ (n, p) ∷ after → is_listed n (keys_of es) ≡ true
among es before after n p is = ap (λ l. is_listed n (keys_of l)) is ∙ among_middle before after n p

-- all numbers are below this one
abbrev pub AreBelow : ℕ → List (ℕ × List ℕ) → Type 0
AreBelow n [] = Unit {0}
AreBelow n (e ∷ es) = (e.0 < n) × AreBelow n es

first_below : (total last n : ℕ) (p : List ℕ) (before after : List (ℕ × List ℕ)) → AreHomes total last (keys_of (before ++ (n, p) ∷ after)) → last < n
first_below total last n p [] after homes = homes.1
first_below total last n p (e ∷ before) after homes = omega (arith, homes.1, first_below total e.0 n p before after homes.2)

before_below : (total last n : ℕ) (p : List ℕ) (before after : List (ℕ × List ℕ)) → AreHomes total last (keys_of (before ++ (n, p) ∷ after)) → AreBelow n before
before_below total last n p [] after homes = tt
before_below total last n p (e ∷ before) after homes = (first_below total e.0 n p before after homes.2, before_below total e.0 n p before after homes.2)

-- the pages that are home stay there when the next one goes home
placed_kept : (n : ℕ) (es : List (ℕ × List ℕ)) (old new : List ℕ) → AreBelow n es → 512 * n + 512 ≤ length old → IsTornWrite (512 * n) 512 old new
    → AreInPlace es old → AreInPlace es new
placed_kept n [] old new below within torn placed = tt
placed_kept n (e ∷ es) old new below within torn placed = (
  torn_page (512 * n) 512 old new torn e.0 (omega (arith, below.0, within)) (inl (omega (arith, below.0)))
      ∙ placed.0,
  placed_kept n es old new below.1 within torn placed.1,
)

placed_push : (es : List (ℕ × List ℕ)) (n : ℕ) (p image : List ℕ) → AreInPlace es image → page image n ≡ p → AreInPlace (es ++ (n, p) ∷ []) image
placed_push [] n p image placed is = (is, tt)
placed_push (e ∷ es) n p image placed is = (placed.0, placed_push es n p image placed.1 is)

pub placed_on : (total n : ℕ) (p : List ℕ) (es before after : List (ℕ × List ℕ)) (old new : List ℕ) → es ≡ before ++ (n, p) ∷ after
    → AreHomes total 0 (keys_of es)
    → 512 * n + 512 ≤ length old → IsTornWrite (512 * n) 512 old new → page new n ≡ p → AreInPlace before old → AreInPlace (before ++ (n, p) ∷ []) new
placed_on total n p es before after old new is homes within torn there placed =
    placed_push before n p new (placed_kept n before old new (before_below total 0 n p before after (subst (λ l. AreHomes total 0 (keys_of l)) is homes))
    within torn placed) there

-- if all pages are home, each page is as the recovery would have it
over_placed : (b : Bool) (found : Option (List ℕ)) (p f here : List ℕ) (among : Bool) → (b ≡ true → here ≡ p) → ((b || among) ≡ false → here ≡ f)
    → ((among ≡ false → here ≡ f) → here ≡ page_or found f) → here ≡ page_or (cond b (Some p) found) f
over_placed true found p f here among is same rest = is refl
over_placed false found p f here among is same rest = rest same

pub placed_over : (es : List (ℕ × List ℕ)) (image : List ℕ) (f : ℕ → List ℕ) (n : ℕ) → AreInPlace es image
    → (is_listed n (keys_of es) ≡ false → page image n ≡ f n) → page image n ≡ overlay es f n
placed_over [] image f n placed same = same refl
placed_over (e ∷ es) image f n placed same =
    over_placed (e.0 == n) (lookup (λ m. m == n) es) e.1 (f n) (page image n) (is_listed n (keys_of es))
    (λ is. ap (page image) (sym (same_number e.0 n is)) ∙ placed.0) same (λ rest. placed_over es image f n placed.1 rest)
  where
    same_number : (m k : ℕ) → (m == k) ≡ true → m ≡ k
    same_number m k is = grind (arith, nat_tests)

-- the keys of a journal are the numbers of its header
keys-images : (image : List ℕ) (i : ℕ) (ns : List ℕ) → keys_of (entries_from image i ns) ≡ ns
keys-images image i [] = refl
keys-images image i (n ∷ ns) = ap (λ ks. n ∷ ks) (keys-images image (suc i) ns)

pub keys-journal : (image : List ℕ) → keys_of (journal_entries image) ≡ page_numbers (page image 4)
unfolding journal_entries
keys-journal image = keys-images image 5 (page_numbers (page image 4))

-- each page is as redone, and the gate is closed, whatever byte it is
pub record IsClosed (total : ℕ) (old new : List ℕ) : Type 0 where
  pub size : length new ≡ length old
  pub closed : has_open_gate new ≡ false
  pub mark_is : (k : ℕ) → k < 512 → (k ≡ 16 → ⊥) → slice_index new k ≡ slice_index old k
  pub pages_are : (n : ℕ) → 0 < n → n < total → page new n ≡ redo_page old n

-- an image with its gate open, and one that differs only within the pages of its journal
module _ (total : ℕ) (es : List (ℕ × List ℕ)) (start now : List ℕ) (least : 85 ≤ total) (homes : AreHomes total 0 (keys_of es)) (holds : HoldsChange es start)
    (differs : DiffersWithin total (keys_of es) start now) where
  same_mark : page now 0 ≡ page start 0
  same_mark = differs.pages_are 0 (omega (arith, least)) (not_among total 0 0 (keys_of es) homes (inl refl))

  still_open : has_open_gate now ≡ true
  still_open = ap (λ g. g == 1) (gate_same start now same_mark) ∙ holds.is_opened

  -- stands for the same
  pub differs_home : (marks : List ℕ) (home : ℕ → List ℕ) → RecoversTo total start marks home → RecoversTo total now marks home
  differs_home marks home stands =
      survives total start now marks home stands holds.is_opened
      (subst (λ (ns : List ℕ). DiffersWithin total ns start now) (sym (ap keys_of holds.journal_is) ∙ keys-journal start) differs)

  -- and if all pages are home, each is as the recovery would have it
  pub placed_redone : AreInPlace es now → (n : ℕ) → n < total → page now n ≡ redo_page start n
  placed_redone placed n lt =
      placed_over es now (page start) n placed (λ free. differs.pages_are n lt free)
      ∙ ap (λ l. overlay l (page start) n) (sym holds.journal_is)
      ∙ sym (redo_opened start n holds.is_opened)

  -- with the gate closed after them
  pub closed_redone : (c : List ℕ) → AreInPlace es now → GateAlone total now c → has_open_gate c ≡ false → IsClosed total start c
  closed_redone c placed alone closed = record {
    size = alone.size ∙ differs.size;
    closed = closed;
    mark_is = λ k lt other. alone.mark_is k lt other ∙ byte_same start now k lt same_mark;
    pages_are = λ n pos lt. alone.pages_are n pos lt ∙ placed_redone placed n lt;
  }

  -- which is 0
  pub gate_redone : (c : List ℕ) → AreInPlace es now → GateAlone total now c → gate c ≡ 0 → IsRedone total start c
  gate_redone c placed alone is =
      let closed = closed_redone c placed alone (ap (λ g. g == 1) is) in record {
        size = closed.size;
        gate_is = is ∙ sym (ap (λ b. if b then 0 else gate start) holds.is_opened);
        mark_is = closed.mark_is;
        pages_are = closed.pages_are;
      }

-- an image whose gate was closed, and is the same
pub closed_same : (total : ℕ) (image : List ℕ) → has_open_gate image ≡ false → IsRedone total image image
closed_same total image closed = record {
  size = refl;
  gate_is = sym (ap (λ b. if b then 0 else gate image) closed);
  mark_is = λ k lt other. refl;
  pages_are = λ n pos lt. sym (redo_closed image n closed);
}

-- a recovery leaves a closed gate
pub redone_closed : (total : ℕ) (old new : List ℕ) → IsRedone total old new → has_open_gate new ≡ false
redone_closed total old new redone = either (has_open_gate old) refl
  where
    either : (b : Bool) → has_open_gate old ≡ b → has_open_gate new ≡ false
    either true opened = ap (λ g. g == 1) (redone.gate_is ∙ ap (λ b. if b then 0 else gate old) opened)
    either false closed = ap (λ g. g == 1) (redone.gate_is ∙ ap (λ b. if b then 0 else gate old) closed) ∙ closed

-- an image as the recovery leaves it stands for the same
closed_stands : (total : ℕ) (old new marks : List ℕ) (home : ℕ → List ℕ) → IsClosed total old new → RecoversTo total old marks home
    → RecoversTo total new marks home
closed_stands total old new marks home redone stands = record {
  least = stands.least;
  size = redone.size ∙ stands.size;
  clean = λ opened. absurd (false≢true (sym redone.closed ∙ opened));
  marks_are =
      magic_same old new (omega (arith, stands.size, stands.least)) (omega (arith, redone.size))
      (λ k lt. redone.mark_is k (omega (arith, lt)) (λ is. omega (arith, lt, is)))
      ∙ stands.marks_are;
  pages_are = λ n is. redo_closed new n redone.closed ∙ redone.pages_are n (home_positive total n is) (home_within total n stands.least is)
      ∙ stands.pages_are n is;
}

pub redone_home : (total : ℕ) (old new marks : List ℕ) (home : ℕ → List ℕ) → IsRedone total old new → RecoversTo total old marks home
    → RecoversTo total new marks home
redone_home total old new marks home redone stands =
    closed_stands total old new marks home
    (record { size = redone.size; closed = redone_closed total old new redone; mark_is = redone.mark_is; pages_are = redone.pages_are }) stands

-- the same of an answer
pub recovers_home : (total : ℕ) (result : Result Unit RecoverError) (old new marks : List ℕ) (home : ℕ → List ℕ) → Recovers total result old new
    → RecoversTo total old marks home
    → OnOk result (RecoversTo total new marks home)
recovers_home total (Ok u) old new marks home recovers stands = redone_home total old new marks home recovers.1 stands
recovers_home total (Err e) old new marks home recovers stands = tt

pub recovers_closed : (total : ℕ) (result : Result Unit RecoverError) (old new : List ℕ) → Recovers total result old new
    → OnOk result (has_open_gate new ≡ false)
recovers_closed total (Ok u) old new recovers = redone_closed total old new recovers.1
recovers_closed total (Err e) old new recovers = tt

-- while the gate is open, the rest of the mark page is no matter
open_alike : (total : ℕ) (now c marks : List ℕ) (home : ℕ → List ℕ) → GateAlone total now c → has_open_gate now ≡ true → has_open_gate c ≡ true
    → RecoversTo total now marks home → RecoversTo total c marks home
open_alike total now c marks home alone opened opened_too stands =
    let header = stands.clean opened in
    let kept : (k : ℕ) → 4 ≤ k → k < 85 → page c k ≡ page now k = λ k low high. alone.pages_are k (omega (arith, low)) (omega (arith, high, stands.least)) in
    record {
      least = stands.least;
      size = alone.size ∙ stands.size;
      clean = λ _. subst (IsHeader total) (sym (kept 4 (omega arith) (omega arith))) header;
      marks_are = alone.magic_is ∙ stands.marks_are;
      pages_are = λ n is.
          redo_opened c n opened_too
          ∙ ap (λ es. overlay es (page c) n) (journal_same now c header.count.1 kept)
          ∙ ap (page_or (lookup (λ m. m == n) (journal_entries now))) (alone.pages_are n (home_positive total n is) (home_within total n stands.least is))
          ∙ sym (redo_opened now n opened)
          ∙ stands.pages_are n is;
    }

-- while the gate is closed, the image stands for the same either way
pub gate_closes : (total : ℕ) (es : List (ℕ × List ℕ)) (start now c marks : List ℕ) (home : ℕ → List ℕ) → AreHomes total 0 (keys_of es) → HoldsChange es start
    → DiffersWithin total (keys_of es) start now → AreInPlace es now → GateAlone total now c → RecoversTo total start marks home → RecoversTo total c marks home
gate_closes total es start now c marks home homes holds differs placed alone stands = either (has_open_gate c) refl
  where
    either : (b : Bool) → has_open_gate c ≡ b → RecoversTo total c marks home
    either false closed = closed_stands total start c marks home (closed_redone total es start now stands.least homes holds differs c placed alone closed)
        stands
    either true opened =
        open_alike total now c marks home alone (still_open total es start now stands.least homes holds differs) opened
        (differs_home total es start now stands.least homes holds differs marks home stands)

-- the gate was written: nothing else changed
pub gate_laid : (total value : ℕ) (old new : List ℕ) → 85 ≤ total → length old ≡ 512 * total → new ≡ overwritten_at old 16 (value ∷ [])
    → GateAlone total old new × (gate new ≡ value)
gate_laid total value old new least long is = (
  gate_torn total old new least long (subst (IsTornWrite 16 1 old) (sym is) (torn-overwritten_at old 16 (value ∷ []) (omega (arith, least, long)))),
  ap gate is ∙ laid_gate old value (omega (arith, least, long)),
)

take_one : (place : ℕ) (es : List (ℕ × List ℕ)) (e : ℕ × List ℕ) → es ≡ take place es ++ e ∷ drop (place + 1) es → place ≤ length es
    → take (place + 1) es ≡ take place es ++ e ∷ []
take_one place es e is le =
    let at : place + 1 ≡ length (take place es) + 1 = omega (arith, length-take-le place es le) in
    ap (take (place + 1)) is ∙ ap (λ k. take k (take place es ++ e ∷ drop (place + 1) es)) at ∙ take-append-add (take place es) (e ∷ drop (place + 1) es) 1

-- the next page of the change was written to its place
pub goes_home : (total n place : ℕ) (p start old new : List ℕ) (es : List (ℕ × List ℕ)) → es ≡ take place es ++ (n, p) ∷ drop (place + 1) es → place < length es
    → AreHomes total 0 (keys_of es) → n < total → length start ≡ 512 * total → length p ≡ 512 → new ≡ overwritten_at old (512 * n) p
    → AreInPlace (take place es) old → DiffersWithin total (keys_of es) start old → AreInPlace (take (place + 1) es) new
    × DiffersWithin total (keys_of es) start new
goes_home total n place p start old new es is more homes within long whole laid_is placed differs =
    let size : length old ≡ 512 * total = differs.size ∙ long in
    let torn : IsTornWrite (512 * n) 512 old new =
    subst (IsTornWrite (512 * n) 512 old) (sym laid_is)
    (subst (λ (m : ℕ). IsTornWrite (512 * n) m old (overwritten_at old (512 * n) p)) whole
    (torn-overwritten_at old (512 * n) p (omega (arith, size, within)))) in
    let there : page new n ≡ p = ap (λ i. page i n) laid_is ∙ laid_page old p n (omega (arith, size, within)) whole in (
      subst (λ l. AreInPlace l new) (sym (take_one place es (n, p) is (omega (arith, more))))
          (placed_on total n p es (take place es) (drop (place + 1) es) old new is homes (omega (arith, size, within)) torn there placed),
      page_goes_home total n (keys_of es) start old new within long (among es (take place es) (drop (place + 1) es) n p is) differs torn,
    )
