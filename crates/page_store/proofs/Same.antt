-- After a commit each page is what it was in the change.
use Rattle.std.proofs.Common.{rules, ◌≡◌, ℕ, ◌+◌, ◌*◌, ◌≤◌, false, ◌||◌, if◌then◌else◌, IsTrue, List, [], length, Result, Ok, Err, refl, sym, ap, ◌∙◌}
use Rattle.std.specs.Prelude.{OnOk}
use Rattle.std.proofs.lemmas.Bool.{false≢true}
use Rattle.free_list.specs.FreeNumbers.{is_within}
use Rattle.redo_journal.specs.Pages.{page, magic, IsHome}
use Rattle.redo_journal.specs.Redo.{RecoversTo, overlay, journal_entries, has_open_gate}
use Rattle.page_store.specs.PageStore.{is_home}

-- with a closed gate an image stands for its own pages
itself : (total : ℕ) (image : List ℕ) → 85 ≤ total → length image ≡ 512 * total → has_open_gate image ≡ false
    → RecoversTo total image (magic image) (page image)
itself total image least size closed = record {
  least = least;
  size = size;
  clean = λ opened. absurd (false≢true (sym closed ∙ opened));
  marks_are = refl;
  pages_are = λ n home. ap (λ b. (if b then overlay (journal_entries image) (page image) n else page image n)) closed;
}

-- and it has the pages that it stands for
has_home : (total : ℕ) (image marks : List ℕ) (home : ℕ → List ℕ) → RecoversTo total image marks home → has_open_gate image ≡ false
    → (n : ℕ) → IsHome total n → page image n ≡ home n
has_home total image marks home stands closed n is =
    sym (ap (λ b. (if b then overlay (journal_entries image) (page image) n else page image n)) closed) ∙ stands.pages_are n is

-- a page of the map is one that a change may replace
map_is_home : (total first count n : ℕ) → 85 ≤ first → first + count ≤ total
    → IsTrue (is_home total n || is_within first count n) → IsHome total n
map_is_home total first count n least within is = search (rules, least, within, is)

both : {E : Type 0} (result : Result Unit E) (P Q R : Type 0) → (P → Q → R) → OnOk result P → OnOk result Q → OnOk result R
both (Ok _) P Q R follows p q = follows p q
both (Err _) P Q R follows p q = tt

pub same_pages : {E : Type 0} (result : Result Unit E) (total first count : ℕ) (entries left : List (ℕ × List ℕ)) (old new : List ℕ) → left ≡ []
    → 85 ≤ total → length old ≡ 512 * total → 85 ≤ first → first + count ≤ total → has_open_gate old ≡ false
    → ((marks : List ℕ) (home : ℕ → List ℕ) → RecoversTo total old marks home → has_open_gate old ≡ false
    → OnOk result (RecoversTo total new marks (overlay entries home)))
    → (has_open_gate old ≡ false → OnOk result (has_open_gate new ≡ false))
    → OnOk result ((n : ℕ) → IsTrue (is_home total n || is_within first count n)
    → overlay left (page new) n ≡ overlay entries (page old) n)
same_pages {E} result total first count entries left old new none least size first_least within closed commits stays =
    both result (RecoversTo total new (magic old) (overlay entries (page old))) (has_open_gate new ≡ false)
    ((n : ℕ) → IsTrue (is_home total n || is_within first count n)
    → overlay left (page new) n ≡ overlay entries (page old) n)
    (λ stands shut n is.
    ap (λ es. overlay es (page new) n) none
    ∙ has_home total new (magic old) (overlay entries (page old)) stands shut n (map_is_home total first count n first_least within is))
    (commits (magic old) (page old) (itself total old least size closed) closed) (stays closed)
