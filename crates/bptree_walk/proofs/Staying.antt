-- Pages that stay as they were, call after call.
use Rattle.std.proofs.Common.{ℕ, ◌≤◌, Bool, List, Ok, Err, refl, subst, ◌∙◌, arith}
use Rattle.std.specs.Prelude.{IsTrue, Result}
use Rattle.page_laws.specs.Calls.{PagesStay}
use Rattle.page_laws.specs.Errors.{CountsTreeFault}
use Rattle.page_laws.specs.Pages.{is_live}
use Rattle.page_laws.specs.declared.errors.TreeError.{TreeError}
use Rattle.page_laws.specs.declared.errors.TreeError.TheVariants as tree
use Rattle.page_laws.specs.declared.pages.Pages.{Ghosts}

module _ {P : Type 0} (G : Ghosts P) where
  abbrev pub Stay : P → P → Type 0
  Stay old new = PagesStay G.is_known G.has G.in_pool G.page_at G.free G.is_open G.put_pages G.calm old new

  abbrev pub live_of : P → ℕ → Bool
  live_of pages = is_live (G.in_pool pages) (G.free pages)

  pub stays_same : ((p : P) → G.calm p p) → (p : P) → Stay p p
  stays_same same p = record {
    continues = record { told = refl; map = refl; pool = refl; free_pages = refl; change = refl; calmly = same p };
    contents = λ known. refl;
    put = refl;
  }

  module _ (old mid : P) (first : Stay old mid) where
    pub known_on : IsTrue (G.is_known old) → IsTrue (G.is_known mid)
    known_on known = first.continues.told ∙ known

    pub stays_on : ((a b c : P) → G.calm a b → G.calm b c → G.calm a c) → (new : P) → Stay mid new → Stay old new
    stays_on chains new second = record {
      continues = record {
        told = second.continues.told ∙ first.continues.told;
        map = second.continues.map ∙ first.continues.map;
        pool = second.continues.pool ∙ first.continues.pool;
        free_pages = second.continues.free_pages ∙ first.continues.free_pages;
        change = second.continues.change ∙ first.continues.change;
        calmly = chains old mid new first.continues.calmly second.continues.calmly;
      };
      contents = λ known. second.contents (known_on known) ∙ first.contents known;
      put = second.put ∙ first.put;
    }

    -- what is said of the pages as they are, said of them as they were
    pub as_before : (F : (ℕ → List ℕ) → (ℕ → Bool) → Type 0) → IsTrue (G.is_known old) → F (G.page_at mid) (live_of mid) → F (G.page_at old) (live_of old)
    as_before F known now =
        subst (λ (in_pool : ℕ → Bool). F (G.page_at old) (is_live in_pool (G.free old))) first.continues.pool
        (subst (λ (free : List ℕ). F (G.page_at old) (is_live (G.in_pool mid) free)) first.continues.free_pages
        (subst (λ (pages : ℕ → List ℕ). F pages (live_of mid)) (first.contents known) now))

-- faults before a call are counted before it
pub faults_on : (A : Type 0) (result : Result A TreeError) (start before now : ℕ) → start ≤ before → CountsTreeFault result before now → CountsTreeFault result start now
faults_on A (Ok x) start before now earlier counts = omega (arith, earlier, counts)
faults_on A (Err tree.Fault) start before now earlier counts = (omega (arith, earlier, counts.0), omega (arith, earlier, counts.1))
faults_on A (Err (tree.Damaged page rule)) start before now earlier counts = omega (arith, earlier, counts)
faults_on A (Err tree.Memory) start before now earlier counts = omega (arith, earlier, counts)
