-- What an image stands for: the state that its pages hold, and images that are no store.
use Rattle.std.specs.Prelude.{◌≡◌, ◌≢◌, ◌⊎◌, ℕ, ◌*◌, ◌^◌, ◌<◌, ◌≤◌, ◌==◌, Bool, false, IsTrue, ◌&&◌, List, length, map, All, Option, Some, None, codes}
use Rattle.std.specs.List.{filter_map, range_with_len, list_all, IsDistinct}
use Rattle.std.specs.Map.{keys_of}
use Rattle.std.specs.Ordering.{eq_by_cmp}
use Rattle.answer_lists.specs.Order.{sorted_by}
use Rattle.metrics_builtin.specs.declared.Space.{Space}
use Rattle.metrics_builtin.specs.Space.{IsValid}
use Rattle.spb_defs.specs.State.{Key, Members, State, key_cmp}
use Rattle.scan_laws.specs.Tables.{key_before}
use Rattle.redo_journal.specs.declared.layout.TheConstants.{PAGE_SIZE, HEADER_PAGE, LEAST_PAGES}
use Rattle.redo_journal.specs.Pages.{page, magic}
use Rattle.redo_journal.specs.Header.{IsHeader}
use Rattle.redo_journal.specs.Redo.{RecoversTo, has_open_gate, redo_page}
use Rattle.page_laws.specs.declared.root.Root.{Root}
use Rattle.object_file.specs.Slots.{Slot, Free, Holds, Broken}
use Rattle.object_file.specs.ObjectFile.{slot_at}
use Rattle.store_check.specs.declared.layout.TheConstants.{LEAST_SIZE}
use Rattle.store_check.specs.declared.profile.Profile.{Profile}
use Rattle.store_check.specs.Layout.{file_pages}
use Rattle.store_check.specs.Profile.{format_in, is_format, profile_in}
use Rattle.store_check.specs.Pivots.{HasPivots}

-- ---- slots

-- what a filled slot holds, with the slot's number
pub record Placed : Type 0 where
  pub slot : ℕ
  pub collection : ℕ
  pub id : ℕ
  pub object : List ℕ

-- the member in a slot
abbrev pub member_of : Placed → Key × List ℕ
member_of p = ((p.collection, p.id), p.object)

-- what the slot of this number holds, if it is filled
abbrev pub placed_of : ℕ → Slot → Option Placed
placed_of slot Free = None
placed_of slot (Holds collection id object) = Some (record { slot = slot; collection = collection; id = id; object = object })
placed_of slot Broken = None

-- what the filled slots below cap hold, in the order of the slots
unfoldable pub placed_in : ℕ → (ℕ → Slot) → List Placed
placed_in cap slots = filter_map (λ slot. placed_of slot (slots slot)) (range_with_len 0 cap)

-- the same of the slots in these pages
abbrev pub placed : ℕ → (ℕ → List ℕ) → List Placed
placed cap home = placed_in cap (slot_at home)

-- the members in the slots, in the order of the slots
abbrev pub placed_members : ℕ → (ℕ → List ℕ) → Members
placed_members cap home = map member_of (placed cap home)

-- the slot is free, or holds an object of the space under an id of 32 bits
abbrev pub IsReadable : Space → Slot → Type 0
IsReadable space Free = Unit {0}
IsReadable space (Holds collection id object) = (id < 2 ^ 32) × IsValid space object
IsReadable space Broken = ⊥

-- each slot below cap is readable, no two of them hold the same collection and id, and the members are what they hold, in
-- the order of the keys
pub record HoldsMembers (space : Space) (cap : ℕ) (home : ℕ → List ℕ) (members : Members) : Type 0 where
  pub readable : (slot : ℕ) → slot < cap → IsReadable space (slot_at home slot)
  pub distinct : IsDistinct (eq_by_cmp key_cmp) (keys_of (placed_members cap home))
  pub members_are : members ≡ sorted_by key_before (placed_members cap home)

-- ---- the profile and the pivots

-- the profile page and the records of the pivots give the state's space, curve, cap and pivots; the samples are closed
pub record IsProfiled (home : ℕ → List ℕ) (s : State) : Type 0 where
  pub profile : Profile
  pub reads : profile_in (home 1) ≡ Some profile
  pub space : s.space ≡ profile.space
  pub curve : s.curve ≡ Some profile.curve
  pub cap : s.cap ≡ profile.cap
  pub count : length s.pivots ≡ profile.pivots
  pub pivots : HasPivots home s.pivots
  pub objects : All (IsValid s.space) s.pivots
  pub samples : s.samples ≡ None
  pub wanted : s.wanted ≡ length s.pivots

-- whether this is the root of the empty tree
abbrev pub is_empty_root : Root → Bool
is_empty_root root = (root.height == 0) && (root.page == 0)

-- whether all trees are empty
abbrev pub are_empty : List Root → Bool
are_empty roots = list_all is_empty_root roots

-- ---- states

-- the pages hold the state
pub record Keeps (home : ℕ → List ℕ) (s : State) : Type 0 where
  pub profiled : IsProfiled home s
  pub roots : IsTrue (are_empty profiled.profile.roots)
  pub members : HoldsMembers s.space s.cap home s.members

-- the magic of a store's file
abbrev pub store_magic : List ℕ
store_magic = codes "spbstore"

-- The image stands for the state: a recovery would leave it with the magic, the length that belongs to the cap, and pages
-- that hold the state. The gate may be open.
pub record Stands (image : List ℕ) (s : State) : Type 0 where
  pub home : ℕ → List ℕ
  pub has : RecoversTo (file_pages s.cap) image store_magic home
  pub keeps : Keeps home s

-- ---- images that are no store

-- the image has this many pages, which a number of 32 bits counts, those up to the journal's last among them
pub record IsPaged (pages : ℕ) (image : List ℕ) : Type 0 where
  pub least : LEAST_PAGES ≤ pages
  pub most : pages ≤ 4294967295
  pub size : length image ≡ PAGE_SIZE * pages

-- if the gate is open, the journal's header is in its ranges
abbrev pub IsClean : ℕ → List ℕ → Type 0
IsClean pages image = IsTrue (has_open_gate image) → IsHeader pages (page image HEADER_PAGE)

-- the image is pages with a clean journal, and a recovery would leave a profile page of another format
pub record HasOtherFormat (image : List ℕ) : Type 0 where
  pub pages : ℕ
  pub paged : IsPaged pages image
  pub clean : IsClean pages image
  pub format : is_format (format_in (redo_page image 1)) ≡ false

-- the image is no store: it is too short for the pages up to the journal's header, has another magic, or another format
abbrev pub IsNoStore : List ℕ → Type 0
IsNoStore image = (length image < LEAST_SIZE) ⊎ (magic image ≢ store_magic) ⊎ HasOtherFormat image
