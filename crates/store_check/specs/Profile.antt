-- The profile page, by what each field reads as.
use Rattle.std.specs.Prelude.{◌≡◌, ℕ, ◌+◌, ◌-◌, ◌*◌, ◌==◌, nat_le, ◌≤◌, ◌<◌, IsTrue, All, length, slice_index_or, Bool, true, false, not, ◌&&◌, if◌then◌else◌, List, []}
use Rattle.std.specs.Prelude.{◌∷◌, take, drop, slice_index, Option, Some, None, option_and_then, Result, Ok, Err}
use Rattle.byteorder.specs.Endian.{big_number}
use Rattle.metrics_builtin.specs.declared.Space.{Space}
use Rattle.metrics_builtin.specs.declared.Space.TheVariants.{L1, LInf, Hamming, Sets}
use Rattle.metrics_builtin.specs.Space.{fits, bits}
use Rattle.page_laws.specs.declared.pages.TheConstants.{PAGE_SIZE}
use Rattle.page_laws.specs.declared.root.Root.{Root}
use Rattle.page_laws.specs.Pages.{are_zero}
use Rattle.redo_journal.specs.Header.{leading_number}
use Rattle.spb_defs.specs.declared.CurveKind.{CurveKind}
use Rattle.spb_defs.specs.declared.CurveKind.TheVariants.{Z, Hilbert}
use Rattle.store_check.specs.declared.layout.TheConstants.{CAP_LIMIT}
use Rattle.store_check.specs.declared.profile.Profile.{Profile}
use Rattle.store_check.specs.declared.profile.ProfileFault.{ProfileFault}
use Rattle.store_check.specs.declared.profile.ProfileFault.TheVariants.{NoFormat, BadField}
use Rattle.store_check.specs.declared.profile.TheConstants.{KIND_AT, CURVE_AT, PIVOTS_AT, BITS_AT, FIRST_AT, SECOND_AT, CAP_AT, WIDTH_AT, ROOTS_AT, ROOTS_END}

-- the number in the four bytes from a place on
abbrev pub number_at : ℕ → List ℕ → ℕ
number_at at page = leading_number (drop at page)

-- the format number
unfoldable pub format_in : List ℕ → ℕ
format_in page = big_number 2 page

-- whether files of this format are read
abbrev pub is_format : ℕ → Bool
is_format number = number == 1

-- whether cells may have this width
abbrev pub is_width : ℕ → Bool
is_width number = number == 1

-- the space of a kind with two parameters; strings have one, and the other is 0
unfoldable pub space_of : ℕ → ℕ → ℕ → Option Space
space_of kind first second =
    if kind == 1 then Some (L1 first second)
    else if kind == 2 then Some (LInf first second)
    else if kind == 3 then (if second == 0 then Some (Hamming first) else None)
    else if kind == 4 then Some (Sets first second)
    else None

-- the curve of a number
unfoldable pub curve_of : ℕ → Option CurveKind
curve_of number = if number == 1 then Some Z else if number == 2 then Some Hilbert else None

-- the space, if it is in its ranges
abbrev pub kept_space : Space → Option Space
kept_space space = if fits space then Some space else None

-- the space that the page gives
unfoldable pub space_in : List ℕ → Option Space
space_in page = option_and_then kept_space (space_of (slice_index page KIND_AT) (number_at FIRST_AT page) (number_at SECOND_AT page))

-- whether the numbers of a profile with this space are in their ranges
unfoldable pub are_in_range : Space → ℕ → ℕ → ℕ → Bool
are_in_range space pivots width cap =
    nat_le 1 pivots && nat_le pivots 8 && (width == bits space) && nat_le (pivots * width) 64 && nat_le 1 cap && nat_le cap 65536

-- whether a tree may have this root
abbrev pub is_root : Root → Bool
is_root root = if root.height == 0 then root.page == 0 else nat_le root.height 5

-- a root, if a tree may have it
abbrev pub kept_root : Root → List ℕ → Option Root
kept_root root zeros = if is_root root && are_zero zeros then Some root else None

-- a root
unfoldable pub root_in : List ℕ → Option Root
root_in bytes = kept_root (record { page = leading_number bytes; height = slice_index bytes 4 }) (take 3 (drop 5 bytes))

-- whether both trees are empty, or neither
abbrev pub are_paired : Root → Root → Bool
are_paired curve ids = if curve.height == 0 then ids.height == 0 else not (ids.height == 0)

-- both roots, if they may come together
abbrev pub kept_pair : Root → Root → Option (Root × Root)
kept_pair curve ids = if are_paired curve ids then Some (curve, ids) else None

-- the roots of a collection's two trees
unfoldable pub trees_in : List ℕ → Option (Root × Root)
trees_in bytes = option_and_then (λ curve. option_and_then (kept_pair curve) (root_in (drop 8 bytes))) (root_in bytes)

-- the same of the two trees at a place of the page
abbrev pub trees_at : ℕ → List ℕ → Option (Root × Root)
trees_at at page = trees_in (drop at page)

-- the roots of the curve trees of the four collections, and then of their id trees
unfoldable pub roots_in : List ℕ → Option (List Root)
roots_in page =
    option_and_then (λ a.
    option_and_then (λ b.
    option_and_then (λ c.
    option_and_then (λ d. Some (a.0 ∷ b.0 ∷ c.0 ∷ d.0 ∷ a.1 ∷ b.1 ∷ c.1 ∷ d.1 ∷ []))
    (trees_at (ROOTS_AT + 48) page))
    (trees_at (ROOTS_AT + 32) page))
    (trees_at (ROOTS_AT + 16) page))
    (trees_at ROOTS_AT page)

-- whether the bytes from a place on and before another are zero
abbrev pub has_zeros_between : ℕ → ℕ → List ℕ → Bool
has_zeros_between from to page = are_zero (take (to - from) (drop from page))

-- whether the bytes without a field are zero
unfoldable pub has_zeros : List ℕ → Bool
has_zeros page = has_zeros_between (BITS_AT + 1) FIRST_AT page && has_zeros_between (WIDTH_AT + 4) ROOTS_AT page && has_zeros_between ROOTS_END PAGE_SIZE page

-- the other numbers and bytes of the page, if they are in their ranges
abbrev pub with_numbers : List ℕ → Space → CurveKind → List Root → Option Profile
with_numbers page space curve roots =
    let pivots = slice_index page PIVOTS_AT in
    let width = slice_index page BITS_AT in
    let cap = number_at CAP_AT page in
    if are_in_range space pivots width cap && is_width (number_at WIDTH_AT page) && has_zeros page
    then Some (record { space = space; curve = curve; pivots = pivots; bits = width; cap = cap; roots = roots })
    else None

-- the fields after the format number
unfoldable pub fields_in : List ℕ → Option Profile
fields_in page =
    option_and_then (λ space. option_and_then (λ curve. option_and_then (with_numbers page space curve) (roots_in page)) (curve_of (slice_index page CURVE_AT)))
    (space_in page)

-- the profile that a page reads as
unfoldable pub profile_in : List ℕ → Option Profile
profile_in page = if is_format (format_in page) then fields_in page else None

-- what a reading of a page answers
abbrev pub Reads : List ℕ → Result Profile ProfileFault → Type 0
Reads page (Ok profile) = profile_in page ≡ Some profile
Reads page (Err NoFormat) = is_format (format_in page) ≡ false
Reads page (Err BadField) = (is_format (format_in page) ≡ true) × (profile_in page ≡ None)

-- the root of the empty tree
abbrev pub no_root : Root
no_root = record { page = 0; height = 0 }

-- eight roots that trees may have, those of the curve trees first; the two trees of a collection are both empty, or neither is
pub record AreRoots (roots : List Root) : Type 0 where
  pub eight : length roots ≡ 8
  pub each : All (λ root. IsTrue (is_root root)) roots
  pub paired : (c : ℕ) → c < 4 → IsTrue (are_paired (slice_index_or roots c no_root) (slice_index_or roots (4 + c) no_root))

-- the numbers and the roots of a profile are in their ranges
pub record IsInRange (p : Profile) : Type 0 where
  pub fit : IsTrue (fits p.space)
  pub some_pivots : 1 ≤ p.pivots
  pub few_pivots : p.pivots ≤ 8
  pub width : p.bits ≡ bits p.space
  pub few_bits : p.pivots * p.bits ≤ 64
  pub some_cap : 1 ≤ p.cap
  pub few : p.cap ≤ CAP_LIMIT
  pub trees : AreRoots p.roots
