-- Written ranges of a disk in memory, and its crash states.
use Rattle.std.proofs.Common.{◌≡◌, ◌⊎◌, inl, inr, ⊎_elim, ℕ, ◌+◌, ◌-◌, ◌≤◌, min, max, List, [], ◌∷◌, ◌++◌, length, take, drop, replicate, refl, sym, ◌∙◌, ap, subst, arith, length-append, append-nil}
use Rattle.std.proofs.Math.ListN.{drop_of_length-le}
use Rattle.std.proofs.Math.Seq.{take-length}
use Rattle.std.proofs.lemmas.Bool.{cases_lt}
use Rattle.std.proofs.lemmas.List.{length-replicate, take-append-le, take_all}
use Rattle.spb_edge.specs.declared.contents.Extent.{Extent}
use Rattle.spb_edge.specs.Contents.{Contents, AreTornOver, IsCrashState, with_range, with_ranges_filled, ReachTo}
use Rattle.spb_edge.specs.Crash.{IsTornWrite, FollowsBy}
use Rattle.spb_edge.specs.Disk.{overwritten_at}
use Rattle.spb_edge.specs.Tears.{length-overwritten_at, torn-overwritten_at, torn-same}

-- the last range is torn over what the ones before left
pub leaves-last : (kept : List ℕ) (ranges : List Extent) (range : Extent) (c : List ℕ) → AreTornOver kept (ranges ++ range ∷ []) c
    → (d : List ℕ) × (AreTornOver kept ranges d × IsTornWrite range.at range.len d c)
leaves-last kept [] range c (e, (torn, is)) = (kept, (refl, subst (λ (e : List ℕ). IsTornWrite range.at range.len kept e) (sym is) torn))
leaves-last kept (r ∷ ranges) range c (e, (torn, left)) =
    let rest = leaves-last e ranges range c left in
    (rest.0, ((e, (torn, rest.1.0)), rest.1.1))

-- one more range is added
pub join-more : (len : ℕ) (ranges : List Extent) (least at count next : ℕ) → ReachTo len ranges least → at ≤ least → next ≤ max least (at + count)
    → ReachTo len (ranges ++ record { at = at; len = count } ∷ []) next
join-more len [] least at count next join le most = (omega arith, omega arith)
join-more len (r ∷ ranges) least at count next (within, rest) le most = (within, join-more (max len (r.at + r.len)) ranges least at count next rest le most)

-- with a byte at each place of a range, the next ones follow
pub join-rest : (byte : ℕ) (kept : List ℕ) (range : Extent) (ranges : List Extent) (least : ℕ) → ReachTo (length kept) (range ∷ ranges) least
    → ReachTo (length (overwritten_at kept range.at (replicate range.len byte))) ranges least
join-rest byte kept range ranges least (within, rest) =
    subst (λ (n : ℕ). ReachTo n ranges least) (sym (length-overwritten_at kept range.at (replicate range.len byte) within
    ∙ ap (λ n. max (length kept) (range.at + n)) (length-replicate range.len byte))) rest

-- each range filled with a byte is a crash state
pub fills : (byte : ℕ) (kept : List ℕ) (ranges : List Extent) (least : ℕ) → ReachTo (length kept) ranges least
    → AreTornOver kept ranges (with_ranges_filled byte kept ranges)
fills byte kept [] least join = refl
fills byte kept (range ∷ ranges) least join =
    let next = overwritten_at kept range.at (replicate range.len byte) in (
      next,
      (
        subst (λ (n : ℕ). IsTornWrite range.at n kept next) (length-replicate range.len byte)
            (torn-overwritten_at kept range.at (replicate range.len byte) join.0),
        fills byte next ranges least (join-rest byte kept range ranges least join),
      ),
    )

-- so is what was kept
pub leaves-kept : (kept : List ℕ) (ranges : List Extent) → AreTornOver kept ranges kept
leaves-kept kept [] = refl
leaves-kept kept (range ∷ ranges) = (kept, (torn-same range.at range.len kept, leaves-kept kept ranges))

-- once a range is written, each crash state is one from before, torn there
pub follows-range : (old : Contents) (at : ℕ) (bytes image : List ℕ) → at ≤ length old.image → (image ≡ old.image) ⊎ (image ≡ overwritten_at old.image at bytes)
    → FollowsBy (IsTornWrite at (length bytes)) (IsCrashState old) (IsCrashState (with_range at (length bytes) image old))
follows-range old at bytes image within which c (inl now) = (old.image, inl refl, whole which)
  where
    whole : (image ≡ old.image) ⊎ (image ≡ overwritten_at old.image at bytes) → IsTornWrite at (length bytes) old.image c
    whole (inl same) = subst (λ (i : List ℕ). IsTornWrite at (length bytes) old.image i) (sym (now ∙ same)) (torn-same at (length bytes) old.image)
    whole (inr overwritten_at) = subst (λ (i : List ℕ). IsTornWrite at (length bytes) old.image i) (sym (now ∙ overwritten_at))
        (torn-overwritten_at old.image at bytes within)
follows-range old at bytes image within which c (inr left) =
    let before = leaves-last old.kept old.unsynced (record { at = at; len = length bytes }) c left in
    (before.0, inr before.1.0, before.1.1)

-- the bytes overwrite an image that had grown by them already
pub grown-overwritten_at : (old items with_ranges_filled : List ℕ) (at count growth byte len : ℕ) → at ≤ length old
    → growth ≡ count - min count (length old - at)
    → items ≡ old ++ replicate growth byte → len ≡ length items → with_ranges_filled ≡ overwritten_at items at (replicate count byte)
    → take len (with_ranges_filled ++ drop (length with_ranges_filled) items) ≡ overwritten_at old at (replicate count byte)
grown-overwritten_at old items with_ranges_filled at count growth byte len within is grown same put =
    let bytes = replicate count byte in
    let more = replicate growth byte in
    let sized : length items ≡ length old + growth = ap length grown ∙ length-append old more ∙ ap (λ n. length old + n) (length-replicate growth byte) in
    let long : length with_ranges_filled ≡ length items = ap length put ∙ length-overwritten_at items at bytes (omega (arith, sized, within))
    ∙ omega (arith, sized, is, within, length-replicate count byte) in
    let none : drop (length with_ranges_filled) items ≡ [] = drop_of_length-le items (omega (arith, long)) in
    let all : take len (with_ranges_filled ++ drop (length with_ranges_filled) items) ≡ with_ranges_filled =
    ap (λ l. take len (with_ranges_filled ++ l)) none ∙ ap (take len) (append-nil with_ranges_filled) ∙ ap (λ n. take n with_ranges_filled) (same ∙ sym long)
    ∙ take-length with_ranges_filled in
    let reach : (growth ≡ 0) ⊎ (length old + growth ≤ at + length bytes) =
    ⊎_elim (λ lt. inl (omega (arith, is, lt, length-replicate count byte))) (λ le. inr (omega (arith, is, le, within, length-replicate count byte)))
    (cases_lt (at + length bytes) (length old)) in
    all ∙ put ∙ ap (λ i. overwritten_at i at bytes) grown
    ∙ ap (λ front. front ++ bytes ++ drop (at + length bytes) (old ++ more)) (take-append-le at old more within)
    ∙ ap (λ rest. take at old ++ bytes ++ rest) (behind (at + length bytes) (reach))
  where
    behind : (n : ℕ) → (growth ≡ 0) ⊎ (length old + growth ≤ n) → drop n (old ++ replicate growth byte) ≡ drop n old
    behind n (inl none) = ap (λ g. drop n (old ++ replicate g byte)) none ∙ ap (drop n) (append-nil old)
    behind n (inr le) =
        drop_of_length-le (old ++ replicate growth byte) (omega (arith, le, length-append old (replicate growth byte), length-replicate growth byte))
        ∙ sym (drop_of_length-le old (omega (arith, le)))

-- an image that was made longer by this many of a byte
pub resized : (old reserved items : List ℕ) (len growth byte n : ℕ) → reserved ≡ old → len ≡ length reserved → n ≡ length reserved
    → items ≡ take (len + growth) reserved ++ replicate (len + growth - n) byte → items ≡ old ++ replicate growth byte
resized old reserved items len growth byte n same is also made =
    let more : len + growth - n ≡ growth = omega (arith, is, also) in
    made ∙ ap (λ g. take (len + growth) reserved ++ replicate g byte) more
    ∙ ap (λ l. l ++ replicate growth byte) (take_all (len + growth) reserved (omega (arith, is)) ∙ same)
