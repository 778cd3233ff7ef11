-- How many entries the trees of the four collections have.
use Rattle.std.proofs.Common.{◌≡◌, ℕ, zero, suc, ◌+◌, ◌≤◌, ◌<◌, ◌==◌, Bool, true, false, cond, List, [], ◌∷◌, length, refl, ap, ◌∙◌, arith}
use Rattle.std.specs.Prelude.{if◌then◌else◌, map}
use Rattle.std.specs.List.{AllByRecursion}
use Rattle.std.proofs.lemmas.Bool.Decides.{nat_tests}
use Rattle.std.proofs.lemmas.List.{length-map}
use Rattle.answer_lists.specs.OrderLaws.{sorted_by-length}
use Rattle.metrics_builtin.specs.declared.Space.{Space}
use Rattle.spb_defs.specs.State.{Members}
use Rattle.scan_laws.specs.Tables.{key_before}
use Rattle.object_file.specs.ObjectFile.{slot_at}
use Rattle.store_check.specs.Stands.{Placed, placed, placed_members, member_of, HoldsMembers}
use Rattle.slot_laws.specs.PlacedLaws.{IsInSlot, all_in_slots}
use Rattle.slot_laws.specs.SlotTableLaws.{AreInCollections, slots_are_of_collections}
use Rattle.tree_state.specs.TreeEntries.{entry_before, in_collection}
use Rattle.tree_lists.specs.Lists.{entry_of, collection_entries}

pub entries-length : (key_of : ℕ → List ℕ → ℕ) (c : ℕ) (ps : List Placed) → length (collection_entries key_of c ps) ≡ length (in_collection c ps)
entries-length key_of c ps =
    sorted_by-length entry_before (map (entry_of key_of) (in_collection c ps)) ∙ length-map (in_collection c ps) (entry_of key_of)

-- 1 if the numbers are the same
one_if : ℕ → ℕ → ℕ
one_if d c = if d == c then 1 else 0

length_if : (p : Placed) (rest : List Placed) (b : Bool) → length (cond b (p ∷ rest) rest) ≡ (if b then 1 else 0) + length rest
length_if p rest true = omega arith
length_if p rest false = omega arith

one_more : (c : ℕ) (p : Placed) (ps : List Placed) → length (in_collection c (p ∷ ps)) ≡ one_if p.collection c + length (in_collection c ps)
unfolding one_if
one_more c p ps = length_if p (in_collection c ps) (p.collection == c)

at_most_one : (d c : ℕ) → one_if d c ≤ 1
unfolding one_if
at_most_one d c = grind (arith, nat_tests)

one_of_four : (d : ℕ) → d < 4 → one_if d 0 + one_if d 1 + one_if d 2 + one_if d 3 ≡ 1
unfolding one_if
one_of_four zero below = refl
one_of_four (suc zero) below = refl
one_of_four (suc (suc zero)) below = refl
one_of_four (suc (suc (suc zero))) below = refl
one_of_four (suc (suc (suc (suc d)))) below = absurd (omega (arith, below))

pub few-in_collection : (c : ℕ) (ps : List Placed) → length (in_collection c ps) ≤ length ps
few-in_collection c [] = omega arith
few-in_collection c (p ∷ ps) = omega (arith, one_more c p ps, at_most_one p.collection c, few-in_collection c ps)

pub four-collections : (ps : List Placed) → AreInCollections ps
    → length (in_collection 0 ps) + length (in_collection 1 ps) + length (in_collection 2 ps) + length (in_collection 3 ps) ≡ length ps
four-collections [] all = refl
four-collections (p ∷ ps) all =
    omega (arith, one_more 0 p ps, one_more 1 p ps, one_more 2 p ps, one_more 3 p ps, one_of_four p.collection all.0, four-collections ps all.1)

-- ---- of what the slots hold

all_below_four : (cap : ℕ) (home : ℕ → List ℕ) (ps : List Placed) → AllByRecursion (IsInSlot cap (slot_at home)) ps → AreInCollections ps
all_below_four cap home [] all = tt
all_below_four cap home (p ∷ ps) all =
    (slots_are_of_collections home p.slot p.collection p.id p.object all.0.1, all_below_four cap home ps all.1)

placed-length : (space : Space) (cap : ℕ) (home : ℕ → List ℕ) (members : Members) → HoldsMembers space cap home members → length members ≡ length (placed cap home)
placed-length space cap home members holds =
    ap length holds.members_are ∙ sorted_by-length key_before (placed_members cap home) ∙ length-map (placed cap home) member_of

pub one-counted : (space : Space) (cap c : ℕ) (home : ℕ → List ℕ) (members : Members) (key_of : ℕ → List ℕ → ℕ) → HoldsMembers space cap home members
    → length (collection_entries key_of c (placed cap home)) ≤ length members
one-counted space cap c home members key_of holds =
    omega (arith, entries-length key_of c (placed cap home), few-in_collection c (placed cap home), placed-length space cap home members holds)

pub all-counted : (space : Space) (cap : ℕ) (home : ℕ → List ℕ) (members : Members) (key_of : ℕ → List ℕ → ℕ) → HoldsMembers space cap home members
    → length (collection_entries key_of 0 (placed cap home)) + length (collection_entries key_of 1 (placed cap home))
    + length (collection_entries key_of 2 (placed cap home)) + length (collection_entries key_of 3 (placed cap home)) ≡ length members
all-counted space cap home members key_of holds =
    omega (
      arith,
      entries-length key_of 0 (placed cap home),
      entries-length key_of 1 (placed cap home),
      entries-length key_of 2 (placed cap home),
      entries-length key_of 3 (placed cap home),
      four-collections (placed cap home) (all_below_four cap home (placed cap home) (all_in_slots cap (slot_at home))),
      placed-length space cap home members holds,
    )
