-- What a pass over the pairs of a tree's entries says to be damaged.
use Rattle.std.proofs.Common.{◌≡◌, ℕ, Bool, true, false, List, refl, sym, subst, inl, inr}
use Rattle.std.specs.Prelude.{nat_lt, if◌then◌else◌, All, Contains}
use Rattle.std.proofs.lemmas.List.Elements.{All-contains}
use Rattle.metric_laws.specs.Objects.{Object}
use Rattle.page_laws.specs.Errors.{TellsNoDamage}
use Rattle.page_laws.specs.declared.errors.TreeError.{TreeError}
use Rattle.page_laws.specs.declared.errors.TreeError.TheVariants as tree
use Rattle.page_laws.specs.declared.root.Root.{Root}
use Rattle.page_laws.specs.declared.rule.Rule.{Rule}
use Rattle.bptree_node.specs.declared.rows.Entry.{Entry}
use Rattle.bptree_node.specs.Trees.{IsBPlusTree, list_at}
use Rattle.bptree_walk.specs.Damage.{TellsDamage, TellsWalkRule}
use Rattle.object_file.specs.ObjectFile.{Slots}
use Rattle.range_entries.specs.Entries.{TellsEntryRule}
use Rattle.join_window.specs.declared.window.Reaching.{Reaching}
use Rattle.join_step.specs.declared.placing.Placing.TheVariants.{ByIds}
use Rattle.join_step.specs.Meetings.{reaching, placed}
use Rattle.join_step.specs.Damage.{HasBrokenPair, TellsOfMeeting}
use Rattle.join_pass.specs.Damage.{HasBrokenEntry, TellsOfJoin, TellsJoinRule}

-- ---- which rules are named

pub names_walk : (slots : Slots) (why : TreeError) → TellsWalkRule why → TellsJoinRule slots why
names_walk slots (tree.Damaged page r) named = inl named
names_walk slots tree.Fault named = tt
names_walk slots tree.Memory named = tt

pub names_entry : (slots : Slots) (why : TreeError) → TellsEntryRule slots why → TellsJoinRule slots why
names_entry slots (tree.Damaged page r) named = inr named
names_entry slots tree.Fault named = tt
names_entry slots tree.Memory named = tt

-- ---- what breaks them

-- what both items have, each of the pair has as it stands
left_of : (F : Reaching → Type 0) (a b : Reaching) (turned : Bool) (p : Reaching × Reaching) → p ≡ (if turned then (b, a) else (a, b)) → F a → F b → F p.0
left_of F a b true p is x y = subst (λ (q : Reaching × Reaching). F q.0) (sym is) y
left_of F a b false p is x y = subst (λ (q : Reaching × Reaching). F q.0) (sym is) x

right_of : (F : Reaching → Type 0) (a b : Reaching) (turned : Bool) (p : Reaching × Reaching) → p ≡ (if turned then (b, a) else (a, b)) → F a → F b → F p.1
right_of F a b true p is x y = subst (λ (q : Reaching × Reaching). F q.1) (sym is) x
right_of F a b false p is x y = subst (λ (q : Reaching × Reaching). F q.1) (sym is) y

module _ (admitted : Object → Type 0) (axes bits radius : ℕ) (slots : Slots) (pages : ℕ → List ℕ) (live : ℕ → Bool) (collection : ℕ) (root : Root) where
  pub tells_walk : (why : TreeError) → TellsDamage pages live root why → (IsBPlusTree pages live root → TellsNoDamage why)
      → TellsOfJoin admitted axes bits slots pages live collection root why
  tells_walk (tree.Damaged page r) breaks unsound = inl (record { broken = breaks; unsound = unsound })
  tells_walk tree.Fault breaks unsound = tt
  tells_walk tree.Memory breaks unsound = tt

  abbrev is_there : Reaching → Type 0
  is_there h = Contains (list_at pages root) h.entry

  broken_pair : (e : Entry) (held : List Reaching) (page : ℕ) (r : Rule) → Contains (list_at pages root) e → All is_there held
      → HasBrokenPair admitted slots pages collection collection ByIds (reaching axes bits radius e) held page r
      → HasBrokenEntry admitted axes bits slots pages collection (list_at pages root) page r
  broken_pair e held page r there all pair =
      let later = reaching axes bits radius e in
      let turned = nat_lt later.entry.id pair.earlier.entry.id in
      let earlier : is_there pair.earlier = All-contains is_there held pair.earlier all pair.among in
      elim pair.broken [
        | inl slot ↦ record { entry = (placed ByIds pair.earlier later).0.entry; among = left_of is_there pair.earlier later turned (placed ByIds pair.earlier later) refl earlier there; broken = inr slot }
        | inr slot ↦ record { entry = (placed ByIds pair.earlier later).1.entry; among = right_of is_there pair.earlier later turned (placed ByIds pair.earlier later) refl earlier there; broken = inr slot }
      ]

  pub tells_meeting : (e : Entry) (held : List Reaching) (why : TreeError) → Contains (list_at pages root) e → All is_there held
      → TellsOfMeeting admitted axes bits radius slots pages collection collection ByIds e held why
      → TellsOfJoin admitted axes bits slots pages live collection root why
  tells_meeting e held (tree.Damaged page r) there all tells = inr (elim tells [
    | inl key ↦ record { entry = e; among = there; broken = inl key }
    | inr pair ↦ broken_pair e held page r there all pair
  ])
  tells_meeting e held tree.Fault there all tells = tt
  tells_meeting e held tree.Memory there all tells = tt
