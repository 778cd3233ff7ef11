-- A step of a course: the next node is visited.
use Rattle.std.proofs.Common.{◌≡◌, inl, inr, ℕ, zero, suc, ◌+◌, ◌-◌, ◌≤◌, ◌<◌, Bool, true, List, [], ◌∷◌, ◌++◌, length, refl, sym, ap, ap₂, subst, ◌∙◌, arith}
use Rattle.std.specs.Prelude.{reverse, filter, IsTrue, Contains}
use Rattle.std.specs.List.{flat_map}
use Rattle.std.proofs.lemmas.Bool.{false≢true}
use Rattle.std.proofs.lemmas.List.{append_assoc, reverse-append, reverse-reverse}
use Rattle.std.proofs.lemmas.List.Concat.{flat_map-append}
use Rattle.std.proofs.lemmas.List.Sums.{sum_by-cons, sum_by-append}
use Rattle.page_laws.specs.declared.errors.TreeError.{TreeError}
use Rattle.page_laws.specs.declared.errors.TreeError.TheVariants as tree
use Rattle.bptree_node.specs.declared.rows.Entry.{Entry}
use Rattle.bptree_node.specs.Lists.{all-append}
use Rattle.bptree_node.specs.Nodes.{node_in}
use Rattle.bptree_node.specs.Trees.{places_at, node_entries, node_branches}
use Rattle.bptree_walk.specs.declared.ahead.Ahead.{Ahead}
use Rattle.bptree_walk.specs.Courses.{Course, IsPart, AreSound, AreLive}
use Rattle.bptree_walk.specs.Damage.{is_node_of, TellsDamage}
use Rattle.bptree_walk.specs.Steps.{GoesOn, BreaksOff}
use Rattle.bptree_walk.specs.Visits.{followed, IsLost, IsMistaken, IsOpened, IsVisited, IsVisitCause, HasLost}
use Rattle.bptree_walk.proofs.Parts.{lost_breaks, mistaken_breaks, sound_live, sound_node, sound_child}
use Rattle.bptree_walk.proofs.Walks.{walked_under, visits_under, children_at, walk_opens, visit_opens, sound_opens, part_opens, inner_entries}

-- ---- the course before the step and after it

abbrev pub course : List Entry → List Ahead → ℕ → Course
course entries ahead fetched = record { entries = entries; ahead = ahead; fetched = fetched }

-- the last one of those kept is the next one
pub next_is : (leaf : List Entry) (items rest : List Ahead) (a : Ahead) (fetched : ℕ) (old : Course) → course leaf (reverse items) fetched ≡ old → old.entries ≡ []
    → items ≡ rest ++ a ∷ [] → old ≡ course [] (a ∷ reverse rest) fetched
next_is leaf items rest a fetched old is none last =
    let entries : leaf ≡ [] = ap (λ (c : Course). c.entries) is ∙ none in
    let ahead : reverse items ≡ a ∷ reverse rest = ap reverse last ∙ reverse-append rest (a ∷ []) in
    sym is ∙ ap₂ (λ (es : List Entry) (nodes : List Ahead). course es nodes fetched) entries ahead

module _ (pages : ℕ → List ℕ) (live : ℕ → Bool) (meets : ℕ → ℕ → Bool) (has : ℕ → Bool) (a : Ahead) (rest : List Ahead) (fetched : ℕ) where
  opens : (page entries : _) (new : List Ahead) → IsOpened live meets a page entries rest new → page ≡ pages a.page
      → GoesOn pages live meets has [] (course [] (a ∷ reverse rest) fetched) (course entries (reverse new) (fetched + 1))
  opens page entries new opened held =
      let node : is_node_of a.level (node_in (pages a.page)) ≡ true = subst (λ (p : List ℕ). is_node_of a.level (node_in p) ≡ true) held opened.node in
      let are : entries ≡ node_entries (node_in (pages a.page)) = opened.are ∙ ap (λ (p : List ℕ). node_entries (node_in p)) held in
      let children : List Ahead = children_at pages meets has a.level a.page in
      let turned : reverse new ≡ children ++ reverse rest =
      ap reverse opened.put.items ∙ reverse-append rest _ ∙ ap (λ (nodes : List Ahead). nodes ++ reverse rest) (reverse-reverse _)
      ∙ ap (λ (p : List ℕ). followed meets (a.level - 1) a.page (node_branches (node_in p)) ++ reverse rest) held
      in
      subst (λ (nodes : List Ahead). GoesOn pages live meets has [] (course [] (a ∷ reverse rest) fetched) (course entries nodes (fetched + 1))) (sym turned)
      (record {
        list =
            ap (λ (es : List Entry). es ++ flat_map (walked_under pages meets has) (reverse rest))
            (walk_opens pages meets has a.level a.page node ∙ ap (λ (es : List Entry). filter (λ (e : Entry). has e.key) es ++ flat_map (walked_under pages meets has) children) (sym are))
            ∙ append_assoc (filter (λ (e : Entry). has e.key) entries) (flat_map (walked_under pages meets has) children) (flat_map (walked_under pages meets has) (reverse rest))
            ∙ ap (λ (es : List Entry). filter (λ (e : Entry). has e.key) entries ++ es) (sym (flat_map-append (walked_under pages meets has) children (reverse rest)));
        nodes = omega (arith, sum_by-append (visits_under pages meets has) children (reverse rest), sum_by-cons (visits_under pages meets has) a (reverse rest), visit_opens pages meets has a.level a.page node);
        sound = λ sound. all-append (λ (b : Ahead). AreSound pages live b.level b.page) children (reverse rest) (sound_opens pages meets has live a.level a.page node sound.0) sound.1;
        part = λ root part. all-append (IsPart pages root) children (reverse rest) (part_opens pages meets has root a.level a refl node part.0) part.1;
        alive = λ alive. all-append (λ (b : Ahead). IsTrue (live b.page)) children (reverse rest)
            (subst (λ (p : List ℕ). AreLive live (followed meets (a.level - 1) a.page (node_branches (node_in p)))) held opened.put.alive) alive.1;
      })

  -- the step of a visit
  pub visit_goes_on : (told : Bool) (entries : List Entry) (new : List Ahead) → IsTrue told → IsVisited told (pages a.page) live meets a entries rest new
      → GoesOn pages live meets has [] (course [] (a ∷ reverse rest) fetched) (course entries (reverse new) (fetched + 1))
  visit_goes_on told entries new known visited = opens visited.page entries new visited.opened (visited.is known)

entries_of_level : (level : ℕ) (page entries : _) → is_node_of level (node_in page) ≡ true → entries ≡ node_entries (node_in page) → 0 < level → entries ≡ []
entries_of_level zero page entries is are some = absurd (omega (arith, some))
entries_of_level (suc l) page entries is are some = are ∙ inner_entries l (node_in page) is

-- a leaf has few entries, and an inner node has none
pub visited_entries : (told : Bool) (held : List ℕ) (live : ℕ → Bool) (meets : ℕ → ℕ → Bool) (a : Ahead) (entries : List Entry) (rest new : List Ahead) → IsVisited told held live meets a entries rest new
    → (length entries ≤ 30) × (0 < a.level → entries ≡ [])
visited_entries told held live meets a entries rest new visited =
    let opened = visited.opened in (opened.few, entries_of_level a.level visited.page entries opened.node opened.are)

-- ---- the step fails

module _ (pages : ℕ → List ℕ) (live : ℕ → Bool) (a : Ahead) (rest : List Ahead) (fetched : ℕ) (why : TreeError) where
  -- the node isn't live
  pub lost_breaks_off : IsLost live a why → BreaksOff pages live why (course [] (a ∷ rest) fetched)
  lost_breaks_off lost = record {
    sound = λ sound. absurd (false≢true (sym lost.lost ∙ sound_live pages live a.level a.page sound.0));
    damage = λ root part. lost_breaks pages live root a why part.0 lost;
  }

  mistaken_breaks_off : IsMistaken a (pages a.page) why → BreaksOff pages live why (course [] (a ∷ rest) fetched)
  mistaken_breaks_off mistaken = record {
    sound = λ sound. absurd (false≢true (sym mistaken.none ∙ sound_node pages live a.level a.page sound.0));
    damage = λ root part. mistaken_breaks pages live root a why part.0 mistaken;
  }

  -- a child isn't live
  child_breaks_off : HasLost live a (node_branches (node_in (pages a.page))) why → BreaksOff pages live why (course [] (a ∷ rest) fetched)
  child_breaks_off lost =
      let l : ℕ = a.level - 1 in
      let some = lost.inner in
      let level : a.level ≡ suc l = omega (arith, some) in
      record {
        sound = λ sound. absurd (false≢true (sym lost.lost ∙ sound_live pages live l lost.branch.child
            (sound_child pages live l a.page lost.branch (subst (λ (n : ℕ). AreSound pages live n a.page) level sound.0) lost.among)));
        damage = λ root part. subst (TellsDamage pages live root) (sym lost.is) (inr (record {
          level = l;
          is = subst (λ (n : ℕ). Contains (places_at pages root) (record { level = n; page = a.page })) level part.0.is;
          branch = lost.branch;
          among = lost.among;
          lost = lost.lost;
        }));
      }

pub visit_breaks_off : (pages : ℕ → List ℕ) (live : ℕ → Bool) (a : Ahead) (rest : List Ahead) (fetched : ℕ) (why : TreeError) → IsVisitCause live a (pages a.page) why
    → BreaksOff pages live why (course [] (a ∷ rest) fetched)
visit_breaks_off pages live a rest fetched tree.Fault cause = record { sound = λ sound. tt; damage = λ root part. tt }
visit_breaks_off pages live a rest fetched tree.Memory cause = record { sound = λ sound. tt; damage = λ root part. tt }
visit_breaks_off pages live a rest fetched (tree.Damaged n rule) cause = elim cause [
  | inl mistaken ↦ mistaken_breaks_off pages live a rest fetched (tree.Damaged n rule) mistaken
  | inr lost ↦ child_breaks_off pages live a rest fetched (tree.Damaged n rule) lost
]
