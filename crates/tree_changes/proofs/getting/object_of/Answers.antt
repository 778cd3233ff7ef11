use Rattle.std.proofs.Common.{rules, ◌≡◌, IsTrue, ℕ, List, Some, sym, ap, subst, ◌∙◌}
use Rattle.page_laws.specs.Errors.{IsNotDamaged}
use Rattle.page_laws.specs.Pages.{is_live}
use Rattle.object_file.specs.Slots.{Holds}
use Rattle.object_file.specs.ObjectFile.{slot_at}
use Rattle.bptree_node.specs.Trees.{IsBPlusTree, list_at, slot_of}
use Rattle.query_shelf.specs.Reading.{ReadsSlot}
use Rattle.tree_changes.proofs.Held.{id-tree, none-given, some-given, never-damaged}
use Rattle.tree_changes.proofs.getting.object_of.Goals as goal

-- src/getting.rt:52:22
pub returns-in_err-slot-clause-sound : goal.returns-in_err-slot-clause-sound
returns-in_err-slot-clause-sound g c = λ known profile s store is admits.
    let home = g.P.Pages.page_at c.args.pages.now in
    let in_pool = g.P.Pages.in_pool c.args.pages.now in
    let free = g.P.Pages.free c.args.pages.now in
    let tree : IsBPlusTree home (is_live in_pool free) c.args.root =
    id-tree home in_pool free c.args.objects.now profile s store c.args.head.collection c.args.root c.requires.collection is in
    let fine : IsNotDamaged c.find.result = c.find.ensures.sound known tree in
    search (rules, fine)

-- src/getting.rt:53:9
pub returns-in_default-clause-gives : goal.returns-in_default-clause-gives
returns-in_default-clause-gives g c = λ known profile s store is.
    let home = g.P.Pages.page_at c.args.pages.now in
    let in_pool = g.P.Pages.in_pool c.args.pages.now in
    let free = g.P.Pages.free c.args.pages.now in
    let tree : IsBPlusTree home (is_live in_pool free) c.args.root =
    id-tree home in_pool free c.args.objects.now profile s store c.args.head.collection c.args.root c.requires.collection is in
    let key : c.from-key.result ≡ c.args.head.id = search rules in
    let found : c.in_ok-slot.field-0 ≡ slot_of c.from-key.result c.args.head.id (list_at home c.args.root) =
    c.in_ok-slot.ensures.finds known (is_live in_pool free) tree in
    none-given home in_pool free c.args.objects.now profile s store c.args.head.collection c.args.head.id c.args.root c.requires.collection is
    (sym c.in_default.is ∙ found ∙ ap (λ k. slot_of k c.args.head.id (list_at home c.args.root)) key)

-- src/getting.rt:60:5
pub returns-in_err-read_object-clause-sound : goal.returns-in_err-read_object-clause-sound
returns-in_err-read_object-clause-sound g c = λ known profile s store is admits.
    let home = g.P.Pages.page_at c.args.pages.now in
    let in_pool = g.P.Pages.in_pool c.args.pages.now in
    let free = g.P.Pages.free c.args.pages.now in
    let tree : IsBPlusTree home (is_live in_pool free) c.args.root =
    id-tree home in_pool free c.args.objects.now profile s store c.args.head.collection c.args.root c.requires.collection is in
    let key : c.from-key.result ≡ c.args.head.id = search rules in
    let found : c.in_ok-slot.field-0 ≡ slot_of c.from-key.result c.args.head.id (list_at home c.args.root) =
    c.in_ok-slot.ensures.finds known (is_live in_pool free) tree in
    let named : Some c.in-Some.slot ≡ slot_of c.args.head.id c.args.head.id (list_at home c.args.root) =
    sym c.in-Some.is ∙ found ∙ ap (λ k. slot_of k c.args.head.id (list_at home c.args.root)) key in
    let known_then : IsTrue (g.P.Pages.is_known c.find.new.pages) = subst IsTrue (sym c.find.ensures.stay.continues.told) known in
    let reads : ReadsSlot (g.R.Ruler.admitted (g.R.Ruler.kind c.args.ruler.now)) c.args.objects.now home c.args.head.collection
    (record { key = c.from-key.result; id = c.args.head.id; slot = c.in-Some.slot }) c.read_object.result c.read_object.new.object =
    subst (λ (pages : ℕ → List ℕ). ReadsSlot (g.R.Ruler.admitted (g.R.Ruler.kind c.args.ruler.now)) c.args.objects.now pages c.args.head.collection
    (record { key = c.from-key.result; id = c.args.head.id; slot = c.in-Some.slot }) c.read_object.result c.read_object.new.object)
    (c.find.ensures.stay.contents known) (c.read_object.ensures.reads known_then) in
    let fine : IsNotDamaged c.read_object.result =
    never-damaged home in_pool free c.args.objects.now profile s store (g.R.Ruler.admitted (g.R.Ruler.kind c.args.ruler.now)) c.args.head.collection c.from-key.result
    c.args.head.id c.in-Some.slot c.args.root c.read_object.new.object c.read_object.result c.requires.collection is named admits reads in
    search (rules, fine)

-- src/getting.rt:29:1
pub returns-clause-gives : goal.returns-clause-gives
returns-clause-gives g c = λ known profile s store is.
    let home = g.P.Pages.page_at c.args.pages.now in
    let in_pool = g.P.Pages.in_pool c.args.pages.now in
    let free = g.P.Pages.free c.args.pages.now in
    let tree : IsBPlusTree home (is_live in_pool free) c.args.root =
    id-tree home in_pool free c.args.objects.now profile s store c.args.head.collection c.args.root c.requires.collection is in
    let key : c.from-key.result ≡ c.args.head.id = search rules in
    let found : c.in_ok-slot.field-0 ≡ slot_of c.from-key.result c.args.head.id (list_at home c.args.root) =
    c.in_ok-slot.ensures.finds known (is_live in_pool free) tree in
    let named : Some c.in-Some.slot ≡ slot_of c.args.head.id c.args.head.id (list_at home c.args.root) =
    sym c.in-Some.is ∙ found ∙ ap (λ k. slot_of k c.args.head.id (list_at home c.args.root)) key in
    let known_then : IsTrue (g.P.Pages.is_known c.find.new.pages) = subst IsTrue (sym c.find.ensures.stay.continues.told) known in
    let read : slot_at home c.in-Some.slot ≡ Holds c.args.head.collection c.args.head.id c.read_object.new.object =
    subst (λ (pages : ℕ → List ℕ). slot_at pages c.in-Some.slot ≡ Holds c.args.head.collection c.args.head.id c.read_object.new.object)
    (c.find.ensures.stay.contents known) (c.in_ok-read_object.ensures.reads known_then).0 in
    some-given home in_pool free c.args.objects.now profile s store c.args.head.collection c.args.head.id c.in-Some.slot c.args.root c.read_object.new.object c.requires.collection is named read
