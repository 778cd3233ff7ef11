-- Marks of slots that entries name.
use Rattle.std.proofs.Common.{◌≡◌, ℕ, ◌+◌, ◌<◌, ◌==◌, Bool, true, false, ◌&&◌, ◌||◌, List, [], ◌∷◌, ◌++◌, length, take, get_or, refl, sym, ap, ◌∙◌}
use Rattle.std.proofs.lemmas.List.{take_more}
use Rattle.page_laws.specs.Pages.{is_among}
use Rattle.bptree_node.specs.declared.rows.Entry.{Entry}
use Rattle.image_trees.specs.Trees.{slots_of}

or_assoc : (a b c : Bool) → (a || (b || c)) ≡ ((a || b) || c)
or_assoc true b c = refl
or_assoc false b c = refl

pub among-append : (m : ℕ) (es : List Entry) (e : Entry) → is_among m (slots_of (es ++ e ∷ [])) ≡ (is_among m (slots_of es) || (e.slot == m))
among-append m [] e = or_false (e.slot == m)
  where
    or_false : (b : Bool) → (b || false) ≡ b
    or_false true = refl
    or_false false = refl
among-append m (d ∷ es) e = ap (λ (b : Bool). (d.slot == m) || b) (among-append m es e) ∙ or_assoc (d.slot == m) (is_among m (slots_of es)) (e.slot == m)

spread : (a b x y : Bool) → ((a || (b && x)) || (b && y)) ≡ (a || (b && (x || y)))
spread true b x y = refl
spread false true x y = refl
spread false false x y = refl

-- the marks of the entries so far, and that of the next
pub marked-more : (old mid new : Bool) (below : Bool) (m : ℕ) (es : List Entry) (i : ℕ) (d : Entry) → i < length es
    → mid ≡ (old || (below && is_among m (slots_of (take i es)))) → new ≡ (mid || (below && ((get_or es i d).slot == m)))
    → new ≡ (old || (below && is_among m (slots_of (take (i + 1) es))))
marked-more old mid new below m es i d inside were is =
    is ∙ ap (λ (b : Bool). b || (below && ((get_or es i d).slot == m))) were
    ∙ spread old below (is_among m (slots_of (take i es))) ((get_or es i d).slot == m)
    ∙ ap (λ (b : Bool). old || (below && b)) (sym (among-append m (take i es) (get_or es i d)))
    ∙ ap (λ (xs : List Entry). old || (below && is_among m (slots_of xs))) (sym (take_more es i d inside))

pub none-marked : (old below : Bool) → old ≡ (old || (below && false))
none-marked true below = refl
none-marked false true = refl
none-marked false false = refl

-- marks of two lists, one after the other
pub marked-both : (old mid new below x y : Bool) → mid ≡ (old || (below && x)) → new ≡ (mid || (below && y)) → new ≡ (old || (below && (x || y)))
marked-both old mid new below x y were is = is ∙ ap (λ (b : Bool). b || (below && y)) were ∙ spread old below x y
