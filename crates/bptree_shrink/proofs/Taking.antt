-- The first entry of a key and an id, at its place and taken out.
use Rattle.std.proofs.Common.{◌≡◌, ℕ, zero, suc, ◌+◌, ◌<◌, ◌==◌, Bool, true, false, List, [], ◌∷◌, ◌++◌, length, take, drop, get_or, refl, sym, ap, ap₂, subst, ◌∙◌, arith}
use Rattle.std.specs.Prelude.{Some, None, if◌then◌else◌}
use Rattle.std.specs.List.{remove as removed}
use Rattle.std.proofs.lemmas.Bool.{and_parts, eqb-true}
use Rattle.bptree_node.specs.declared.rows.Entry.{Entry}
use Rattle.bptree_node.specs.Trees.{is_entry, slot_of}
use Rattle.bptree_edit.proofs.Reaching.{around}
use Rattle.bptree_shrink.specs.Shrinking.{IsWithout}

-- it has the slot
pub slot-first : (key id : ℕ) (es : List Entry) (i : ℕ) (d : Entry) → i < length es → ((k : ℕ) → k < i → is_entry key id (get_or es k d) ≡ false)
    → is_entry key id (get_or es i d) ≡ true → slot_of key id es ≡ Some (get_or es i d).slot
slot-first key id [] i d below before is = absurd (omega (arith, below))
slot-first key id (e ∷ es) zero d below before is = ap (λ (b : Bool). if b then Some e.slot else slot_of key id es) is
slot-first key id (e ∷ es) (suc i) d below before is =
    ap (λ (b : Bool). if b then Some e.slot else slot_of key id es) (before 0 (omega arith))
    ∙ slot-first key id es i d (omega (arith, below)) (λ k under. before (suc k) (omega (arith, under))) is

-- without one there is none
pub slot-none : (key id : ℕ) (es : List Entry) (d : Entry) → ((k : ℕ) → k < length es → is_entry key id (get_or es k d) ≡ false) → slot_of key id es ≡ None
slot-none key id [] d none = refl
slot-none key id (e ∷ es) d none =
    ap (λ (b : Bool). if b then Some e.slot else slot_of key id es) (none 0 (omega arith)) ∙ slot-none key id es d (λ k under. none (suc k) (omega (arith, under)))

whole : (key id : ℕ) (e : Entry) → is_entry key id e ≡ true → e ≡ record { key = key; id = id; slot = e.slot }
whole key id e is =
    let both = and_parts (e.key == key) (e.id == id) is in
    ap₂ (λ (k i : ℕ). record { key = k; id = i; slot = e.slot }) (eqb-true e.key key both.0) (eqb-true e.id id both.1)

-- the one that is taken out, and the others
pub taken-out : (key id : ℕ) (es new : List Entry) (at : ℕ) (e : Entry) → at < length es → ((k : ℕ) (d : Entry) → k < at → is_entry key id (get_or es k d) ≡ false)
    → ((d : Entry) → at < length es → is_entry key id (get_or es at d) ≡ true) → e ≡ get_or es at e → new ≡ removed es at
    → (Some e.slot ≡ slot_of key id es) × IsWithout key id e.slot es new
taken-out key id es new at e below before here is now =
    let own : e ≡ record { key = key; id = id; slot = e.slot } = whole key id e (ap (is_entry key id) is ∙ here e below) in
    let next : suc at ≡ at + 1 = omega arith in (
      ap (λ (f : Entry). Some f.slot) is ∙ sym (slot-first key id es at e below (λ k under. before k e under) (here e below)),
      record {
        before = take at es;
        after = drop (at + 1) es;
        were = around es at e below ∙ ap (λ (f : Entry). take at es ++ f ∷ drop (at + 1) es) (sym is ∙ own);
        are = now ∙ ap (λ (k : ℕ). take at es ++ drop k es) next;
      },
    )

-- the place was found in the same list
pub place-here : (key id : ℕ) (es xs : List Entry) (at : ℕ) → xs ≡ es → ((k : ℕ) (d : Entry) → k < at → is_entry key id (get_or xs k d) ≡ false)
    → ((d : Entry) → at < length xs → is_entry key id (get_or xs at d) ≡ true)
    → ((k : ℕ) (d : Entry) → k < at → is_entry key id (get_or es k d) ≡ false) × ((d : Entry) → at < length es → is_entry key id (get_or es at d) ≡ true)
place-here key id es xs at same before here = (
  λ k d under. subst (λ (zs : List Entry). is_entry key id (get_or zs k d) ≡ false) same (before k d under),
  λ d below. subst (λ (zs : List Entry). is_entry key id (get_or zs at d) ≡ true) same (here d (omega (arith, below, ap length same))),
)
