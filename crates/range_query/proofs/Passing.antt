-- The pairs of a row with its partners, and those of all rows, one row after the other.
use Rattle.std.proofs.Common.{◌≡◌, ℕ, ◌+◌, ◌*◌, ◌<◌, ◌≤◌, Bool, true, false, List, [], ◌∷◌, ◌++◌, length, get_or, take, refl, sym, ap, subst, ◌∙◌, append_assoc, append-nil, length-append, arith}
use Rattle.std.specs.Prelude.{◌&&◌, nat_lt, drop, if◌then◌else◌}
use Rattle.std.proofs.lemmas.List.{length-map, map-append, at_drop_all, drop_more, take_more, length-take-le}
use Rattle.pivot_map.specs.declared.row.Row.{Row}
use Rattle.query_pass.specs.Pairs.{ordered_pair}
use Rattle.range_query.specs.Passes.{pairs_of, partners_of}

-- ---- the pairs of a row

pub length-pairs_of : (same : Bool) (others : List Row) (left : Row) → length (pairs_of same others left) ≡ length others
length-pairs_of same others left = length-map others (ordered_pair same left)

pub length-pairs_of-front : (same : Bool) (others : List Row) (left : Row) (i : ℕ) → i ≤ length others → length (pairs_of same (take i others) left) ≡ i
length-pairs_of-front same others left i below = length-pairs_of same (take i others) left ∙ length-take-le i others below

pub pairs_of-more : (same : Bool) (others : List Row) (left : Row) (i : ℕ) (x : Row) → i < length others → x ≡ get_or others i x
    → pairs_of same (take (i + 1) others) left ≡ pairs_of same (take i others) left ++ ordered_pair same left x ∷ []
pairs_of-more same others left i x below is =
    ap (λ xs. pairs_of same xs left) (take_more others i x below ∙ ap (λ y. take i others ++ y ∷ []) (sym is))
    ∙ map-append (ordered_pair same left) (take i others) (x ∷ [])

both_if : (P : Row × Row → Type 0) (b : Bool) (left right : Row) → P (left, right) → P (right, left) → P (if b then (right, left) else (left, right))
both_if P true left right there back = back
both_if P false left right there back = there

-- what holds of the two rows either way
pub either_way : (P : Row → Row → Type 0) (same : Bool) (left right first second : Row) → ◌≡◌ {A = Row × Row} (first, second) (ordered_pair same left right)
    → P left right → P right left → P first second
either_way P same left right first second is there back =
    subst (λ (p : Row × Row). P p.0 p.1) (sym is) (both_if (λ (p : Row × Row). P p.0 p.1) (same && nat_lt right.id left.id) left right there back)

-- ---- the pairs of all rows

-- the pairs of each row with its partners, one row after the other
abbrev pub passed : Bool → List Row → List Row → List (Row × Row)
passed same [] right = []
passed same (row ∷ rows) right = pairs_of same (if same then rows else right) row ++ passed same rows right

one_more : (a b : ℕ) → (a + 1) * b ≡ a * b + b
one_more a b = grind arith

few_if : (b : Bool) (rows right : List Row) (n : ℕ) → length rows ≤ n → length right ≤ n → length (if b then rows else right) ≤ n
few_if true rows right n few few' = few
few_if false rows right n few few' = few'

pub length-passed : (same : Bool) (left right : List Row) (n : ℕ) → length left ≤ n → length right ≤ n → length (passed same left right) ≤ length left * n
length-passed same [] right n few few' = omega arith
length-passed same (row ∷ rows) right n few few' =
    let a = length-append (pairs_of same (if same then rows else right) row) (passed same rows right) in
    let b = length-pairs_of same (if same then rows else right) row in
    let c = few_if same rows right n (omega (arith, few)) few' in
    let d = length-passed same rows right n (omega (arith, few)) few' in
    let e : (length rows + 1) * n ≡ length rows * n + n = one_more (length rows) n in omega (arith, a, b, c, d, e)

partners_if : (b : Bool) (left right : List Row) (next : ℕ) → (b ≡ true → left ≡ right)
    → (if b then drop next left else right) ≡ (if b then drop next right else right)
partners_if true left right next same = ap (drop next) (same refl)
partners_if false left right next same = refl

-- one row more was passed over
pub passed-more : (same : Bool) (left right : List Row) (i : ℕ) (row : Row) (others : List Row) (seen : List (Row × Row)) → (same ≡ true → left ≡ right)
    → i < length left → row ≡ get_or left i row → others ≡ partners_of same right (i + 1)
    → seen ++ passed same (drop i left) right ≡ passed same left right
    → (seen ++ pairs_of same others row) ++ passed same (drop (i + 1) left) right ≡ passed same left right
passed-more same left right i row others seen one below is are whole =
    let rest : drop i left ≡ row ∷ drop (i + 1) left = drop_more left i row below ∙ ap (λ x. x ∷ drop (i + 1) left) (sym is) in
    let with : (if same then drop (i + 1) left else right) ≡ others = partners_if same left right (i + 1) one ∙ sym are in
    append_assoc seen (pairs_of same others row) (passed same (drop (i + 1) left) right)
    ∙ ap (λ xs. seen ++ (pairs_of same xs row ++ passed same (drop (i + 1) left) right)) (sym with)
    ∙ ap (λ xs. seen ++ passed same xs right) (sym rest)
    ∙ whole

-- before a row's pairs there is room for them
pub passed-room : (same : Bool) (left right : List Row) (next : ℕ) (row : Row) (others : List Row) (seen : List (Row × Row))
    → (seen ++ pairs_of same others row) ++ passed same (drop next left) right ≡ passed same left right
    → length left ≤ 2147483648 → length right ≤ 2147483648 → length seen + length others ≤ 4611686018427387904
passed-room same left right next row others seen whole few few' =
    let a = ap length whole in
    let b = length-append (seen ++ pairs_of same others row) (passed same (drop next left) right) in
    let c = length-append seen (pairs_of same others row) in
    let d = length-pairs_of same others row in
    let e = length-passed same left right 2147483648 few few' in omega (arith, a, b, c, d, e, few)

-- at the end all were passed over
pub passed-all : (same : Bool) (left right : List Row) (i : ℕ) (seen : List (Row × Row)) → length left ≤ i
    → seen ++ passed same (drop i left) right ≡ passed same left right → seen ≡ passed same left right
passed-all same left right i seen past whole = sym (append-nil seen)
    ∙ ap (λ (ps : List (Row × Row)). seen ++ ps) (sym (at_drop_all (λ rows. passed same rows right) left i past)) ∙ whole
