-- The order of the queue, and the order of objects.
use Rattle.std.proofs.Common.{◌≡◌, ℕ, ◌<◌, ◌==◌, Bool, true, false, cond, ◌&&◌, ◌||◌, List, [], ◌∷◌, map, get_or, refl, sym, ap, ◌∙◌, inl, inr, true≢false, arith}
use Rattle.std.specs.Prelude.{nat_lt}
use Rattle.std.specs.List.{AllByRecursion}
use Rattle.std.specs.List.Sorted.{IsSorted}
use Rattle.std.specs.Ordering.{is_lt, ordering_then, nat_cmp}
use Rattle.std.specs.Cmp.{IsStrictWeakOrder}
use Rattle.std.specs.declared.cmp.Ordering.{Ordering}
use Rattle.std.specs.declared.cmp.Ordering.TheVariants.{Less, Equal, Greater}
use Rattle.std.specs.declared.cmp.Reverse.{Reverse}
use Rattle.std.proofs.lemmas.Bool.{cases_Bool}
use Rattle.std.proofs.lemmas.Bool.Decides.{nat_tests}
use Rattle.std.proofs.lemmas.Cmp.{then_total, on_total, nat_cmp_total}
use Rattle.std.proofs.lemmas.List.Sorted.{ranks_by, sorted_far}
use Rattle.answer_lists.specs.Order.{goes_before, sorted_by}
use Rattle.answer_lists.specs.OrderLaws.{IsStrictOrder, Pair, goes_before-is, sorted_by-sorted}
use Rattle.near_search.specs.contracts.queue.KindOrd.TheImpl as kind_order
use Rattle.near_search.specs.contracts.queue.WaitingOrd.TheImpl as waiting_order
use Rattle.near_search.specs.declared.queue.Kind.{Kind}
use Rattle.near_search.specs.declared.queue.Kind.TheVariants.{Node, Object}
use Rattle.near_search.specs.declared.queue.Waiting.{Waiting}
use Rattle.near_search.specs.Queue.{kind_cmp, waiting_cmp, is_visited_before, least_id, least_rank, count_before, IsPruned, Candidate, candidate_is_before, IsSortedByBound}
use Rattle.near_search.proofs.Counting.{count_before-more}

-- ---- the derived order

kind-is : (j k : Kind) → kind_order.ghosts.cmp j k ≡ kind_cmp j k
kind-is (Node a) (Node b) = refl
kind-is (Node a) (Object b) = refl
kind-is (Object a) (Node b) = refl
kind-is (Object a) (Object b) = refl

-- the order that is derived is the one of the fields
pub derived-is : (a b : Waiting) → waiting_order.ghosts.cmp a b ≡ waiting_cmp a b
derived-is a b = ap (λ o. ordering_then (nat_cmp a.bound b.bound) (ordering_then o (nat_cmp a.place b.place))) (kind-is a.kind b.kind)

-- ---- orders by tests

is_lt-then : (lt eq : Bool) (o : Ordering) → is_lt (ordering_then (cond lt Less (cond eq Equal Greater)) o) ≡ (lt || (eq && is_lt o))
is_lt-then true eq o = refl
is_lt-then false true o = refl
is_lt-then false false o = refl

is_lt-last : (lt eq : Bool) → is_lt (cond lt Less (cond eq Equal Greater)) ≡ lt
is_lt-last true eq = refl
is_lt-last false true = refl
is_lt-last false false = refl

abbrev tested : ℕ → ℕ → ℕ → ℕ → ℕ → ℕ → Bool
tested a b c x y z = nat_lt a x || ((a == x) && (nat_lt b y || ((b == y) && nat_lt c z)))

first-is : (a b : Candidate) → candidate_is_before a b ≡ tested a.bound a.id a.place b.bound b.id b.place
first-is a b =
    is_lt-then (nat_lt a.bound b.bound) (a.bound == b.bound) (ordering_then (nat_cmp a.id b.id) (nat_cmp a.place b.place))
    ∙ ap (λ t. nat_lt a.bound b.bound || ((a.bound == b.bound) && t)) (is_lt-then (nat_lt a.id b.id) (a.id == b.id) (nat_cmp a.place b.place)
    ∙ ap (λ t. nat_lt a.id b.id || ((a.id == b.id) && t)) (is_lt-last (nat_lt a.place b.place) (a.place == b.place)))

-- a kind as two numbers
abbrev rank : Kind → ℕ
rank (Node level) = 0
rank (Object id) = 1

abbrev tie : Kind → ℕ
tie (Node level) = level
tie (Object id) = id

abbrev tested4 : ℕ → ℕ → ℕ → ℕ → ℕ → ℕ → ℕ → ℕ → Bool
tested4 a b c d x y z u = nat_lt a x || ((a == x) && (nat_lt b y || ((b == y) && (nat_lt c z || ((c == z) && nat_lt d u)))))

kind-then : (j k : Kind) (o : Ordering) → is_lt (ordering_then (kind_cmp j k) o)
    ≡ (nat_lt (rank j) (rank k) || ((rank j == rank k) && (nat_lt (tie j) (tie k) || ((tie j == tie k) && is_lt o))))
kind-then (Node a) (Node b) o = is_lt-then (nat_lt a b) (a == b) o
kind-then (Node a) (Object b) o = refl
kind-then (Object a) (Node b) o = refl
kind-then (Object a) (Object b) o = is_lt-then (nat_lt a b) (a == b) o

goes-is : (a b : Waiting) → is_visited_before a b ≡ tested4 a.bound (rank a.kind) (tie a.kind) a.place b.bound (rank b.kind) (tie b.kind) b.place
goes-is a b =
    is_lt-then (nat_lt a.bound b.bound) (a.bound == b.bound) _
    ∙ ap (λ t. nat_lt a.bound b.bound || ((a.bound == b.bound) && t)) (kind-then a.kind b.kind (nat_cmp a.place b.place)
    ∙ ap (λ t. nat_lt (rank a.kind) (rank b.kind) || ((rank a.kind == rank b.kind) && (nat_lt (tie a.kind) (tie b.kind) || ((tie a.kind == tie b.kind) && t))))
    (is_lt-last (nat_lt a.place b.place) (a.place == b.place)))

-- ---- candidates

alone : (a b c : ℕ) → tested a b c a b c ≡ false
alone a b c = grind (arith, nat_tests)

bounds_same : (a b c x y z : ℕ) → tested a b c x y z ≡ false → tested x y z a b c ≡ false → a ≡ x
bounds_same a b c x y z h k = grind (arith, nat_tests)

ids_same : (a b c x y z : ℕ) → tested a b c x y z ≡ false → tested x y z a b c ≡ false → b ≡ y
ids_same a b c x y z h k = grind (arith, nat_tests)

places_same : (a b c x y z : ℕ) → tested a b c x y z ≡ false → tested x y z a b c ≡ false → c ≡ z
places_same a b c x y z h k = grind (arith, nat_tests)

same : (a b c x y z : ℕ) → a ≡ x → b ≡ y → c ≡ z → ◌≡◌ {A = Candidate} (record { bound = a; id = b; place = c }) (record { bound = x; id = y; place = z })
same a b c x y z e f g =
    ap {B = Candidate} (λ (n : ℕ). record { bound = n; id = b; place = c }) e
    ∙ ap {B = Candidate} (λ (n : ℕ). record { bound = x; id = n; place = c }) f
    ∙ ap {B = Candidate} (λ (n : ℕ). record { bound = x; id = y; place = n }) g

abbrev by_parts : Candidate → Candidate → Ordering
by_parts a b = ordering_then (nat_cmp a.bound b.bound) (ordering_then (nat_cmp a.id b.id) (nat_cmp a.place b.place))

part_order : IsStrictWeakOrder candidate_is_before
part_order = ranks_by (then_total (on_total (λ (c : Candidate). c.bound) nat_cmp_total)
    (then_total (on_total (λ (c : Candidate). c.id) nat_cmp_total) (on_total (λ (c : Candidate). c.place) nat_cmp_total))) (λ (c : Candidate). c)

chained : (a b c : Candidate) → candidate_is_before a b ≡ true → candidate_is_before b c ≡ true → candidate_is_before a c ≡ true
chained a b c h k = elim (cases_Bool (candidate_is_before a c)) [
  | inl less ↦ less
  | inr stays ↦ absurd (true≢false (sym k ∙ part_order.chain b a c (part_order.one_way a b h) stays))
]

pub first_order : IsStrictOrder candidate_is_before
first_order = record {
  never_itself = λ a. first-is a a ∙ alone a.bound a.id a.place;
  transitive = chained;
  decides = λ a b h k.
      let h' = sym (first-is a b) ∙ h in
      let k' = sym (first-is b a) ∙ k in
      same a.bound a.id a.place b.bound b.id b.place
      (bounds_same a.bound a.id a.place b.bound b.id b.place h' k')
      (ids_same a.bound a.id a.place b.bound b.id b.place h' k')
      (places_same a.bound a.id a.place b.bound b.id b.place h' k');
}

inner : (y z : Ordering) → is_lt (ordering_then y z) ≡ false → is_lt y ≡ false
inner Less z h = h
inner Equal z h = refl
inner Greater z h = refl

outer : (x y z : Ordering) → is_lt (ordering_then x (ordering_then y z)) ≡ false → is_lt (ordering_then x y) ≡ false
outer Less y z h = h
outer Equal y z h = inner y z h
outer Greater y z h = refl

sorted-rises : (cs : List Candidate) → IsSorted by_parts cs → IsSortedByBound cs
sorted-rises cs sorted i j d le below =
    let a = get_or cs j d in
    let b = get_or cs i d in
    outer (nat_cmp a.bound b.bound) (nat_cmp a.id b.id) (nat_cmp a.place b.place) (sorted_far candidate_is_before part_order cs sorted i j d le below)

-- objects in order rise by bound and id
pub sorted_by-rises : (cs : List Candidate) → IsSortedByBound (sorted_by candidate_is_before cs)
sorted_by-rises cs = sorted-rises (sorted_by candidate_is_before cs) (sorted_by-sorted candidate_is_before part_order cs)

-- ---- nodes and objects in the queue

greater : (a b c x y z : ℕ) → x < a → tested a b c x y z ≡ false
greater a b c x y z h = grind (arith, nat_tests)

node_less : (a c d x z u : ℕ) → tested4 a 0 c d x 1 z u ≡ false → x < a
node_less a c d x z u h = grind (arith, nat_tests)

object_less : (a c d x z u : ℕ) → tested4 a 1 c d x 1 z u ≡ false → tested a c d x z u ≡ false
object_less a c d x z u h = grind (arith, nat_tests)

-- an object goes first: a node that is left has a greater bound
pub node-further : (bound level place other id at : ℕ)
    → is_visited_before (record { bound = bound; kind = Node level; place = place }) (record { bound = other; kind = Object id; place = at }) ≡ false
    → other < bound
node-further bound level place other id at h =
    let w : Waiting = record { bound = bound; kind = Node level; place = place } in
    let f : Waiting = record { bound = other; kind = Object id; place = at } in
    node_less bound level place other id at (sym (goes-is w f) ∙ h)

-- and no other object comes before it
pub object-later : (bound id place other next at : ℕ)
    → is_visited_before (record { bound = bound; kind = Object id; place = place }) (record { bound = other; kind = Object next; place = at }) ≡ false
    → candidate_is_before (record { bound = bound; id = id; place = place }) (record { bound = other; id = next; place = at }) ≡ false
object-later bound id place other next at h =
    let w : Waiting = record { bound = bound; kind = Object id; place = place } in
    let f : Waiting = record { bound = other; kind = Object next; place = at } in
    let c : Candidate = record { bound = bound; id = id; place = place } in
    let d : Candidate = record { bound = other; id = next; place = at } in
    first-is c d ∙ object_less bound id place other next at (sym (goes-is w f) ∙ h)

-- what has a greater bound comes later
pub bound-later : (c d : Candidate) → d.bound < c.bound → candidate_is_before c d ≡ false
bound-later c d h = first-is c d ∙ greater c.bound c.id c.place d.bound d.id d.place h

-- what doesn't go first has no key before: by the bound and the least id
abbrev before_test : ℕ → Kind → ℕ → Kind → Bool
before_test x j a k = nat_lt x a || ((x == a) && nat_lt (least_id j) (least_id k))

key-test : (x a u p : ℕ) (j k : Kind) → tested4 x (rank j) (tie j) u a (rank k) (tie k) p ≡ false → before_test x j a k ≡ false
key-test x a u p (Node l) (Node m) h = plain x a u p l m h where
  plain : (x a u p l m : ℕ) → tested4 x 0 l u a 0 m p ≡ false → (nat_lt x a || ((x == a) && nat_lt 0 0)) ≡ false
  plain x a u p l m h = grind (arith, nat_tests)
key-test x a u p (Node l) (Object c) h = strict x a u p l c h where
  strict : (x a u p l c : ℕ) → tested4 x 0 l u a 1 c p ≡ false → (nat_lt x a || ((x == a) && nat_lt 0 c)) ≡ false
  strict x a u p l c h = grind (arith, nat_tests)
key-test x a u p (Object z) (Node m) h = low x a u p z m h where
  low : (x a u p z m : ℕ) → tested4 x 1 z u a 0 m p ≡ false → (nat_lt x a || ((x == a) && nat_lt z 0)) ≡ false
  low x a u p z m h = grind (arith, nat_tests)
key-test x a u p (Object z) (Object c) h = both x a u p z c h where
  both : (x a u p z c : ℕ) → tested4 x 1 z u a 1 c p ≡ false → (nat_lt x a || ((x == a) && nat_lt z c)) ≡ false
  both x a u p z c h = grind (arith, nat_tests)

pub key-later : (f w : Waiting) → is_visited_before w f ≡ false → goes_before (least_rank w) (least_rank f) ≡ false
key-later f w h = goes_before-is (least_rank w) (least_rank f) ∙ key-test w.bound f.bound w.place f.place w.kind f.kind (sym (goes-is w f) ∙ h)

-- what has a key before goes first
first-test : (a x p u : ℕ) (k j : Kind) → before_test a k x j ≡ true → tested4 x (rank j) (tie j) u a (rank k) (tie k) p ≡ false
first-test a x p u (Node m) (Node l) h = plain a x p u m l h where
  plain : (a x p u m l : ℕ) → (nat_lt a x || ((a == x) && nat_lt 0 0)) ≡ true → tested4 x 0 l u a 0 m p ≡ false
  plain a x p u m l h = grind (arith, nat_tests)
first-test a x p u (Node m) (Object z) h = strict a x p u m z h where
  strict : (a x p u m z : ℕ) → (nat_lt a x || ((a == x) && nat_lt 0 z)) ≡ true → tested4 x 1 z u a 0 m p ≡ false
  strict a x p u m z h = grind (arith, nat_tests)
first-test a x p u (Object c) (Node l) h = low a x p u c l h where
  low : (a x p u c l : ℕ) → (nat_lt a x || ((a == x) && nat_lt c 0)) ≡ true → tested4 x 0 l u a 1 c p ≡ false
  low a x p u c l h = grind (arith, nat_tests)
first-test a x p u (Object c) (Object z) h = both a x p u c z h where
  both : (a x p u c z : ℕ) → (nat_lt a x || ((a == x) && nat_lt c z)) ≡ true → tested4 x 1 z u a 1 c p ≡ false
  both a x p u c z h = grind (arith, nat_tests)

less-or : (x y : Pair) → (goes_before x y ≡ false → ⊥) → goes_before x y ≡ true
less-or x y h = elim (cases_Bool (goes_before x y)) [
  | inl less ↦ less
  | inr stays ↦ absurd (h stays)
]

-- what isn't pruned goes before what is
pub open-first : (k : ℕ) (ranks : List Pair) (f w : Waiting) → count_before (least_rank f) ranks < k → IsPruned k ranks w → is_visited_before w f ≡ false
open-first k ranks f w room shut =
    let less : goes_before (least_rank f) (least_rank w) ≡ true =
    less-or (least_rank f) (least_rank w) (λ h. let a = count_before-more (least_rank w) (least_rank f) ranks h in omega (arith, a, room, shut)) in
    goes-is w f ∙ first-test f.bound w.bound f.place w.place f.kind w.kind (sym (goes_before-is (least_rank f) (least_rank w)) ∙ less)

-- ---- the heap

-- as they are in the heap
abbrev pub turned_back : Reverse Waiting → Waiting
turned_back turned = turned.0

-- none of those that are left goes before the top
pub top-first : (f : Waiting) (rest : List (Reverse Waiting)) → AllByRecursion (λ (r : Reverse Waiting). is_lt (waiting_order.ghosts.cmp r.0 f) ≡ false) rest
    → AllByRecursion (λ (w : Waiting). is_visited_before w f ≡ false) (map turned_back rest)
top-first f [] all = tt
top-first f (r ∷ rest) all = (sym (ap is_lt (derived-is r.0 f)) ∙ all.0, top-first f rest all.1)
