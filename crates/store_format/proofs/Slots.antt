-- A page of free slots, and objects that fit into slots.
use Rattle.std.proofs.Common.{◌≡◌, ℕ, ◌+◌, ◌*◌, ◌<◌, ◌≤◌, ◌==◌, true, List, length, take, drop, replicate, slice_index, get_or, ◌∙◌, ap, arith}
use Rattle.std.specs.Prelude.{IsTrue, if◌then◌else◌}
use Rattle.std.proofs.lemmas.Bool.Decides.{nat_tests}
use Rattle.std.proofs.lemmas.List.{get_or-take, get_or-drop, get_or-replicate}
use Rattle.metrics_builtin.specs.declared.Space.{Space}
use Rattle.metrics_builtin.specs.declared.Space.TheVariants.{L1, LInf, Hamming, Sets}
use Rattle.metrics_builtin.specs.Space.{fits, IsValid}
use Rattle.metrics_builtin.specs.VectorLaws.{length-IsVector, length-object_of_components}
use Rattle.object_file.specs.Slots.{Free, Holds, Broken, is_filled_slot, id_in, slot_of, slot_bytes, slot_in}

-- a slot that begins with the mark
marked : (bytes : List ℕ) → slice_index bytes 0 ≡ 255 → slot_of bytes ≡ Free
unfolding slot_of
marked bytes is =
    let mark : (slice_index bytes 0 == 255) ≡ true = grind (arith, nat_tests, is) in
    λ i. if mark i then Free else if is_filled_slot bytes then Holds (slice_index bytes 0) (id_in bytes) (take (slice_index bytes 1) (drop 8 bytes)) else Broken

first_byte : (page : List ℕ) (place : ℕ) → slice_index (slot_bytes page place) 0 ≡ slice_index page (128 * place)
unfolding slot_bytes
first_byte page place =
    let on : 128 * place + 0 ≡ 128 * place = omega arith in
    get_or-take 128 (drop (128 * place) page) 0 0 (omega arith) ∙ get_or-drop (128 * place) page 0 0 ∙ ap (λ k. get_or page k 0) on

-- each slot of a page of marks is free
pub free_page : (place : ℕ) → place < 4 → slot_in (replicate 512 255) place ≡ Free
free_page place few =
    marked (slot_bytes (replicate 512 255) place)
    (first_byte (replicate 512 255) place ∙ get_or-replicate 512 (128 * place) 255 0 (omega (arith, few)))

-- an object of a space has at most 120 bytes
pub object_short : (space : Space) (object : List ℕ) → IsTrue (fits space) → IsValid space object → length object ≤ 120
object_short (L1 dim most) object fit valid =
    let few : dim ≤ 30 = grind (arith, nat_tests, fit) in
    omega (arith, few, length-IsVector dim most object valid)
object_short (LInf dim most) object fit valid =
    let few : dim ≤ 30 = grind (arith, nat_tests, fit) in
    omega (arith, few, length-IsVector dim most object valid)
object_short (Hamming len) object fit valid =
    let few : len ≤ 120 = grind (arith, nat_tests, fit) in
    omega (arith, few, valid.size)
object_short (Sets universe most) object fit valid =
    let few : most ≤ 30 = grind (arith, nat_tests, fit) in
    let long : length object ≡ 4 * length valid.elements = ap length valid.spelling ∙ length-object_of_components valid.elements in
    omega (arith, few, long, valid.set.few)
