-- The text of an object is read as it, and what is read as an object is its text.
use Rattle.std.proofs.Common.{◌≡◌, ℕ, ◌≤◌, List, arith, Some}
use Rattle.std.specs.Prelude.{IsTrue}
use Rattle.std.proofs.lemmas.Bool.Decides.{nat_tests}
use Rattle.metrics_builtin.specs.declared.Space.{Space}
use Rattle.metrics_builtin.specs.declared.Space.TheVariants.{L1, LInf, Hamming, Sets}
use Rattle.metrics_builtin.specs.Space.{fits, IsValid}
use Rattle.metrics_builtin.specs.SpaceLaws.{l1_ranges, linf_small, sets_small}
use Rattle.spb_defs.specs.ObjectText.{text_of, object_of}
use Rattle.spb_defs.specs.TextLaws.{IsFree}
use Rattle.spb_defs.specs.VectorTexts.{read_vector, vector_read, IsFree-vector}
use Rattle.spb_defs.specs.StringTexts.{read_string, string_read, IsFree-string}
use Rattle.spb_defs.specs.SetTexts.{read_set, set_read, IsFree-set}

linf_some : (dim most : ℕ) → IsTrue (fits (LInf dim most)) → 1 ≤ dim
linf_some dim most h = grind (arith, nat_tests)

sets_some : (universe most : ℕ) → IsTrue (fits (Sets universe most)) → 1 ≤ universe
sets_some universe most h = grind (arith, nat_tests)

pub read_text : (space : Space) (text object : List ℕ) → IsTrue (fits space) → object_of space text ≡ Some object → IsValid space object
    × (text ≡ text_of space object)
unfolding object_of
read_text (L1 dim most) text object fit e = read_vector dim most text object (l1_ranges dim most fit).most_high e
read_text (LInf dim most) text object fit e = read_vector dim most text object (linf_small dim most fit) e
read_text (Hamming len) text object fit e = read_string len text object e
read_text (Sets universe most) text object fit e = read_set universe most text object (sets_some universe most fit) (sets_small universe most fit) e

pub text_read : (space : Space) (text object : List ℕ) → IsTrue (fits space) → IsValid space object → text ≡ text_of space object
    → object_of space text ≡ Some object
unfolding object_of
text_read (L1 dim most) text object fit v e = vector_read dim most text object (l1_ranges dim most fit).dim_low (l1_ranges dim most fit).most_high v e
text_read (LInf dim most) text object fit v e = vector_read dim most text object (linf_some dim most fit) (linf_small dim most fit) v e
text_read (Hamming len) text object fit v e = string_read len text object v e
text_read (Sets universe most) text object fit v e = set_read universe most text object (sets_small universe most fit) v e

-- a text has no space
pub IsFree-text_of : (space : Space) (object : List ℕ) → IsTrue (fits space) → IsValid space object → IsFree 32 (text_of space object)
IsFree-text_of (L1 dim most) object fit v = IsFree-vector dim most object (l1_ranges dim most fit).most_high v
IsFree-text_of (LInf dim most) object fit v = IsFree-vector dim most object (linf_small dim most fit) v
IsFree-text_of (Hamming len) object fit v = IsFree-string len object v
IsFree-text_of (Sets universe most) object fit v = IsFree-set universe most object (sets_small universe most fit) v
