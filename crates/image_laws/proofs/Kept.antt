-- States that pages hold with their trees.
use Rattle.std.proofs.Common.{◌≡◌, ℕ, List, sym, subst, arith}
use Rattle.std.specs.List.{IsDistinct}
use Rattle.std.specs.Map.{keys_of}
use Rattle.std.specs.Ordering.{eq_by_cmp}
use Rattle.answer_lists.specs.Order.{sorted_by}
use Rattle.scan_laws.specs.Tables.{key_before}
use Rattle.spb_defs.specs.State.{State, key_cmp}
use Rattle.object_file.specs.ObjectFile.{slot_at}
use Rattle.store_check.specs.Stands.{placed, placed_members, IsReadable, IsProfiled}
use Rattle.tree_state.specs.StoreTrees.{AreTrees, KeepsTrees}
use Rattle.image_laws.specs.Held.{HoldsTrees}

pub held-kept : (home : ℕ → List ℕ) (s : State) (profiled : IsProfiled home s) → HoldsTrees home profiled.profile s.pivots
    → s.members ≡ sorted_by key_before (placed_members s.cap home) → KeepsTrees home s
held-kept home s profiled holds members =
    let cap : profiled.profile.cap ≡ s.cap = sym profiled.cap in
    record {
      profiled = profiled;
      members = record {
        readable = λ slot below. subst (λ space. IsReadable space (slot_at home slot)) (sym profiled.space) (holds.readable slot (omega (arith, below, cap)));
        distinct = subst (λ (n : ℕ). IsDistinct (eq_by_cmp key_cmp) (keys_of (placed_members n home))) cap holds.distinct;
        members_are = members;
      };
      trees = subst (λ (n : ℕ). AreTrees home profiled.profile s.pivots (placed n home)) cap holds.trees;
    }

pub kept-held : (home : ℕ → List ℕ) (s : State) (keeps : KeepsTrees home s) → HoldsTrees home keeps.profiled.profile s.pivots
kept-held home s keeps =
    let cap : s.cap ≡ keeps.profiled.profile.cap = keeps.profiled.cap in
    record {
      readable = λ slot below. subst (λ space. IsReadable space (slot_at home slot)) keeps.profiled.space (keeps.members.readable slot (omega (arith, below, cap)));
      distinct = subst (λ (n : ℕ). IsDistinct (eq_by_cmp key_cmp) (keys_of (placed_members n home))) cap keeps.members.distinct;
      trees = subst (λ (n : ℕ). AreTrees home keeps.profiled.profile s.pivots (placed n home)) cap keeps.trees;
    }
