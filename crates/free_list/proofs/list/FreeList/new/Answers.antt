use Rattle.std.proofs.Common.{rules, ◌<◌, IsTrue, length, slice_index, subst, sym}
use Rattle.page_laws.specs.Pages.{is_live}
use Rattle.free_list.specs.FreeNumbers.{FreeNumbers, is_within}
use Rattle.free_list.proofs.Marks.{next_at}
use Rattle.free_list.proofs.list.FreeList.new.Goals as goal

pub give-requires : goal.give-requires
give-requires c =
    let n = slice_index c.args.free.now c.loop-n.n-index in
    let below : c.loop-n.n-index < length c.args.free.now = search rules in
    record {
      live = subst (λ (l : FreeNumbers). IsTrue (is_live (is_within l.first l.count) l.numbers n)) (sym c.loop-n.invariant)
          (next_at (is_within c.args.first c.args.count) c.args.free.now c.loop-n.n-index below c.requires.free);
    }
