use Rattle.std.proofs.Common.{◌≡◌, take}
use Rattle.std.specs.List.{All}
use Rattle.rt_tree.specs.PathTree.{PathTree}
use Rattle.rt_view.specs.inside.ViewIndex.{entries_shown, gone_from, noted_in, rows_in_tree}
use Rattle.rt_view.specs.inside.Telling.{IsSeen, keys_in, put_all, told_in}
use Rattle.rt_view.proofs.seen.find_all_told.Given as goal

abbrev pub invariant-loop-one : goal.invariant-loop-one
invariant-loop-one l = (t : PathTree) → All (IsSeen t (entries_shown l.query l.known)) l.seen
    → (put_all l.gone.items ≡ gone_from (keys_in (take l.one-index l.seen)) (entries_shown l.query l.known) (rows_in_tree l.query.index t))
    × (put_all l.now.items ≡ told_in t (entries_shown l.query l.known) (noted_in (keys_in (take l.one-index l.seen)) (entries_shown l.query l.known)))
