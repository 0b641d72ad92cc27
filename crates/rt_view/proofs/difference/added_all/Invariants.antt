use Rattle.std.proofs.Common.{◌≡◌, ◌++◌, [], map, None}
use Rattle.std.specs.Option.{option_copied}
use Rattle.rt_order.specs.declared.index.Index.TheVariants as index
use Rattle.rt_query.specs.Select.{row_of}
use Rattle.rt_view.specs.declared.change.Change.TheVariants.{Added}
use Rattle.rt_view.specs.Changes.{is_added}
use Rattle.rt_view.specs.inside.ViewIndex.{entries_of, ordered_in}
use Rattle.rt_view.proofs.TurnLaws.{given}
use Rattle.rt_view.proofs.difference.added_all.Given as goal

abbrev pub invariant-loop-key : goal.invariant-loop-key
invariant-loop-key l =
    l.changes.items ++ given is_added Added [] (option_copied l.before) (map row_of (entries_of index.Key l.key-iterator))
    ≡ given is_added Added [] None (map row_of (ordered_in l.known None))
