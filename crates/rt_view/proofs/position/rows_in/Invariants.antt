use Rattle.std.specs.Prelude.{◌≡◌, ◌++◌, map}
use Rattle.rt_order.specs.declared.index.Index.TheVariants as index
use Rattle.rt_query.specs.Select.{row_of}
use Rattle.rt_view.specs.inside.ViewIndex.{entries_of}
use Rattle.rt_view.proofs.position.rows_in.Given as goal

abbrev pub invariant-loop-key : goal.invariant-loop-key
invariant-loop-key l = map row_of (entries_of index.Key l.children.entries) ≡ l.rows.items ++ map row_of (entries_of index.Key l.key-iterator)
