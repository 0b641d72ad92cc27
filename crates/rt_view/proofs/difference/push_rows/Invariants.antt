use Rattle.std.proofs.Common.{◌≡◌, ◌++◌, drop}
use Rattle.std.specs.Option.{option_copied}
use Rattle.rt_view.specs.declared.change.Kind.TheVariants.{Added, Moved, Changed}
use Rattle.rt_view.specs.Changes.{rows_in}
use Rattle.rt_view.specs.inside.Given.{change_of, is_given}
use Rattle.rt_view.proofs.TurnLaws.{given}
use Rattle.rt_view.proofs.difference.push_rows.Given as goal

abbrev pub invariant-loop-row : goal.invariant-loop-row
invariant-loop-row l = record {
  added : l.told.first.items ++ given (is_given Added l.index) (change_of Added) (rows_in (option_copied l.old)) (option_copied l.before) (drop l.row-index l.new)
      ≡ l.initial.told.first.items ++ given (is_given Added l.index) (change_of Added) (rows_in (option_copied l.old)) (option_copied l.initial.before) l.new;
  moved : l.told.moved.items ++ given (is_given Moved l.index) (change_of Moved) (rows_in (option_copied l.old)) (option_copied l.before) (drop l.row-index l.new)
      ≡ l.initial.told.moved.items ++ given (is_given Moved l.index) (change_of Moved) (rows_in (option_copied l.old)) (option_copied l.initial.before) l.new;
  changed : l.told.changed.items ++ given (is_given Changed l.index) (change_of Changed) (rows_in (option_copied l.old)) (option_copied l.before) (drop l.row-index l.new)
      ≡ l.initial.told.changed.items ++ given (is_given Changed l.index) (change_of Changed) (rows_in (option_copied l.old)) (option_copied l.initial.before) l.new;
}
