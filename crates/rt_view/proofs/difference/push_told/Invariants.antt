use Rattle.std.proofs.Common.{◌≡◌, ◌++◌, drop}
use Rattle.rt_view.specs.declared.change.Kind.TheVariants.{Added, Moved, Changed}
use Rattle.rt_view.specs.inside.Telling.{given_of}
use Rattle.rt_view.proofs.difference.push_told.Given as goal

abbrev pub invariant-loop-position : goal.invariant-loop-position
invariant-loop-position l = record {
  added : l.told.first.items ++ given_of Added l.index (drop l.position-index l.now) ≡ l.initial.told.first.items ++ given_of Added l.index l.now;
  moved : l.told.moved.items ++ given_of Moved l.index (drop l.position-index l.now) ≡ l.initial.told.moved.items ++ given_of Moved l.index l.now;
  changed : l.told.changed.items ++ given_of Changed l.index (drop l.position-index l.now) ≡ l.initial.told.changed.items ++ given_of Changed l.index l.now;
}
