use Rattle.std.proofs.Common.{◌≡◌, take}
use Rattle.rt_view.specs.inside.Telling.{kept_by}
use Rattle.rt_view.proofs.seen.keep_all.Given as goal

abbrev pub invariant-loop-one : goal.invariant-loop-one
invariant-loop-one l = l.seen.entries ≡ kept_by (take l.one-index l.noted)
