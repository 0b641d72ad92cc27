use Rattle.std.proofs.Common.{◌≡◌, drop}
use Rattle.rt_view.specs.Views.{with_named}
use Rattle.rt_view.specs.inside.ViewIndex.{stands_in}
use Rattle.rt_view.specs.inside.Telling.{KeepsSeen, kept_by}
use Rattle.rt_view.proofs.touch.touch_each.Given as goal

abbrev pub invariant-loop-key : goal.invariant-loop-key
invariant-loop-key l = (with_named l.known (drop l.key-index l.named) ≡ with_named l.initial.known l.named)
    × KeepsSeen (stands_in l.initial.known) (stands_in l.known) (kept_by l.noted.items)
