use Rattle.std.proofs.Common.{◌≡◌, drop}
use Rattle.rt_view.specs.Views.{with_named}
use Rattle.rt_view.specs.inside.ViewIndex.{IsWindowOf}
use Rattle.rt_view.specs.inside.Telling.{KeepsSeen, kept_by}
use Rattle.rt_view.specs.inside.Windows.{value_at, shown_in}
use Rattle.rt_view.proofs.touch.touch_all.Given as goal

abbrev pub invariant-loop-key : goal.invariant-loop-key
invariant-loop-key l = (IsWindowOf l.query l.known l.window)
    × (with_named l.known (drop l.key-index l.named) ≡ with_named l.initial.known l.named)
    × KeepsSeen (value_at (shown_in l.initial.window)) (value_at (shown_in l.window)) (kept_by l.noted.items)
