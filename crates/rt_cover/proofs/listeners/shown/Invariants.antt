use Rattle.std.proofs.Common.{◌≡◌, ◌++◌, drop, map}
use Rattle.rt_cover.specs.State.{shown_with}
use Rattle.rt_cover.proofs.listeners.shown.Given as goal

abbrev pub invariant-loop-listen : goal.invariant-loop-listen
invariant-loop-listen l = l.items.items ++ map (shown_with l.listeners) (drop l.listen-index l.kept) ≡ map (shown_with l.listeners) l.kept
