use Rattle.std.proofs.Common.{◌≡◌, ◌++◌, drop, map, not}
use Rattle.std.specs.List.{filter}
use Rattle.rt_cover.specs.Cover.{Registered, forms}
use Rattle.rt_cover.proofs.StartLaws.{is_seen}
use Rattle.rt_cover.proofs.listeners.forms.Given as goal

abbrev pub invariant-loop-listener : goal.invariant-loop-listener
invariant-loop-listener l = l.forms.items ++ map (λ (x : Registered). x.1) (filter (λ (x : Registered). not (is_seen l.by_number x)) (drop l.listener-index l.by_number)) ≡ forms l.by_number
