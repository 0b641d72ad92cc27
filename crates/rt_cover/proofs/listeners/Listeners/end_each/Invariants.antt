use Rattle.std.proofs.Common.{◌≡◌, ◌==◌, take}
use Rattle.std.specs.List.{list_any}
use Rattle.rt_cover.specs.inside.Endings.{left}
use Rattle.rt_cover.proofs.listeners.Listeners.end_each.Given as goal

abbrev pub invariant-loop-number : goal.invariant-loop-number
invariant-loop-number l = l.self ≡ left (λ x. list_any (λ n. n == x.0) (take l.number-index l.numbers)) l.initial.self
