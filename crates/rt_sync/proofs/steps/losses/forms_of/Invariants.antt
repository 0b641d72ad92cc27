use Rattle.std.proofs.Common.{◌≡◌, ◌++◌, drop}
use Rattle.rt_sync.specs.inside.Losing.{forms_at}
use Rattle.rt_sync.proofs.steps.losses.forms_of.Given as goal

-- with those of the numbers that are left they are all
abbrev pub invariant-loop-number : goal.invariant-loop-number
invariant-loop-number l = l.forms.items ++ forms_at l.cover.listeners (drop l.number-index l.numbers) ≡ forms_at l.cover.listeners l.numbers
