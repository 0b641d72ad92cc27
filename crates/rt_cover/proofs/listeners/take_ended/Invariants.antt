use Rattle.rt_cover.specs.inside.Endings.{by_number}
use Rattle.rt_cover.proofs.HeldLaws.{walked, IsWalked}
use Rattle.rt_cover.proofs.listeners.take_ended.Given as goal

abbrev pub invariant-loop-listener : goal.invariant-loop-listener
invariant-loop-listener g l = IsWalked (walked (by_number (g.E.EndedListeners.ended l.ending)) l.listener-index l.listeners) l.forms
