use Rattle.std.specs.Prelude.{[], ◌∷◌}
use Rattle.rt_writes.specs.laws.OverlayLaws.{fold-overlaid_part}
use Rattle.rt_writes.specs.Writes.{assignments}
use Rattle.rt_writes.proofs.laws.overlay_law.Goals as goal

pub returns-clause-part : goal.returns-clause-part
returns-clause-part c = λ p q t writes. fold-overlaid_part p q (assignments writes) t

pub returns-clause-child : goal.returns-clause-child
returns-clause-child c = λ p t writes k. fold-overlaid_part p (k ∷ []) (assignments writes) t
