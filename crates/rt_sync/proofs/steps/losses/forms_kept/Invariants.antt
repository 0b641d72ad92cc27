use Rattle.std.proofs.Common.{◌≡◌, ◌++◌, drop, map}
use Rattle.rt_sync.proofs.steps.losses.forms_kept.Given as goal

-- with those of the listens that are left they are all
abbrev pub invariant-loop-listen : goal.invariant-loop-listen
invariant-loop-listen l = l.forms.items ++ map (λ k. k.query) (drop l.listen-index l.listens) ≡ map (λ k. k.query) l.listens
