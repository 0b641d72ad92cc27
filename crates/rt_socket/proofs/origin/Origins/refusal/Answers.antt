use Rattle.std.proofs.Common.{◌++◌, ap}
use Rattle.std.specs.Prelude.{codes}
use Rattle.rt_socket.proofs.Named.{told}
use Rattle.rt_socket.proofs.origin.Origins.refusal.Goals as goal

pub returns : goal.returns
returns c = (
  c.answer.ensures.status,
  told _ _ c.format-why.result _ c.answer.ensures.why c.format-why.ensures.ok
      (ap (λ text. codes "a page of " ++ text ++ codes " may not connect") c.shown-origin.ensures),
)
