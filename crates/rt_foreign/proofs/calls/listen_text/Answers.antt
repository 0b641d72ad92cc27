use Rattle.std.proofs.Common.{◌≡◌, refl, subst}
use Rattle.std.specs.Prelude.{codes, IfOk, string_bytes}
use Rattle.rt_lines.specs.Printing.{json_text}
use Rattle.rt_foreign.proofs.Written.{around_two}
use Rattle.rt_foreign.proofs.calls.listen_text.Goals as goal

pub returns : goal.returns
returns c =
    subst (λ t. IfOk c.format.result (λ text. string_bytes text ≡ t))
    (around_two (codes "{\"k\":\"listen\",\"path\":") (string_bytes c.in_ok-path.path) (json_text c.args.path.now)
    (codes ",\"q\":") c.args.q.now c.args.q.now (codes ",\"tag\":1}") c.in_ok-path.ensures refl)
    c.format.ensures.ok
