use Rattle.std.proofs.Common.{◌≡◌, subst}
use Rattle.std.specs.Prelude.{codes, IfOk, string_bytes}
use Rattle.rt_lines.specs.Printing.{json_text}
use Rattle.rt_foreign.proofs.Written.{around_one}
use Rattle.rt_foreign.proofs.calls.limited_text.Goals as goal

pub returns : goal.returns
returns c =
    subst (λ t. IfOk c.format.result (λ text. string_bytes text ≡ t))
    (around_one (codes "{\"limit\":[\"first\",1],\"order\":") (string_bytes c.in_ok-order.order) (json_text c.args.order.now)
    (codes "}") c.in_ok-order.ensures)
    c.format.ensures.ok
