use Rattle.std.proofs.Common.{ap, ◌∙◌}
use Rattle.rt_hub.specs.Lines.{line_of, texts_to}
use Rattle.rt_hub.proofs.Done.{checked_then_put, on_ok, puts}
use Rattle.rt_hub.proofs.lines.Waiting.put_all.Goals as goal

pub returns : goal.returns
returns c =
    on_ok c.put_each.result
    (λ put n.
    put n ∙ ap (puts (texts_to n c.args.sent.now)) (c.check_all.ensures n)
    ∙ checked_then_put c.args.bounds (texts_to n c.args.sent.now) (line_of c.args.self.now n))
    c.put_each.ensures
