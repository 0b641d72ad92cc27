use Rattle.std.proofs.Common.{rules, ◌≡◌, ap, ◌∙◌}
use Rattle.rt_emulate.specs.Diaries.{stamp_of}
use Rattle.rt_emulate.proofs.stamp.stamp.Goals as goal

pub returns : goal.returns
returns c =
    (c.in-Ok.date, c.in-Ok.ensures.value ∙ c.min.ensures, c.stamp_of.ensures ∙ ap stamp_of c.to_bytes.ensures)
