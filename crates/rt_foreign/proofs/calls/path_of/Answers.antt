use Rattle.rt_foreign.proofs.Texts.{path_good}
use Rattle.rt_foreign.proofs.calls.path_of.Goals as goal

pub returns-in-Ok-clause-ok : goal.returns-in-Ok-clause-ok
returns-in-Ok-clause-ok c =
    path_good c.args.bytes.now c.in_ok-text_of.field-0.now c.in-Ok.path c.in_ok-text_of.ensures.ok
    c.in-Ok.ensures.refused c.in-Ok.ensures.ok
