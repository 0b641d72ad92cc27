use Rattle.rt_cache.proofs.Gathering.{at_path, from_behind}
use Rattle.rt_cache.proofs.handover.span_at.Goals as goal

pub returns-clause-ordered : goal.returns-clause-ordered
returns-clause-ordered c =
    from_behind c.args.forms.now c.args.path.now c.first_from-start.result c.first_behind.result c.first_from-start.ensures.point c.first_behind.ensures.point c.first_from-start.ensures.within

pub returns-clause-exact : goal.returns-clause-exact
returns-clause-exact c = λ k d lt.
    at_path c.args.forms.now c.args.path.now c.first_from-start.result c.first_behind.result k d c.first_from-start.ensures.point c.first_behind.ensures.point c.first_behind.ensures.within lt
