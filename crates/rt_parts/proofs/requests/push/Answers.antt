use Rattle.std.proofs.Common.{◌∙◌}
use Rattle.rt_parts.proofs.RequestLaws.{put_last}
use Rattle.rt_parts.proofs.requests.push.Goals as goal

pub returns-clause-added : goal.returns-clause-added
returns-clause-added c =
    c.in_ok-insert.ensures.entries ∙ put_last c.args.request.id c.args.request c.args.requests.now.entries c.requires.above
