use Rattle.std.proofs.Common.{ap, sym, ◌∙◌}
use Rattle.rt_view.specs.Views.{told}
use Rattle.rt_peer.proofs.views.renew.Goals as goal

pub returns-in-Ok-clause-told : goal.returns-in-Ok-clause-told
returns-in-Ok-clause-told c = c.in-Ok.ensures.changes ∙ ap (told c.args.view.now) (sym c.in-Ok.ensures.renewed)
