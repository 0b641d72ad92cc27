use Rattle.std.proofs.Common.{map, ap, ◌∙◌}
use Rattle.rt_world.specs.steps.Closing.{unseated}
use Rattle.rt_parts.proofs.RequestLaws.{tied_unseated, values_unseated}
use Rattle.rt_parts.proofs.requests.Requests.close.Goals as goal

pub invariant_of-self : goal.invariant_of-self
invariant_of-self c =
    tied_unseated c.args.seat c.self.inside.items.entries c.self.inside.pending c.self.invariant c.pending_law.ensures.unseated c.unseat_all.new.requests.entries c.unseat_all.ensures

pub returns : goal.returns
returns c =
    values_unseated c.args.seat c.self.inside.items.entries c.self.inside.pending c.self.invariant c.unseat_all.new.requests.entries c.unseat_all.ensures
    ∙ ap (map (unseated c.args.seat)) c.self.view_is
