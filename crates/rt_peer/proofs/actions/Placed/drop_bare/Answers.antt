use Rattle.std.proofs.Common.{not, ap, ◌∙◌}
use Rattle.std.specs.List.{filter}
use Rattle.rt_peer.specs.inside.Placed.{is_bare}
use Rattle.rt_peer.proofs.EntrySpotLaws.{spotted_dropped}
use Rattle.rt_peer.proofs.KeptLaws.{kept_dropped}
use Rattle.rt_peer.proofs.actions.Placed.drop_bare.Goals as goal

pub invariant_of-self : goal.invariant_of-self
invariant_of-self c = (
  kept_dropped c.self.inside.by_place.entries c.drop_bare.new.by_place.entries c.self.inside.empty.keys c.drop_bare.new.empty.keys
      c.self.inside.counts.entries c.drop_bare.new.counts.entries c.self.inside.arrived c.self.invariant.0 c.drop_bare.ensures.order
      c.drop_bare.ensures.left c.drop_bare.ensures.counted,
  spotted_dropped c.self.inside.spots.keys c.self.inside.by_place.entries c.drop_bare.new.by_place.entries c.drop_bare.ensures.left c.self.invariant.1,
)

pub returns : goal.returns
returns c = c.drop_bare.ensures.left ∙ ap (filter (λ e. not (is_bare e))) c.self.view_is
