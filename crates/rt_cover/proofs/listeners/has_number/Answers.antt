use Rattle.std.proofs.Common.{ap, ◌∙◌}
use Rattle.rt_cover.specs.inside.Places.{does_stand}
use Rattle.rt_cover.proofs.PlaceLaws.{at_place}
use Rattle.rt_cover.proofs.listeners.has_number.Goals as goal

pub returns : goal.returns
returns c =
    let n = c.args.number in
    let ls = c.args.listeners.now in
    c.stands_at.ensures ∙ ap (λ p. does_stand ls p n) c.place_of.ensures.first ∙ at_place n ls c.requires
