use Rattle.std.proofs.Common.{ap, ◌∙◌}
use Rattle.rt_cover.specs.inside.Places.{does_stand_kept}
use Rattle.rt_cover.proofs.TagPlaceLaws.{stands_any}
use Rattle.rt_cover.proofs.listen.have_tag.Goals as goal

pub returns : goal.returns
returns c =
    let t = c.args.tag in
    let ks = c.args.kept.now in
    c.stands_at.ensures ∙ ap (λ p. does_stand_kept ks p t) c.place_of.ensures.first ∙ stands_any t ks c.requires
