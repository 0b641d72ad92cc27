use Rattle.std.proofs.Common.{◌≡◌, refl, ap, sym, ◌∙◌}
use Rattle.rt_query.specs.Supply.{form}
use Rattle.rt_cover.specs.State.{Cover, is_registered, lacks_tag, with_listener}
use Rattle.rt_world.specs.World.{World}
use Rattle.rt_world.specs.Covering.{cover_in}
use Rattle.rt_sync.specs.inside.StateView.{world_of}
use Rattle.rt_sync.proofs.TagLaws.{cover_tied, new_number}
use Rattle.rt_sync.proofs.state.State.lacks_tag_to_add.Goals as goal

pub returns : goal.returns
returns c = λ seat.
    let w : World = world_of c.args.self.now in
    let same : c.args.self.now.cover ≡ cover_in w = cover_tied c.args.self.now.cover w c.requires.tied refl refl in
    c.lacks_tag_to_add.ensures w.next_listener (ap (λ (v : Cover). is_registered v.listeners w.next_listener) same ∙ new_number w c.requires.good.sound)
    ∙ ap (λ (v : Cover). lacks_tag v (with_listener v.listeners w.next_listener (form c.args.query.now))) same
    ∙ sym (c.tag_law.ensures.listen w seat c.args.query.now c.requires.good.sound)
