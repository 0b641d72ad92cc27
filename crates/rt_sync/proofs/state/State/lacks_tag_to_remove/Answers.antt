use Rattle.std.proofs.Common.{refl, ap, sym, ◌∙◌, [], ◌∷◌}
use Rattle.rt_cover.specs.State.{Cover, lacks_tag, without_listeners}
use Rattle.rt_sync.specs.declared.state.State.{State}
use Rattle.rt_sync.specs.inside.StateView.{world_of}
use Rattle.rt_sync.proofs.TagLaws.{cover_tied}
use Rattle.rt_sync.proofs.state.State.lacks_tag_to_remove.Goals as goal

pub returns : goal.returns
returns c = λ seat.
    let state : State = c.args.self.now in
    c.lacks_tag_to_remove.ensures
    ∙ ap (λ (v : Cover). lacks_tag v (without_listeners v.listeners (c.args.listener ∷ []))) (cover_tied state.cover (world_of state) c.requires.tied refl refl)
    ∙ sym (c.tag_law.ensures.unlisten (world_of state) seat c.args.listener)
