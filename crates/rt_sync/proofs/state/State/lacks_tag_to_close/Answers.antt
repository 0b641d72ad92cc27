use Rattle.std.proofs.Common.{◌==◌, ◌&&◌, refl, ap, ◌∙◌}
use Rattle.std.specs.List.{list_any}
use Rattle.rt_cover.specs.State.{Cover, lacks_tag, without_chosen}
use Rattle.rt_world.specs.World.{Listener}
use Rattle.rt_sync.specs.declared.state.State.{State}
use Rattle.rt_sync.specs.inside.StateView.{world_of}
use Rattle.rt_sync.proofs.TagLaws.{close_needs, cover_tied}
use Rattle.rt_sync.proofs.state.State.lacks_tag_to_close.Goals as goal

pub returns : goal.returns
returns c =
    let state : State = c.args.self.now in
    c.lacks_tag_to_remove_chosen.ensures.exact
    ∙ ap (λ (v : Cover). lacks_tag v (without_chosen (λ n. list_any (λ (l : Listener). l.number == n && l.seat == c.args.seat) state.listeners.listeners) v.listeners)) (cover_tied state.cover (world_of state) c.requires.tied refl refl)
    ∙ close_needs c.tag_law.ensures.close (world_of state) c.args.seat c.requires.good.sound
