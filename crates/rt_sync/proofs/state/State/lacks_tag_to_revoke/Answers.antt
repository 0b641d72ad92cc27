use Rattle.std.proofs.Common.{false, refl, ap, ◌∙◌}
use Rattle.std.specs.Option.{option_map_or}
use Rattle.rt_cover.specs.State.{Cover, lacks_tag, left_after, listen_at}
use Rattle.rt_sync.specs.declared.state.State.{State}
use Rattle.rt_sync.specs.inside.StateView.{world_of}
use Rattle.rt_sync.proofs.TagLaws.{cover_tied, revoke_needs}
use Rattle.rt_sync.proofs.state.State.lacks_tag_to_revoke.Goals as goal

pub returns : goal.returns
returns c = λ why.
    let state : State = c.args.self.now in
    c.lacks_tag_to_revoke.ensures
    ∙ ap (λ (v : Cover). option_map_or (λ _. lacks_tag v (left_after v c.args.tag)) (listen_at v c.args.tag) false) (cover_tied state.cover (world_of state) c.requires.tied refl refl)
    ∙ revoke_needs c.tag_law.ensures.revoked c.stay_law.ensures.listens (world_of state) c.args.tag why c.requires.good
