use Rattle.std.proofs.Common.{rules, ◌≡◌, false, not, [], ◌∷◌, sym, ◌∙◌}
use Rattle.rt_world.specs.declared.error.CoreError.TheVariants.{NotConnected, TooManyListeners}
use Rattle.rt_world.specs.declared.step.Step.{Step}
use Rattle.rt_world.specs.Refusals.{needs_tag}
use Rattle.rt_sync.specs.inside.StateView.{world_of}
use Rattle.rt_sync.proofs.RefusalLaws.{first_here, first_later}
use Rattle.rt_sync.proofs.state.State.revoke_refusal.Goals as goal

pub returns-then-lacks_tag_to_revoke : goal.returns-then-lacks_tag_to_revoke
returns-then-lacks_tag_to_revoke c = λ why.
    let w = world_of c.args.self.now in
    let tag = needs_tag w (Step.Revoked c.args.tag why) in
    let online : not w.is_connected ≡ false = search rules in
    first_here tag TooManyListeners [] (sym (c.lacks_tag_to_revoke.ensures why) ∙ c.if-lacks_tag_to_revoke.true)
    ∙ first_later _ NotConnected ((tag, TooManyListeners) ∷ []) online

pub returns : goal.returns
returns c = λ why.
    let w = world_of c.args.self.now in
    let tag = needs_tag w (Step.Revoked c.args.tag why) in
    let online : not w.is_connected ≡ false = search rules in
    first_later tag TooManyListeners [] (sym (c.lacks_tag_to_revoke.ensures why) ∙ c.if-lacks_tag_to_revoke.false)
    ∙ first_later _ NotConnected ((tag, TooManyListeners) ∷ []) online
