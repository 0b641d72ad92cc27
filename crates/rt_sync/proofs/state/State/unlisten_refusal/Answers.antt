use Rattle.std.proofs.Common.{rules, ◌≡◌, ◌==◌, ◌&&◌, false, not, [], ◌∷◌, sym, ◌∙◌}
use Rattle.std.specs.List.{list_any}
use Rattle.rt_world.specs.declared.error.CoreError.TheVariants.{TooManyListeners, UnknownListener}
use Rattle.rt_world.specs.declared.step.Step.{Step}
use Rattle.rt_world.specs.World.{Listener}
use Rattle.rt_world.specs.Refusals.{needs_tag}
use Rattle.rt_sync.specs.inside.StateView.{world_of}
use Rattle.rt_sync.proofs.RefusalLaws.{first_here, first_later}
use Rattle.rt_sync.proofs.state.State.unlisten_refusal.Goals as goal

pub returns-then-lacks_tag_to_remove : goal.returns-then-lacks_tag_to_remove
returns-then-lacks_tag_to_remove c =
    let w = world_of c.args.self.now in
    let tag = needs_tag w (Step.Unlisten c.args.seat c.args.listener) in
    let known : not (list_any (λ (l : Listener). l.number == c.args.listener && l.seat == c.args.seat) w.listeners) ≡ false = search rules in
    first_here tag TooManyListeners [] (sym (c.lacks_tag_to_remove.ensures c.args.seat) ∙ c.if-lacks_tag_to_remove.true)
    ∙ first_later _ UnknownListener ((tag, TooManyListeners) ∷ []) known

pub returns : goal.returns
returns c =
    let w = world_of c.args.self.now in
    let tag = needs_tag w (Step.Unlisten c.args.seat c.args.listener) in
    let known : not (list_any (λ (l : Listener). l.number == c.args.listener && l.seat == c.args.seat) w.listeners) ≡ false = search rules in
    first_later tag TooManyListeners [] (sym (c.lacks_tag_to_remove.ensures c.args.seat) ∙ c.if-lacks_tag_to_remove.false)
    ∙ first_later _ UnknownListener ((tag, TooManyListeners) ∷ []) known
