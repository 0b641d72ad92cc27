use Rattle.std.proofs.Common.{sym, ap, ◌∙◌}
use Rattle.std.specs.Prelude.{◌==◌}
use Rattle.std.specs.List.{position}
use Rattle.rt_world.specs.World.{Listener}
use Rattle.rt_parts.specs.declared.listeners.HeldListener.{HeldListener}
use Rattle.rt_parts.specs.inside.HeldView.{listener_of}
use Rattle.rt_parts.proofs.HeldLaws.{position_map}
use Rattle.rt_parts.proofs.listeners.Listeners.place_of.Goals as goal

pub returns : goal.returns
returns c =
    c.place_of.ensures ∙ ap (position (λ (h : HeldListener). h.number == c.args.number)) c.deref.ensures.value
    ∙ sym (position_map (λ (l : Listener). l.number == c.args.number) listener_of c.self.inside.held.items)
    ∙ ap (λ all. position (λ (l : Listener). l.number == c.args.number) all.listeners) c.self.view_is
