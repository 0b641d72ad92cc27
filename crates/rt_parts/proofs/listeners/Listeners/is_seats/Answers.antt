use Rattle.std.proofs.Common.{sym, ap, ◌∙◌}
use Rattle.std.specs.Prelude.{◌==◌, ◌&&◌}
use Rattle.std.specs.List.{list_any}
use Rattle.rt_world.specs.World.{Listener}
use Rattle.rt_parts.specs.inside.HeldView.{listener_of}
use Rattle.rt_parts.proofs.HeldLaws.{any_map}
use Rattle.rt_parts.proofs.listeners.Listeners.is_seats.Goals as goal

pub returns : goal.returns
returns c =
    c.is_seats.ensures ∙ ap (list_any (λ h. h.number == c.args.number && h.seat == c.args.seat)) c.deref.ensures.value
    ∙ sym (any_map (λ (l : Listener). l.number == c.args.number && l.seat == c.args.seat) listener_of c.self.inside.held.items)
    ∙ ap (λ all. list_any (λ (l : Listener). l.number == c.args.number && l.seat == c.args.seat) all.listeners) c.self.view_is
