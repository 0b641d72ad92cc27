use Rattle.std.proofs.Common.{◌≡◌, ◌==◌, map, IfOk, ap, ◌∙◌, subst}
use Rattle.std.specs.List.{filter, filter_map}
use Rattle.rt_world.specs.World.{Listener}
use Rattle.rt_parts.specs.inside.HeldView.{own_number}
use Rattle.rt_parts.proofs.HeldLaws.{numbers_own}
use Rattle.rt_parts.proofs.listeners.Listeners.numbers_of.Goals as goal

pub returns : goal.returns
returns c =
    let same : filter_map (own_number c.args.seat) c.deref.result.now ≡ map (λ (l : Listener). l.number) (filter (λ (l : Listener). l.seat == c.args.seat) c.args.self.now.listeners) =
    ap (filter_map (own_number c.args.seat)) c.deref.ensures.value ∙ numbers_own c.args.seat c.self.inside.held.items
    ∙ ap (λ all. map (λ (l : Listener). l.number) (filter (λ (l : Listener). l.seat == c.args.seat) all.listeners)) c.self.view_is in
    subst (λ xs. IfOk c.numbers_of.result (λ numbers. numbers.items ≡ xs)) same c.numbers_of.ensures
