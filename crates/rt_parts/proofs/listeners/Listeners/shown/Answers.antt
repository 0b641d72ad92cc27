use Rattle.std.proofs.Common.{◌≡◌, ◌==◌, IfOk, sym, ap, ◌∙◌, subst}
use Rattle.std.specs.List.{find}
use Rattle.std.specs.Option.{option_and_then}
use Rattle.rt_world.specs.Answers.{view_before}
use Rattle.rt_world.specs.World.{Listener}
use Rattle.rt_parts.specs.declared.listeners.HeldListener.{HeldListener}
use Rattle.rt_parts.specs.inside.HeldView.{shown_in}
use Rattle.rt_parts.proofs.HeldLaws.{none_held, none_seen, view_held}
use Rattle.rt_parts.proofs.listeners.Listeners.shown.Goals as goal

pub returns-clause-shown : goal.returns-clause-shown
returns-clause-shown c =
    let same : option_and_then (λ (h : HeldListener). shown_in h.view) (find (λ (h : HeldListener). h.number == c.args.number) c.deref.result.now) ≡ view_before c.args.self.now.listeners c.args.number =
    ap (λ held. option_and_then (λ (h : HeldListener). shown_in h.view) (find (λ (h : HeldListener). h.number == c.args.number) held)) c.deref.ensures.value
    ∙ view_held c.args.number c.self.inside.held.items ∙ ap (λ all. view_before all.listeners c.args.number) c.self.view_is in
    subst (λ o. IfOk c.shown.result (λ shown. shown ≡ o)) same c.shown.ensures.shown

pub returns-clause-memory : goal.returns-clause-memory
returns-clause-memory c =
    let same : option_and_then (λ (h : HeldListener). shown_in h.view) (find (λ (h : HeldListener). h.number == c.args.number) c.deref.result.now) ≡ view_before c.args.self.now.listeners c.args.number =
    ap (λ held. option_and_then (λ (h : HeldListener). shown_in h.view) (find (λ (h : HeldListener). h.number == c.args.number) held)) c.deref.ensures.value
    ∙ view_held c.args.number c.self.inside.held.items ∙ ap (λ all. view_before all.listeners c.args.number) c.self.view_is in
    λ e none. c.shown.ensures.memory e (same ∙ none)

pub returns-clause-unknown : goal.returns-clause-unknown
returns-clause-unknown c =
    let held = ap (find (λ (h : HeldListener). h.number == c.args.number)) c.deref.ensures.value in
    let seen = ap (λ all. find (λ (l : Listener). l.number == c.args.number) all.listeners) c.self.view_is in (
      λ e. sym seen ∙ none_seen c.args.number c.self.inside.held.items (sym held ∙ c.shown.ensures.unknown.0 e),
      λ e. c.shown.ensures.unknown.1 (held ∙ none_held c.args.number c.self.inside.held.items (seen ∙ e)),
    )
