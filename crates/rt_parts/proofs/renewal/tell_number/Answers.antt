use Rattle.std.proofs.Common.{◌≡◌, ◌==◌, ◌++◌, ◌∷◌, [], ℕ, List, Some, None, get_or, rules, ap, sym, ◌∙◌, append-nil}
use Rattle.std.specs.List.{position}
use Rattle.std.proofs.lemmas.List.Quantifiers.{position-Some}
use Rattle.rt_world.specs.declared.report.Note.{Note}
use Rattle.rt_world.specs.World.{Listener}
use Rattle.rt_parts.specs.Listeners.{cancelled_note}
use Rattle.rt_parts.specs.declared.listeners.HeldListener.{HeldListener}
use Rattle.rt_parts.specs.inside.HeldView.{listener_of, listeners_of}
use Rattle.rt_parts.proofs.EndingLaws.{none_of, note}
use Rattle.rt_parts.proofs.Numbered.{only_there, told_none, told_one}
use Rattle.rt_parts.proofs.PushLaws.{on_ok}
use Rattle.rt_parts.proofs.renewal.tell_number.Goals as goal

pub returns-in-Some : goal.returns-in-Some
returns-in-Some c =
    let ls : List HeldListener = c.args.listeners.now in
    let i : ℕ = c.in-Some.at in
    let d : HeldListener = c.index-listeners-at.result in
    let found : position (λ (l : HeldListener). l.number == c.args.number) ls ≡ Some i = search rules in
    let at = position-Some (λ (l : HeldListener). l.number == c.args.number) ls i d found in
    let here : d ≡ get_or ls i d = search rules in
    on_ok c.tell_end.result c.tell_end.ensures (λ e. e
    ∙ ap (λ (h : HeldListener). c.args.notes.now.items ++ cancelled_note c.args.why.now (listener_of h) ∷ []) here
    ∙ ap (λ (z : List Note). c.args.notes.now.items ++ z)
    (sym (told_one (λ (l : Listener). l.number) (λ l. l) (note c.args.why.now) listener_of c.args.number ls i d at.0 at.1
    (only_there (λ (l : HeldListener). l.number) ls c.args.number i c.requires found))))

pub returns-in-None : goal.returns-in-None
returns-in-None c =
    let none : position (λ (l : HeldListener). l.number == c.args.number) c.args.listeners.now ≡ None = search rules in
    sym (ap (λ (z : List Note). c.args.notes.now.items ++ z)
    (told_none (λ (l : Listener). l.number) (λ l. l) (note c.args.why.now) c.args.number (listeners_of c.args.listeners.now) (none_of c.args.number c.args.listeners.now none))
    ∙ append-nil c.args.notes.now.items)
