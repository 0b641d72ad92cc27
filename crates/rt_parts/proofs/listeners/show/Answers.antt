use Rattle.std.proofs.Common.{Some, sym, subst, ap, ◌∙◌}
use Rattle.rt_query.specs.Select.{select}
use Rattle.rt_view.specs.Changes.{changes}
use Rattle.rt_view.specs.Views.{shown_of}
use Rattle.rt_parts.specs.inside.HeldView.{IsViewOf, shown_in}
use Rattle.rt_parts.proofs.listeners.show.Goals as goal

pub returns-in-Ok-clause-changes : goal.returns-in-Ok-clause-changes
returns-in-Ok-clause-changes c =
    let own : IsViewOf c.args.listener.now.query (Some c.in-Some.view) = subst (IsViewOf c.args.listener.now.query) c.in-Some.is c.requires.view in
    c.in-Ok.ensures.changes
    ∙ (λ i. changes (own.0 i).index (Some (shown_of c.in-Some.view)) (select (own.0 i) c.args.seen))
    ∙ ap (λ v. changes c.args.listener.now.query.index (shown_in v) (select c.args.listener.now.query c.args.seen)) (sym c.in-Some.is)
