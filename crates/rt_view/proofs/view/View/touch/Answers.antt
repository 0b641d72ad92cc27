use Rattle.std.proofs.Common.{◌≡◌, Some, ap, subst, ◌∙◌}
use Rattle.rt_query.specs.Select.{select}
use Rattle.rt_view.specs.Changes.{changes}
use Rattle.rt_view.specs.Views.{View, told, touched, with_named}
use Rattle.rt_view.proofs.view.View.touch.Goals as goal

pub returns-clause-changes : goal.returns-clause-changes
returns-clause-changes c =
    let v = c.self.inside in
    let known : c.touch_kept.new.known ≡ with_named v.known c.args.named.items = c.in_ok-changes.ensures.put ∙ ap (with_named v.known) c.as_slice-named.ensures.value in
    subst (λ (w : View). c.in_ok-changes.changes ≡ told w (touched w c.args.named.items)) c.self.view_is
    (c.in_ok-changes.ensures.changes ∙ ap (λ t. changes v.query.index (Some (select v.query v.known)) (select v.query t)) known)
