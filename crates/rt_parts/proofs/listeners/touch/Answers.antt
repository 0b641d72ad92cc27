use Rattle.std.proofs.Common.{◌≡◌, Some, None, Option, sym, ap, ◌∙◌}
use Rattle.rt_view.specs.Views.{View, told, touched}
use Rattle.rt_parts.proofs.listeners.touch.Goals as goal

pub returns-in-Ok-clause-changes : goal.returns-in-Ok-clause-changes
returns-in-Ok-clause-changes c = λ v e.
    let same : c.in-Some.view ≡ v = some_same c.in-Some.view v (sym c.in-Some.is ∙ e) in
    c.in-Ok.ensures.changes ∙ ap (λ (x : View). told x (touched x c.args.named.items)) same
  where
    or_else : View → Option View → View
    or_else d None = d
    or_else d (Some x) = x

    some_same : (x y : View) → ◌≡◌ {A = Option View} (Some x) (Some y) → x ≡ y
    some_same x y e = ap (or_else x) e
