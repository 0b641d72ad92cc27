use Rattle.std.proofs.Common.{◌≤◌, ap, sym, subst, ◌∙◌}
use Rattle.std.specs.List.{All}
use Rattle.rt_tree.specs.PathTree.{levels, object}
use Rattle.rt_query.specs.declared.row.Row.{Row}
use Rattle.rt_query.specs.Select.{as_children}
use Rattle.rt_view.proofs.DifferLaws.{object_shown, rows_fit}
use Rattle.rt_view.proofs.view.filtered_of.Goals as goal

pub object_of-requires : goal.object_of-requires
object_of-requires c =
    subst (All (λ (r : Row). levels r.value ≤ 32)) (sym (c.as_slice.ensures.value ∙ c.in_ok-rows.ensures))
    (rows_fit c.args.query.now c.args.known.now c.in_ok-window.window c.children.ensures.allowed c.in_ok-window.ensures)

pub returns : goal.returns
returns c = (
  c.in_ok-window.ensures,
  c.requires,
  c.in_ok-tree.ensures ∙ ap (λ rs. object (as_children rs)) (c.as_slice.ensures.value ∙ c.in_ok-rows.ensures)
      ∙ object_shown c.args.query.now c.args.known.now c.in_ok-window.window c.requires c.in_ok-window.ensures,
)
