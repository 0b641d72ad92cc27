use Rattle.std.proofs.Common.{Bool, false, refl, ap, Option}
use mathlib.Core.Bool.{true≢false}
use Rattle.std.specs.List.{list_any}
use Rattle.std.specs.Option.{option_map_or}
use Rattle.rt_tree.specs.PathTree.{null, of_leaf, is_null, leaf_at, sub, put, with_children, children_alone, levels}
use Rattle.rt_tree.specs.Children.{children_of}
use Rattle.rt_tree.specs.TreeEq.{tree_eq}
use Rattle.rt_query.specs.declared.row.Row.{Row}
use Rattle.rt_query.specs.Select.{Shown}
use Rattle.rt_world.specs.laws.Script.{num}
use Rattle.rt_world.proofs.examples.child_is_named.Goals as goal

-- whether a row's value is 3
abbrev shows_three : Option Shown → Bool
shows_three o = option_map_or (λ s. list_any (λ (r : Row). tree_eq r.value (num 3)) s.rows) o false

pub returns-clause-seen : goal.returns-clause-seen
unfolding null of_leaf is_null leaf_at sub put with_children children_alone levels children_of tree_eq
returns-clause-seen c = (refl, λ e. true≢false (ap shows_three e))
