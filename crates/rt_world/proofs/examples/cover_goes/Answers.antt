use Rattle.std.proofs.Common.{Bool, false, length, ◌==◌, refl, ap, Option}
use mathlib.Core.Bool.{true≢false}
use Rattle.std.specs.Option.{option_map_or}
use Rattle.rt_tree.specs.PathTree.{null, of_leaf, is_null, leaf_at, sub, put, with_children, children_alone, levels}
use Rattle.rt_tree.specs.Children.{children_of}
use Rattle.rt_tree.specs.TreeEq.{tree_eq}
use Rattle.rt_query.specs.Select.{Shown}
use Rattle.rt_world.proofs.examples.cover_goes.Goals as goal

-- whether there is a view without rows
abbrev shows_none : Option Shown → Bool
shows_none o = option_map_or (λ s. length s.rows == 0) o false

pub returns : goal.returns
unfolding null of_leaf is_null leaf_at sub put with_children children_alone levels children_of tree_eq
returns c = (refl, refl, refl, λ e. true≢false (ap shows_none e))
