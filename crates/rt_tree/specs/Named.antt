-- Children by the texts of their names, and why some are refused.
use Rattle.std.specs.Prelude.{ℕ, suc, List, [], ◌∷◌, map, nat_lt, if◌then◌else◌, Option, Some, None}
use Rattle.std.specs.Borrow.{Bor}
use Rattle.std.specs.Option.{option_or}
use Rattle.rt_tree.specs.Key.{key_fault}
use Rattle.rt_tree.specs.Leaves.{Key}
use Rattle.rt_tree.specs.Trees.{PathTree, levels}
use Rattle.rt_tree.specs.declared.limits.TheConstants.{MAX_LEVELS}
use Rattle.rt_tree.specs.declared.error.TreeError.{TreeError}
use Rattle.rt_tree.specs.declared.error.TreeError.TheVariants.{TooDeep}

-- each child at the key that the text of its name is
abbrev pub by_name : List (Bor (List ℕ) × PathTree) → List (Key × PathTree)
by_name es = map (λ e. (e.0.now, e.1)) es

-- why a tree can't stand below a key
abbrev pub depth_fault : PathTree → Option TreeError
depth_fault t = if nat_lt MAX_LEVELS (suc (levels t)) then Some TooDeep else None

-- the first fault of children in turn: of each its name is looked at first
abbrev pub children_fault : List (Key × PathTree) → Option TreeError
children_fault [] = None
children_fault (e ∷ es) =
    option_or (option_or (key_fault e.0) (depth_fault e.1)) (children_fault es)
