-- What holds of each path and each tree, since their types keep it.
use Rattle.std.specs.Prelude.{◌≡◌}
use Rattle.rt_tree.specs.Path.{IsPath, path_keys, path_text}
use Rattle.rt_tree.specs.PathTree.{Path, PathTree}
use Rattle.rt_tree.specs.Allowed.{IsAllowed}
use Rattle.rt_tree.specs.Assignments.{Assignment}
use Rattle.rt_tree.specs.Reading.{tree_of_data}
use Rattle.rt_tree.specs.Writing.{data_of}

-- a path, which is read back from its text
pub record IsStandingPath (path : Path) : Type 0 where
  pub valid : IsPath path
  pub back : path_keys (path_text path) ≡ path

-- a tree, which is read back from its data
pub record IsStandingTree (tree : PathTree) : Type 0 where
  pub allowed : IsAllowed tree
  pub back : tree_of_data (data_of tree) ≡ tree

abbrev pub IsStanding : Assignment → Type 0
IsStanding entry = IsStandingPath entry.0 × IsStandingTree entry.1
