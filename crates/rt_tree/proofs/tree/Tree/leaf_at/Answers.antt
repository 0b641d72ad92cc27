use Rattle.std.proofs.Common.{◌∙◌}
use Rattle.rt_tree.specs.Path.{path_keys}
use Rattle.rt_tree.proofs.Named.{leaf_found, no_leaf_found}
use Rattle.rt_tree.proofs.tree.Tree.leaf_at.Goals as goal

pub returns-in-Some : goal.returns-in-Some
returns-in-Some c = c.as_leaf.ensures ∙ leaf_found c.args.self.now c.in-Some.part.now (path_keys c.args.path.now) c.in-Some.ensures

pub returns-in-None : goal.returns-in-None
returns-in-None c = no_leaf_found c.args.self.now (path_keys c.args.path.now) c.in-None.ensures
