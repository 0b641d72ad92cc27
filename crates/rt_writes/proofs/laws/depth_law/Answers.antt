use Rattle.std.proofs.Common.{◌++◌}
use Rattle.rt_tree.specs.PathTree.{strip-append}
use Rattle.rt_writes.specs.laws.ShallowLaws.{shallow-part}
use Rattle.rt_writes.proofs.laws.depth_law.Goals as goal

pub returns : goal.returns
returns c = λ p q t fits h. shallow-part p (p ++ q) q t (strip-append p q) fits h
