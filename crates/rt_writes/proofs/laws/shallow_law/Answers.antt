use Rattle.std.specs.Prelude.{◌++◌}
use Rattle.rt_tree.specs.PathTree.{strip-append}
use Rattle.rt_writes.specs.laws.ShallowLaws.{shallow-below, shallow-overlay}
use Rattle.rt_writes.proofs.laws.shallow_law.Goals as goal

pub returns : goal.returns
returns c = record {
  put = λ p q t u h g. shallow-below p (p ++ q) q t u (strip-append p q) h g;
  overlay = shallow-overlay;
}
