use Rattle.std.proofs.Common.{◌≡◌, ◌≤◌, take}
use Rattle.std.specs.List.{All}
use Rattle.rt_tree.specs.PathTree.{levels}
use Rattle.rt_cache.specs.Brought.{base}
use Rattle.rt_world.specs.Touched.{children_at}
use Rattle.rt_world.specs.Views.{seen_over}
use Rattle.rt_parts.proofs.views.named_children.Given as goal

-- those of the keys so far
abbrev pub invariant-loop-key : goal.invariant-loop-key
invariant-loop-key l = record {
  children : l.named.items ≡ children_at (seen_over (base l.brought l.query) l.pending l.query) (take l.key-index l.key-items);
  levels : All (λ c. levels c.1 ≤ 32) l.named.items;
}
