use Rattle.std.proofs.Common.{◌≡◌, ◌≤◌, ◌++◌, drop}
use Rattle.std.specs.List.{All}
use Rattle.rt_tree.specs.PathTree.{levels, sub}
use Rattle.rt_peer.specs.inside.Watched.{children_at, named_keys}
use Rattle.rt_peer.proofs.views.named_children.Given as goal

abbrev pub invariant-loop-entry : goal.invariant-loop-entry
invariant-loop-entry l = record {
  named : l.named.items ++ children_at (sub l.tree l.path) (named_keys l.path (drop l.entry-index l.entries))
      ≡ children_at (sub l.tree l.path) (named_keys l.path l.entries);
  fits : All (λ c. levels c.1 ≤ 32) l.named.items;
}
