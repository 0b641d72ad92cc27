use Rattle.std.proofs.Common.{◌≡◌, ◌<◌, ◌≤◌, ◌^◌, ◌+◌, suc}
use Rattle.std.specs.Map.{values_of}
use denote.Param.Weighed.{most}
use Rattle.rt_tree.specs.PathTree.{levels}
use Rattle.rt_tree.specs.Children.{children_of}
use Rattle.rt_peer.specs.Lengths.{capped}
use Rattle.rt_peer.specs.inside.Lengths.{entries_length}
use Rattle.rt_peer.proofs.write.+text_len.Given as goal

-- what is counted and what is left make all, and what is left has fewer levels
abbrev pub invariant-loop-key : goal.invariant-loop-key
invariant-loop-key l = record {
  all : capped (l.len + entries_length l.key-iterator) ≡ capped (suc (entries_length (children_of l.tree)));
  fits : l.len < 2 ^ 64;
  lower : most (λ u. levels u + 1) (values_of l.key-iterator) ≤ levels l.tree;
}

abbrev pub decreases-text_len : goal.decreases-text_len
decreases-text_len l = levels l.tree.now
