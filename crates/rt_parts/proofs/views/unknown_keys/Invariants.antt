use Rattle.std.proofs.Common.{◌≡◌, ◌++◌}
use Rattle.std.specs.Map.{keys_of}
use Rattle.rt_tree.specs.Children.{children_of}
use Rattle.rt_world.specs.Views.{is_child_known}
use Rattle.rt_parts.specs.inside.Unknown.{unknown_keys}
use Rattle.rt_parts.proofs.views.unknown_keys.Given as goal

-- those so far and those that are left
abbrev pub invariant-loop-key : goal.invariant-loop-key
invariant-loop-key l =
    unknown_keys (is_child_known l.base l.pending l.path) (keys_of (children_of l.seen))
    ≡ l.unknown.items ++ unknown_keys (is_child_known l.base l.pending l.path) l.key-iterator
