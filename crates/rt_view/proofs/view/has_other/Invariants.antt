use Rattle.std.proofs.Common.{◌≡◌, not}
use Rattle.std.specs.List.{list_any}
use Rattle.std.specs.Map.{keys_of}
use Rattle.rt_tree.specs.PathTree.{key_eq}
use Rattle.rt_view.proofs.view.has_other.Given as goal

-- whether one of the keys is other is left to those that come
abbrev pub invariant-loop-key : goal.invariant-loop-key
invariant-loop-key l =
    list_any (λ k. not (list_any (λ d. key_eq d.0 k) l.named)) (keys_of l.children.entries)
    ≡ list_any (λ k. not (list_any (λ d. key_eq d.0 k) l.named)) l.key-iterator
