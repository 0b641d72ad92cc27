use Rattle.std.proofs.Common.{◌≡◌, Bool, [], drop, sym, ap, ◌∙◌}
use Rattle.std.proofs.lemmas.List.{drop_all}
use Rattle.std.specs.Map.{keys_of}
use Rattle.rt_tree.specs.PathTree.{Key}
use Rattle.rt_tree.specs.Children.{children_of}
use Rattle.rt_world.specs.Views.{is_child_known}
use Rattle.rt_parts.specs.inside.Unknown.{unknown_keys, without_children}
use Rattle.rt_parts.proofs.KnownLaws.{known_left}
use Rattle.rt_parts.proofs.views.known_alone.Goals as goal

pub returns : goal.returns
returns c =
    let test : Key → Bool = is_child_known c.args.base.now c.args.pending.now c.args.path.now in
    let keys : c.deref-key-items.result.now ≡ unknown_keys test (keys_of (children_of c.args.seen)) = c.deref-key-items.ensures.value ∙ c.in_ok-unknown.ensures in
    let none : drop c.loop-key.key-index c.deref-key-items.result.now ≡ [] = drop_all c.loop-key.key-index c.deref-key-items.result.now c.loop-key-test.false in
    sym (c.loop-key.invariant ∙ ap (without_children c.loop-key.known) none)
    ∙ ap (without_children c.args.seen) keys ∙ known_left test c.args.seen
