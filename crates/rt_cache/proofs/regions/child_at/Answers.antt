use Rattle.std.proofs.Common.{rules, ◌≡◌, ◌∙◌, ap, sym, Some}
use Rattle.std.specs.Option.{option_map}
use Rattle.rt_tree.specs.PathTree.{strip, sub, child}
use Rattle.rt_cache.proofs.Strips.{non_null-none, no_child}
use Rattle.rt_cache.proofs.regions.child_at.Goals as goal

pub returns-in-None : goal.returns-in-None
returns-in-None c =
    let tree : c.region.result.now.tree ≡ c.args.region.now.tree = search rules in
    let path : c.path.result.now ≡ c.args.region.now.path = search rules in
    ap Some (c.null.ensures ∙ no_child _ c.args.key.now (non_null-none _ (sym c.in-None.ensures))
    ∙ ap (λ t. child (sub t c.rest_of-keys.result.now) c.args.key.now) tree)
    ∙ ap (option_map (λ rest. child (sub c.args.region.now.tree rest) c.args.key.now))
    (c.rest_of-keys.ensures ∙ ap (λ p. strip p c.args.path.now) path)
