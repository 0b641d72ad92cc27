use Rattle.std.proofs.Common.{rules, subst, IfOk, ◌≡◌, ◌∙◌, ap, sym, cond, true, false, [], is_some}
use Rattle.rt_tree.specs.PathTree.{leaf_at, null, children_alone}
use Rattle.rt_cache.proofs.regions.children_alone.Goals as goal

pub returns-then-is_some : goal.returns-then-is_some
unfolding children_alone
returns-then-is_some c =
    let leaf : is_some (leaf_at c.args.tree.now []) ≡ true = search rules in
    c.null.ensures ∙ ap (λ b. cond b null c.args.tree.now) (sym leaf)

pub returns-else-is_some : goal.returns-else-is_some
unfolding children_alone
returns-else-is_some c =
    let leaf : is_some (leaf_at c.args.tree.now []) ≡ false = search rules in
    subst (λ t. IfOk c.copy.result (λ children. children ≡ t)) (ap (λ b. cond b null c.args.tree.now) (sym leaf)) c.copy.ensures
