use Rattle.std.proofs.Common.{◌≡◌, ap, sym, ◌∙◌, false, refl}
use Rattle.std.specs.Option.{option_map_or}
use Rattle.rt_tree.specs.Trees.{null, is_null, put}
use Rattle.rt_tree.proofs.Trees.{puts_nothing, puts_one, is_null-put}
use Rattle.rt_tree.proofs.tree.add_child.Goals as goal

-- null at a key that has no child
pub returns-then-is_null-clause-ok : goal.returns-then-is_null-clause-ok
returns-then-is_null-clause-ok c =
    puts_nothing c.args.children.now.entries c.args.key.now c.args.rest.now c.args.tree c.requires.absent (sym c.is_null.ensures ∙ c.if-is_null.true)

-- a child more
pub returns-clause-ok : goal.returns-clause-ok
returns-clause-ok c =
    let full : is_null c.args.tree ≡ false = sym c.is_null.ensures ∙ c.if-is_null.false in
    let made : c.in_ok-branch.branch ≡ put null c.args.rest.now c.args.tree = c.in_ok-branch.ensures in
    puts_one c.args.children.now.entries c.args.children.now.entries c.insert.new.self.entries c.args.key.now c.in_ok-key.key c.args.rest.now c.args.tree c.in_ok-branch.branch
    refl c.in_ok-key.ensures
    (made ∙ (λ i. put (option_map_or (λ t. t) (sym c.requires.absent i) null) c.args.rest.now c.args.tree))
    (ap is_null made ∙ is_null-put null c.args.rest.now c.args.tree full)
    c.in_ok-insert.ensures.updates
