use Rattle.std.proofs.Common.{◌≤◌, ◌+◌, length, subst, sym, ap, ◌∙◌, arith}
use Rattle.rt_tree.specs.Trees.{is_null, put, levels, MayStandAt}
use Rattle.rt_tree.specs.laws.Allowed.{may_stand}
use Rattle.rt_tree.specs.laws.PathTree.{null_of_is_null}
use Rattle.rt_tree.proofs.tree.Tree.put.Goals as goal

pub put_at-requires-clause-fits : goal.put_at-requires-clause-fits
put_at-requires-clause-fits c =
    let fits : length c.args.path.now + levels c.args.tree ≤ 33 =
    omega (arith, c.keys-keys.ensures.valid.short, ap length c.keys-keys.ensures.keys, c.levels.ensures.levels, c.if-levels-keys.false) in
    subst (λ p. MayStandAt p c.args.tree) (sym c.keys-keys.ensures.keys) (may_stand c.args.path.now c.args.tree c.keys-keys.ensures.valid c.levels.ensures.allowed fits)

pub put_at-requires-clause-left : goal.put_at-requires-clause-left
put_at-requires-clause-left c = sym c.is_emptied.ensures ∙ c.if-is_emptied.false

-- nothing is left
pub returns-then-is_emptied-clause-ok : goal.returns-then-is_emptied-clause-ok
returns-then-is_emptied-clause-ok c =
    c.null.ensures ∙ sym (null_of_is_null _ (ap (λ p. is_null (put c.args.self.now p c.args.tree)) (sym c.keys-keys.ensures.keys) ∙ sym c.is_emptied.ensures ∙ c.if-is_emptied.true))
