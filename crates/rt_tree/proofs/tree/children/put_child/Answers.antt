use Rattle.std.proofs.Common.{◌∙◌, sym, subst}
use Rattle.rt_tree.specs.Trees.{IsAllowed}
use Rattle.rt_tree.proofs.Nodes.{allowed-node}
use Rattle.rt_tree.proofs.Trees.{put-object}
use Rattle.rt_tree.proofs.Children.{puts_null, puts_full, allowed_with}
use Rattle.rt_tree.proofs.tree.children.put_child.Goals as goal

pub returns-then-is_null-clause-put : goal.returns-then-is_null-clause-put
returns-then-is_null-clause-put c =
    let puts = puts_null c.args.children.now.entries c.remove.new.self.entries c.args.key c.args.child (sym c.is_null.ensures ∙ c.if-is_null.true) c.in_ok-remove.ensures.updates in
    sym (put-object _ _ c.args.key _ c.args.child puts)

pub returns-then-is_null-clause-allowed : goal.returns-then-is_null-clause-allowed
returns-then-is_null-clause-allowed c =
    let puts = puts_null c.args.children.now.entries c.remove.new.self.entries c.args.key c.args.child (sym c.is_null.ensures ∙ c.if-is_null.true) c.in_ok-remove.ensures.updates in
    allowed_with _ _ c.args.key c.args.child c.requires.allowed c.text-text.ensures.key (subst IsAllowed c.child.view_is (allowed-node c.child.inside.node c.child.invariant)) c.requires.shallow puts

pub returns-clause-put : goal.returns-clause-put
returns-clause-put c =
    let puts = puts_full c.args.children.now.entries c.set_child.new.children.entries c.args.key c.args.child (sym c.is_null.ensures ∙ c.if-is_null.false) c.in_ok-set_child.ensures.sets in
    sym (put-object _ _ c.args.key _ c.args.child puts)

pub returns-clause-allowed : goal.returns-clause-allowed
returns-clause-allowed c =
    let puts = puts_full c.args.children.now.entries c.set_child.new.children.entries c.args.key c.args.child (sym c.is_null.ensures ∙ c.if-is_null.false) c.in_ok-set_child.ensures.sets in
    allowed_with _ _ c.args.key c.args.child c.requires.allowed c.text-text.ensures.key (subst IsAllowed c.child.view_is (allowed-node c.child.inside.node c.child.invariant)) c.requires.shallow puts
