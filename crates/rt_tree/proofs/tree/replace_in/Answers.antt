use Rattle.std.proofs.Common.{◌≡◌, [], ap, sym, ◌∙◌}
use Rattle.std.proofs.lemmas.Result.{on_ok_weaker}
use Rattle.rt_tree.specs.Trees.{is_null}
use Rattle.rt_tree.proofs.Trees.{put-root}
use Rattle.rt_tree.proofs.Children.{puts_null}
use Rattle.rt_tree.proofs.Emptied.{puts_written, ordered_written}
use Rattle.rt_tree.proofs.tree.replace_in.Goals as goal

pub returns-then-is_null-clause-ok : goal.returns-then-is_null-clause-ok
returns-then-is_null-clause-ok c =
    on_ok_weaker c.remove.result
    (λ updates. puts_null c.args.children.now.entries c.remove.new.self.entries c.args.key.now c.args.tree (sym c.is_null.ensures ∙ c.if-is_null.true) updates)
    c.remove.ensures.updates

-- the child is changed where it stands
pub returns-in-Ok-clause-ok : goal.returns-in-Ok-clause-ok
returns-in-Ok-clause-ok c =
    let after : c.replace.new.dest ≡ c.args.tree = c.replace.ensures.after in
    puts_written c.args.children.now.entries c.args.key.now [] c.args.tree c.in-Ok.child.now c.replace.new.dest c.in-Ok.ensures.value
    (after ∙ sym (put-root c.in-Ok.child.now c.args.tree))
    (ap is_null after ∙ sym c.is_null.ensures ∙ c.if-is_null.false)

pub returns-in-Ok-clause-ordered : goal.returns-in-Ok-clause-ordered
returns-in-Ok-clause-ordered c = ordered_written c.args.children.now.entries c.args.key.now c.replace.new.dest c.requires.kept.ordered
