use Rattle.std.proofs.Common.{not, sym, ap, ◌∙◌}
use Rattle.rt_tree.specs.PathTree.{sub}
use Rattle.rt_tree.specs.TreeEq.{tree_eq_tells}
use Rattle.rt_peer.proofs.StandingLaws.{kept, told_apart}
use Rattle.rt_peer.proofs.pushes.is_changed.Goals as goal

pub returns-then-leaves_part : goal.returns-then-leaves_part
returns-then-leaves_part c =
    let t = c.args.write.now.before in
    let p = c.args.path.now in
    sym (ap not ((tree_eq_tells (sub t p) (sub c.args.write.now.after p)).1
    (sym (c.requires ∙ kept t p c.args.entries.now (sym c.leaves_part.ensures ∙ c.if-leaves_part.true)))))

pub returns-then-differ_below : goal.returns-then-differ_below
returns-then-differ_below c =
    sym (ap not (told_apart c.args.write.now.before c.args.write.now.after c.args.path.now c.args.entries.now
    (sym c.differ_below.ensures ∙ c.if-differ_below.true)))
