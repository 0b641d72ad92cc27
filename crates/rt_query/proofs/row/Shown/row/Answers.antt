use Rattle.std.proofs.Common.{sym, ap, ◌∙◌}
use Rattle.rt_tree.specs.PathTree.{child_of}
use Rattle.rt_query.specs.Rows.{row_at}
use Rattle.rt_query.proofs.ShownLaws.{row_at-tree}
use Rattle.rt_query.proofs.row.Shown.row.Goals as goal

pub returns-in-Some : goal.returns-in-Some
returns-in-Some c =
    let found = row_at-tree c.self.inside.leaf c.self.inside.rows.items c.self.inside.tree c.args.key.now c.self.invariant in
    c.get.ensures.value ∙ ap (λ es. child_of es c.args.key.now) c.in-Some.ensures.children ∙ found ∙ ap (λ s. row_at s.rows c.args.key.now) c.self.view_is

pub returns-in-None : goal.returns-in-None
returns-in-None c =
    let found = row_at-tree c.self.inside.leaf c.self.inside.rows.items c.self.inside.tree c.args.key.now c.self.invariant in
    ap (λ es. child_of es c.args.key.now) (sym c.in-None.ensures.none) ∙ found ∙ ap (λ s. row_at s.rows c.args.key.now) c.self.view_is
