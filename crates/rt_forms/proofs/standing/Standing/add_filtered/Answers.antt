use Rattle.std.proofs.Common.{◌+◌, subst}
use Rattle.rt_forms.specs.inside.Trees.{Standing, Gained}
use Rattle.rt_forms.proofs.ListLaws.{gained_filtered}
use Rattle.rt_forms.proofs.standing.Standing.add_filtered.Goals as goal

pub returns-clause-ok : goal.returns-clause-ok
returns-clause-ok c =
    let x : Standing = record { plain = c.self.inside.plain; filtered = c.self.inside.filtered.items; count = c.self.inside.count } in
    let is = gained_filtered x c.args.query.now c.args.number c.join.new.filtered.items c.requires.filtered c.in_ok-join.ensures.ok in
    subst (λ y. Gained y (record { plain = c.self.inside.plain; filtered = c.join.new.filtered.items; count = c.self.inside.count + 1 }) c.args.query.now c.args.number) c.self.view_is is
