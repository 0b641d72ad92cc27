use Rattle.std.proofs.Common.{◌≡◌, ◌+◌, ◌==◌, false, subst, ap, ◌∙◌}
use Rattle.std.specs.List.{list_any}
use Rattle.rt_forms.specs.inside.Trees.{Standing, own, Gained}
use Rattle.rt_forms.proofs.ListLaws.{gained_plain, own_plain}
use Rattle.rt_forms.proofs.standing.Standing.add_plain.Goals as goal

pub insert-requires : goal.insert-requires
insert-requires c =
    let x : Standing = record { plain = c.self.inside.plain; filtered = c.self.inside.filtered.items; count = c.self.inside.count } in
    let free : list_any (λ m. m == c.args.number) (own c.args.query.now x) ≡ false = ap (λ (y : Standing). list_any (λ m. m == c.args.number) (own c.args.query.now y)) c.self.view_is ∙ c.requires.free in
    own_plain x c.args.query.now c.args.number c.requires.plain free

pub returns-clause-ok : goal.returns-clause-ok
returns-clause-ok c =
    let x : Standing = record { plain = c.self.inside.plain; filtered = c.self.inside.filtered.items; count = c.self.inside.count } in
    let free : list_any (λ m. m == c.args.number) (own c.args.query.now x) ≡ false = ap (λ (y : Standing). list_any (λ m. m == c.args.number) (own c.args.query.now y)) c.self.view_is ∙ c.requires.free in
    let is = gained_plain x c.args.query.now c.args.number c.insert.new.self c.requires.plain free c.in_ok-insert.ensures.ok in
    subst (λ y. Gained y (record { plain = c.insert.new.self; filtered = c.self.inside.filtered.items; count = c.self.inside.count + 1 }) c.args.query.now c.args.number) c.self.view_is is
