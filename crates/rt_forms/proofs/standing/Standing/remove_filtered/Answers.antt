use Rattle.std.proofs.Common.{◌-◌, ◌==◌, cond, arith, subst, sym, ap, ◌∙◌}
use Rattle.std.specs.List.{list_any}
use Rattle.rt_forms.specs.inside.Trees.{Standing, among, own, AreAt, Lost}
use Rattle.rt_forms.proofs.LessLaws.{lost_filtered}
use Rattle.rt_forms.proofs.standing.Standing.remove_filtered.Goals as goal

pub leave-requires-clause-there : goal.leave-requires-clause-there
leave-requires-clause-there c =
    let x : Standing = record { plain = c.self.inside.plain; filtered = c.self.inside.filtered.items; count = c.self.inside.count } in
    ap (λ b. list_any (λ m. m == c.args.number) (cond b (among c.args.query.now x.filtered) x.plain)) (sym c.requires.filtered)
    ∙ ap (λ (y : Standing). list_any (λ m. m == c.args.number) (own c.args.query.now y)) c.self.view_is ∙ c.requires.there

pub returns : goal.returns
returns c = record {
  by_path = λ p at.
      let x : Standing = record { plain = c.self.inside.plain; filtered = c.self.inside.filtered.items; count = c.self.inside.count } in
      let some = ap (λ (y : Standing). y.count) c.self.view_is in
      let is = lost_filtered x c.args.query.now c.args.number (c.self.inside.count - 1) c.leave.new.filtered.items p c.requires.filtered
      (subst (λ (y : Standing). AreAt p y.filtered) (sym c.self.view_is) at) c.leave.ensures.less (omega (arith, c.requires.some, some)) c.leave.ensures.items in
      subst (λ y. Lost y (record { plain = c.self.inside.plain; filtered = c.leave.new.filtered.items; count = c.self.inside.count - 1 }) c.args.query.now c.args.number) c.self.view_is is;
}
