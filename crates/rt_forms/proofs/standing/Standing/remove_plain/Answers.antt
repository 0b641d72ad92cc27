use Rattle.std.proofs.Common.{◌≡◌, ◌-◌, ◌==◌, true, cond, arith, subst, sym, ap, ◌∙◌}
use Rattle.std.specs.List.{list_any}
use Rattle.rt_forms.specs.inside.Trees.{Standing, among, own, Lost}
use Rattle.rt_forms.proofs.LessLaws.{lost_plain}
use Rattle.rt_forms.proofs.standing.Standing.remove_plain.Goals as goal

pub returns : goal.returns
returns c = record {
  by_path = λ p at.
      let x : Standing = record { plain = c.self.inside.plain; filtered = c.self.inside.filtered.items; count = c.self.inside.count } in
      let there : list_any (λ m. m == c.args.number) x.plain ≡ true =
      ap (λ b. list_any (λ m. m == c.args.number) (cond b (among c.args.query.now x.filtered) x.plain)) (sym c.requires.plain)
      ∙ ap (λ (y : Standing). list_any (λ m. m == c.args.number) (own c.args.query.now y)) c.self.view_is ∙ c.requires.there in
      let some = ap (λ (y : Standing). y.count) c.self.view_is in
      let is = lost_plain x c.args.query.now c.args.number (c.self.inside.count - 1) c.remove.new.self c.requires.plain (c.remove.ensures.less there) (omega (arith, c.requires.some, some)) c.remove.ensures.numbers in
      subst (λ y. Lost y (record { plain = c.remove.new.self; filtered = c.self.inside.filtered.items; count = c.self.inside.count - 1 }) c.args.query.now c.args.number) c.self.view_is is;
}
