use Rattle.std.proofs.Common.{◌&&◌, sym, ap, ◌∙◌}
use Rattle.std.specs.Cmp.Lexicographic.{texts_ties}
use Rattle.rt_tree.specs.TreeEq.{tree_eq}
use Rattle.rt_query.proofs.row.RowPartialEq.eq.Goals as goal

pub returns-then-eq : goal.returns-then-eq
returns-then-eq c =
    c.eq-then-eq.ensures ∙ ap (λ b. b && tree_eq c.args.self.now.value c.args.other.now.value) (sym c.if-eq.true ∙ c.eq.ensures ∙ texts_ties c.args.self.now.key c.args.other.now.key)

pub returns-else-eq : goal.returns-else-eq
returns-else-eq c =
    c.if-eq.false ∙ ap (λ b. b && tree_eq c.args.self.now.value c.args.other.now.value) (sym c.if-eq.false ∙ c.eq.ensures ∙ texts_ties c.args.self.now.key c.args.other.now.key)
