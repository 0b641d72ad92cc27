use Rattle.std.proofs.Common.{◌≡◌, ◌+◌, ◌%◌, ◌^◌, true, length, sym, subst, ◌∙◌, rules}
use Rattle.rt_tree.specs.Children.{children_of}
use Rattle.rt_tree.specs.TreeEq.{tree_eq, tree_eq_tells}
use Rattle.rt_view.specs.Views.{View, renewed, told}
use Rattle.rt_view.proofs.RunLaws.{told_alike}
use Rattle.rt_view.proofs.view.View.renew.Goals as goal

pub returns-then-eq-clause-renewed : goal.returns-then-eq-clause-renewed
returns-then-eq-clause-renewed c =
    let v = c.self.inside in
    let same : v.known ≡ c.args.known = (tree_eq_tells v.known c.args.known).0 (sym c.eq.ensures ∙ c.if-eq.true) in
    let reads : c.in-Some.reads ≡ length (children_of v.known) + length (children_of c.args.known) = search rules in
    subst (λ (w : View). record { query = v.query; tree = v.known; reads = c.in-Some.reads; turns = (v.turns + 1) % 2 ^ 64; failed = v.failed } ≡ renewed w c.args.known) c.self.view_is
    (λ i. record { query = v.query; tree = same i; reads = reads i; turns = (v.turns + 1) % 2 ^ 64; failed = c.if-self.false i })

pub returns-then-eq-clause-changes : goal.returns-then-eq-clause-changes
returns-then-eq-clause-changes c =
    let alike = subst (λ (w : View). tree_eq w.tree c.args.known ≡ true) c.self.view_is (sym c.eq.ensures ∙ c.if-eq.true) in
    c.of.ensures ∙ c.new.ensures.items ∙ told_alike c.args.self.now c.args.known alike

pub returns-clause-changes : goal.returns-clause-changes
returns-clause-changes c =
    subst (λ (w : View). c.in-Ok.changes ≡ told w (renewed w c.args.known)) c.self.view_is c.in-Ok.ensures.changes
