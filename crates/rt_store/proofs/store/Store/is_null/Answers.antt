use Rattle.std.proofs.Common.{◌≡◌, not, is_some, sym, ap, ◌∙◌, rules}
use Rattle.std.specs.Prelude.{◌&&◌}
use Rattle.rt_tree.specs.PathTree.{is_null}
use Rattle.rt_store.specs.Stored.{Stored}
use Rattle.rt_store.proofs.Places.{null_is}
use Rattle.rt_store.proofs.store.Store.is_null.Goals as goal

pub returns-then-is_none : goal.returns-then-is_none
returns-then-is_none c =
    let leaf : c.is_none.result ≡ not (is_some c.self.inside.leaf) = search rules in
    let first : c.is_none-then-is_none.result ≡ not (is_some c.self.inside.first) = search rules in
    first ∙ ap (λ b. b && not (is_some c.self.inside.first)) (sym c.if-is_none.true ∙ leaf) ∙ sym (null_is c.self.inside c.self.invariant)
    ∙ ap (λ (s : Stored). is_null s.tree) c.self.view_is

pub returns-else-is_none : goal.returns-else-is_none
returns-else-is_none c =
    let leaf : c.is_none.result ≡ not (is_some c.self.inside.leaf) = search rules in
    c.if-is_none.false ∙ ap (λ b. b && not (is_some c.self.inside.first)) (sym c.if-is_none.false ∙ leaf) ∙ sym (null_is c.self.inside c.self.invariant)
    ∙ ap (λ (s : Stored). is_null s.tree) c.self.view_is
