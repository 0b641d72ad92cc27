use Rattle.std.proofs.Common.{rules, ◌≡◌, ◌∷◌, [], ℕ, List, true, false, sym, ap, subst, ◌∙◌}
use Rattle.std.specs.List.{insert}
use Rattle.std.specs.List.Sorted.{IsPartitionPoint}
use Rattle.std.specs.Ordering.{is_lt}
use Rattle.rt_query.specs.Queries.{Query}
use Rattle.rt_query.specs.QueryOrder.{query_cmp}
use Rattle.rt_forms.specs.Order.{AreInOrder}
use Rattle.rt_forms.specs.inside.Lists.{IsJoined}
use Rattle.rt_forms.proofs.ListLaws.{is_entered}
use Rattle.rt_forms.proofs.OrderLaws.{insert_in_order}
use Rattle.rt_forms.proofs.standing.enter.Goals as goal

pub returns-clause-ok : goal.returns-clause-ok
returns-clause-ok c =
    let q = c.args.query.now in
    let n = c.args.number in
    let es : List (Query × List ℕ) = c.args.filtered.now.items in
    let items : c.insert.new.self.items ≡ insert es c.first_from-place.result c.in_ok-entry.entry = search rules in
    subst (λ fs. IsJoined es fs q n) (sym (items ∙ ap (insert es c.first_from-place.result) c.in_ok-entry.ensures)) (is_entered q n es c.first_from-place.result c.requires.new)

pub returns-clause-order : goal.returns-clause-order
returns-clause-order c =
    let q = c.args.query.now in
    let es : List (Query × List ℕ) = c.args.filtered.now.items in
    let items : c.insert.new.self.items ≡ insert es c.first_from-place.result c.in_ok-entry.entry = search rules in
    subst AreInOrder (sym (items ∙ ap (insert es c.first_from-place.result) c.in_ok-entry.ensures))
    (insert_in_order es c.first_from-place.result (q, c.args.number ∷ []) c.requires.order
    (subst (λ (xs : List (Query × List ℕ)). IsPartitionPoint (λ (x : Query × List ℕ). is_lt (query_cmp x.0 q) ≡ true) (λ (x : Query × List ℕ). is_lt (query_cmp x.0 q) ≡ false) xs c.first_from-place.result)
    c.deref.ensures.value c.first_from-place.ensures.point))
