use Rattle.std.proofs.Common.{◌≡◌, rules, true, false, refl, sym, subst, ◌++◌, ◌∷◌, []}
use Rattle.std.specs.List.{insert}
use Rattle.std.specs.List.Sorted.{IsSorted, IsPartitionPoint}
use Rattle.std.specs.Ordering.{is_lt}
use Rattle.rt_query.specs.QueryOrder.{query_cmp}
use Rattle.rt_cover.specs.inside.Index.{by_form, SameCounts}
use Rattle.rt_cover.proofs.CountLaws.{same_insert}
use Rattle.rt_cover.proofs.SearchLaws.{sorted_insert}
use Rattle.rt_cover.proofs.by_path.place.Goals as goal

pub returns-clause-sorted : goal.returns-clause-sorted
returns-clause-sorted g c =
    let q = g.T.HasForm.form_of in
    let old = c.args.by_path.now.items in
    let k = c.args.item in
    let n = c.place_of_form-at.result in
    let items : c.insert-in_reserved_room.new.self.items ≡ insert old n k = search rules in
    subst (IsSorted (by_form q)) (sym items)
    (sorted_insert q old n k c.requires.sorted
    (subst (λ xs. IsPartitionPoint (λ x. is_lt (query_cmp (q x) (q k)) ≡ true) (λ x. is_lt (query_cmp (q x) (q k)) ≡ false) xs n) c.deref.ensures.value
    (subst (λ f. IsPartitionPoint (λ x. is_lt (query_cmp (q x) f) ≡ true) (λ x. is_lt (query_cmp (q x) f) ≡ false) c.deref.result.now n) c.form.ensures c.place_of_form-at.ensures.point)))

pub returns-clause-same : goal.returns-clause-same
returns-clause-same g c =
    let old = c.args.by_path.now.items in
    let items : c.insert-in_reserved_room.new.self.items ≡ insert old c.place_of_form-at.result c.args.item = search rules in
    subst (λ xs. SameCounts xs (old ++ c.args.item ∷ [])) (sym items) (same_insert old old c.place_of_form-at.result c.args.item (λ p. refl))
