use Rattle.std.proofs.Common.{◌≡◌, ◌<◌, ◌++◌, ◌∷◌, [], List, not, map, length, sym, ap, subst, ◌∙◌}
use Rattle.std.specs.List.{count_by, filter, AllPairs}
use Rattle.std.specs.List.Sorted.{IsSorted}
use Rattle.rt_query.specs.Queries.{Query}
use Rattle.rt_query.specs.Supply.{does_supply}
use Rattle.rt_cover.specs.Cover.{Tagged}
use Rattle.rt_cover.specs.inside.Index.{by_form, form_of, SameCounts}
use Rattle.rt_cover.proofs.CountLaws.{same_append, same_filter, same_trans}
use Rattle.rt_cover.proofs.ListenLaws.{tags_are}
use Rattle.rt_cover.proofs.TakenLaws.{stopped_count}
use Rattle.rt_cover.proofs.SearchLaws.{sorted_filter}
use Rattle.rt_cover.proofs.listens.Listens.start.Goals as goal

pub take_stopped_by_path-requires-clause-sorted : goal.take_stopped_by_path-requires-clause-sorted
take_stopped_by_path-requires-clause-sorted c = subst (IsSorted (by_form form_of)) (sym c.reserve-2.ensures.items) c.self.invariant.sorted

pub take_stopped_by_path-requires-clause-count : goal.take_stopped_by_path-requires-clause-count
take_stopped_by_path-requires-clause-count c =
    let f : Query = (c.args.listen).form in
    let by_path = c.self.inside.by_path.items in
    let by_tag = c.self.inside.by_tag.items in
    let tags_is : c.in_ok-stopped.stopped.items ≡ map (λ (k : Tagged). k.tag) (filter (λ (k : Tagged). does_supply f k.form) by_tag) =
    tags_are (λ k. does_supply f k.form) c.in_ok-stopped.stopped.items by_path by_tag c.self.invariant.same
    (subst (AllPairs (λ (j k : Tagged). j.tag < k.tag)) (sym c.self.view_is) c.requires)
    (subst (SameCounts c.in_ok-stopped.stopped.items) (λ i. map (λ (k : Tagged). k.tag) (filter (λ (k : Tagged). does_supply (c.form.ensures i) k.form) (c.deref.ensures.value i))) c.in_ok-stopped.ensures.same)
    c.in_ok-stopped.ensures.rise in
    ap length c.deref-2.ensures.value ∙ ap length tags_is ∙ stopped_count (λ k. does_supply f k.form) by_tag
    ∙ sym (c.self.invariant.same (λ k. does_supply f k.form))
    ∙ sym (λ i. count_by (λ (k : Tagged). does_supply (c.form-2.ensures i) k.form) (c.reserve-2.ensures.items i))

pub take_stopped_by_tag-requires-clause-rise : goal.take_stopped_by_tag-requires-clause-rise
take_stopped_by_tag-requires-clause-rise c =
    subst (AllPairs (λ (j k : Tagged). j.tag < k.tag)) (sym (c.reserve.ensures.items ∙ c.self.view_is)) c.requires

pub take_stopped_by_tag-requires-clause-count : goal.take_stopped_by_tag-requires-clause-count
take_stopped_by_tag-requires-clause-count c =
    let f : Query = (c.args.listen).form in
    let by_path = c.self.inside.by_path.items in
    let by_tag = c.self.inside.by_tag.items in
    let tags_is : c.in_ok-stopped.stopped.items ≡ map (λ (k : Tagged). k.tag) (filter (λ (k : Tagged). does_supply f k.form) by_tag) =
    tags_are (λ k. does_supply f k.form) c.in_ok-stopped.stopped.items by_path by_tag c.self.invariant.same
    (subst (AllPairs (λ (j k : Tagged). j.tag < k.tag)) (sym c.self.view_is) c.requires)
    (subst (SameCounts c.in_ok-stopped.stopped.items) (λ i. map (λ (k : Tagged). k.tag) (filter (λ (k : Tagged). does_supply (c.form.ensures i) k.form) (c.deref.ensures.value i))) c.in_ok-stopped.ensures.same)
    c.in_ok-stopped.ensures.rise in
    ap length c.deref-3.ensures.value ∙ ap length tags_is ∙ stopped_count (λ k. does_supply f k.form) by_tag
    ∙ sym (λ i. count_by (λ (k : Tagged). does_supply (c.form-3.ensures i) k.form) (c.reserve.ensures.items i))

pub place-requires-clause-sorted : goal.place-requires-clause-sorted
place-requires-clause-sorted c =
    let f : Query = (c.args.listen).form in
    let by_path = c.self.inside.by_path.items in
    let left : c.take_stopped_by_path.new.by_path.items ≡ filter (λ (k : Tagged). not (does_supply f k.form)) by_path =
    c.take_stopped_by_path.ensures.left ∙ (λ i. filter (λ (k : Tagged). not (does_supply (c.form-2.ensures i) k.form)) (c.reserve-2.ensures.items i)) in
    subst (IsSorted (by_form form_of)) (sym left) (sorted_filter form_of (λ (k : Tagged). not (does_supply f k.form)) by_path c.self.invariant.sorted)

pub invariant_of-self-2 : goal.invariant_of-self-2
invariant_of-self-2 c =
    let l : Tagged = c.args.listen in
    let f : Query = l.form in
    let by_path = c.self.inside.by_path.items in
    let by_tag = c.self.inside.by_tag.items in
    let one : List Tagged = l ∷ [] in
    let left : c.take_stopped_by_path.new.by_path.items ≡ filter (λ (k : Tagged). not (does_supply f k.form)) by_path =
    c.take_stopped_by_path.ensures.left ∙ (λ i. filter (λ (k : Tagged). not (does_supply (c.form-2.ensures i) k.form)) (c.reserve-2.ensures.items i)) in
    let kept : c.take_stopped_by_tag.new.by_tag.items ≡ filter (λ (k : Tagged). not (does_supply f k.form)) by_tag =
    c.take_stopped_by_tag.ensures.left ∙ (λ i. filter (λ (k : Tagged). not (does_supply (c.form-3.ensures i) k.form)) (c.reserve.ensures.items i)) in
    let all : c.push_reserved.new.self.items ≡ c.take_stopped_by_tag.new.by_tag.items ++ one = c.push_reserved.ensures.items in
    record {
      sorted = c.place.ensures.sorted;
      same = same_trans c.place.new.by_path.items (filter (λ (k : Tagged). not (does_supply f k.form)) by_path ++ one) c.push_reserved.new.self.items
          (subst (SameCounts c.place.new.by_path.items) (λ i. left i ++ c.in_ok-copy.ensures i ∷ []) c.place.ensures.same)
          (subst (SameCounts (filter (λ (k : Tagged). not (does_supply f k.form)) by_path ++ one)) (sym (all ∙ ap (λ ks. ks ++ one) kept))
          (same_append (filter (λ (k : Tagged). not (does_supply f k.form)) by_path) (filter (λ (k : Tagged). not (does_supply f k.form)) by_tag) one
          (same_filter (λ (k : Tagged). not (does_supply f k.form)) by_path by_tag c.self.invariant.same)));
    }

pub returns-clause-stopped : goal.returns-clause-stopped
returns-clause-stopped c =
    let f : Query = (c.args.listen).form in
    let by_path = c.self.inside.by_path.items in
    let by_tag = c.self.inside.by_tag.items in
    tags_are (λ k. does_supply f k.form) c.in_ok-stopped.stopped.items by_path by_tag c.self.invariant.same
    (subst (AllPairs (λ (j k : Tagged). j.tag < k.tag)) (sym c.self.view_is) c.requires)
    (subst (SameCounts c.in_ok-stopped.stopped.items) (λ i. map (λ (k : Tagged). k.tag) (filter (λ (k : Tagged). does_supply (c.form.ensures i) k.form) (c.deref.ensures.value i))) c.in_ok-stopped.ensures.same)
    c.in_ok-stopped.ensures.rise
    ∙ (λ i. map (λ (k : Tagged). k.tag) (filter (λ (k : Tagged). does_supply f k.form) (c.self.view_is i)))
