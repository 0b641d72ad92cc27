use Rattle.std.proofs.Common.{rules, ◌≡◌, ◌<◌, ◌==◌, arith, ◌++◌, Bool, not, sym, ap, subst, ◌∙◌}
use Rattle.std.specs.List.{count_by, filter, list_any, AllPairs}
use Rattle.std.specs.List.Sorted.{IsSorted}
use Rattle.rt_cover.specs.Cover.{Tagged}
use Rattle.rt_cover.specs.inside.Index.{by_form, form_of, SameCounts}
use Rattle.rt_cover.proofs.CountLaws.{same_append, same_filter, same_trans}
use Rattle.rt_cover.proofs.SearchLaws.{sorted_filter}
use Rattle.rt_cover.proofs.TakenLaws.{lost_once}
use Rattle.rt_cover.proofs.listens.Listens.replace.Goals as goal

pub take_lost_by_path-requires-clause-sorted : goal.take_lost_by_path-requires-clause-sorted
take_lost_by_path-requires-clause-sorted c = subst (IsSorted (by_form form_of)) (sym c.reserve-2.ensures.items) c.self.invariant.sorted

pub take_lost_by_path-requires-clause-once : goal.take_lost_by_path-requires-clause-once
take_lost_by_path-requires-clause-once c one =
    let goes : Tagged → Bool = λ k. list_any (λ (j : Tagged). j.tag == k.tag) c.args.lost.now in
    let le = lost_once c.args.lost.now c.self.inside.by_tag.items one (subst (AllPairs (λ (j k : Tagged). j.tag < k.tag)) (sym c.self.view_is) c.requires.tags) in
    let same = c.self.invariant.same goes in
    let is = ap (count_by goes) c.reserve-2.ensures.items in
    omega (arith, le, same, is)

pub take_lost_by_tag-requires-clause-tags : goal.take_lost_by_tag-requires-clause-tags
take_lost_by_tag-requires-clause-tags c =
    subst (AllPairs (λ (j k : Tagged). j.tag < k.tag)) (sym (c.reserve.ensures.items ∙ c.self.view_is)) c.requires.tags

pub take_lost_by_tag-requires-clause-once : goal.take_lost_by_tag-requires-clause-once
take_lost_by_tag-requires-clause-once c one =
    let goes : Tagged → Bool = λ k. list_any (λ (j : Tagged). j.tag == k.tag) c.args.lost.now in
    let le = lost_once c.args.lost.now c.self.inside.by_tag.items one (subst (AllPairs (λ (j k : Tagged). j.tag < k.tag)) (sym c.self.view_is) c.requires.tags) in
    let is = ap (count_by goes) c.reserve.ensures.items in
    omega (arith, le, is)

pub place_all-requires-clause-sorted : goal.place_all-requires-clause-sorted
place_all-requires-clause-sorted c =
    let stays : Tagged → Bool = λ k. not (list_any (λ (j : Tagged). j.tag == k.tag) c.args.lost.now) in
    let left : c.take_lost_by_path.new.by_path.items ≡ filter stays c.self.inside.by_path.items = c.take_lost_by_path.ensures.left ∙ ap (filter stays) c.reserve-2.ensures.items in
    subst (IsSorted (by_form form_of)) (sym left) (sorted_filter form_of stays c.self.inside.by_path.items c.self.invariant.sorted)

pub invariant_of-self-2 : goal.invariant_of-self-2
invariant_of-self-2 c =
    let stays : Tagged → Bool = λ k. not (list_any (λ (j : Tagged). j.tag == k.tag) c.args.lost.now) in
    let by_path = c.self.inside.by_path.items in
    let by_tag = c.self.inside.by_tag.items in
    let new = c.args.new.items in
    let left : c.take_lost_by_path.new.by_path.items ≡ filter stays by_path = c.take_lost_by_path.ensures.left ∙ ap (filter stays) c.reserve-2.ensures.items in
    let kept : c.take_lost_by_tag.new.by_tag.items ≡ filter stays by_tag = c.take_lost_by_tag.ensures.left ∙ ap (filter stays) c.reserve.ensures.items in
    let all : c.append-in_reserved_room.new.self.items ≡ c.take_lost_by_tag.new.by_tag.items ++ new = search rules in
    record {
      sorted = c.place_all.ensures.sorted;
      same = same_trans c.place_all.new.by_path.items (filter stays by_path ++ new) c.append-in_reserved_room.new.self.items
          (subst (SameCounts c.place_all.new.by_path.items) (λ i. left i ++ (c.in_ok-copies.ensures ∙ c.deref.ensures.value) i) c.place_all.ensures.same)
          (subst (SameCounts (filter stays by_path ++ new)) (sym (all ∙ ap (λ ks. ks ++ new) kept))
          (same_append (filter stays by_path) (filter stays by_tag) new (same_filter stays by_path by_tag c.self.invariant.same)));
    }
