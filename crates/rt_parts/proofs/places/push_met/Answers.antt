use Rattle.std.proofs.Common.{◌≡◌, ◌==◌, ◌&&◌, ◌-◌, ℕ, List, true, false, length, take, drop, sym, subst}
use Rattle.std.specs.List.Sorted.{IsPartitionPoint}
use Rattle.rt_tree.specs.PathTree.{Path, path_cmp, paths_total}
use Rattle.rt_parts.specs.declared.places.ListenerPlace.{ListenerPlace}
use Rattle.rt_parts.specs.inside.Placed.{AreInOrder, is_paired, stand_of}
use Rattle.rt_parts.proofs.MetLaws.{before, front_of, met_all, order_front, rest_of}
use Rattle.rt_parts.proofs.PlaceLaws.{up_drop}
use Rattle.rt_parts.proofs.PushLaws.{on_both, on_ok, rest_is}
use Rattle.rt_parts.proofs.places.push_met.Goals as goal

-- where the path is found
point_of : (places : List ListenerPlace) (z p : Path) (first : ℕ) → z ≡ p
    → IsPartitionPoint (λ x. before z x ≡ true) (λ x. before z x ≡ false) places first → IsPartitionPoint (λ x. before p x ≡ true) (λ x. before p x ≡ false) places first
point_of places z p first is h = subst (λ q. IsPartitionPoint (λ x. before q x ≡ true) (λ x. before q x ≡ false) places first) is h

pub push_above-requires : goal.push_above-requires
push_above-requires c =
    let ls : List ListenerPlace = c.args.places.now in
    let first : ℕ = c.first_from-first.result in
    record {
      order = order_front first ls c.first_from-first.ensures.within c.requires;
      front = front_of c.args.path.now ls first c.first_from-first.ensures.within (point_of ls c.keys.result.now c.args.path.now first c.keys.ensures.keys c.first_from-first.ensures.point);
    }

pub push_under-requires : goal.push_under-requires
push_under-requires c =
    let ls : List ListenerPlace = c.args.places.now in
    let first : ℕ = c.first_from-first.result in
    record {
      order = subst AreInOrder (sym (rest_is ls first)) (up_drop path_cmp paths_total stand_of first ls c.requires);
      behind = rest_of c.args.path.now ls (take (length ls - first) (drop first ls)) first (rest_is ls first) c.first_from-first.ensures.within
          (point_of ls c.keys.result.now c.args.path.now first c.keys.ensures.keys c.first_from-first.ensures.point);
    }

pub returns-clause-kept : goal.returns-clause-kept
returns-clause-kept c = on_ok c.push_under.result c.push_under.ensures.kept (λ kept p e. kept p (c.in_ok-push_above.ensures.kept p e))

pub returns-clause-all : goal.returns-clause-all
returns-clause-all c =
    let ls : List ListenerPlace = c.args.places.now in
    let first : ℕ = c.first_from-first.result in
    on_both c.push_under.result c.push_under.ensures.kept c.push_under.ensures.all (λ kept under.
    met_all c.args.path.now ls (take (length ls - first) (drop first ls)) first (is_paired c.args.entry c.push_above.new.pairs.items) (is_paired c.args.entry c.push_under.new.pairs.items)
    (rest_is ls first) c.first_from-first.ensures.within (point_of ls c.keys.result.now c.args.path.now first c.keys.ensures.keys c.first_from-first.ensures.point)
    (λ x e. kept (λ (o : ℕ × ℕ). x.number == o.0 && c.args.entry == o.1) e) c.in_ok-push_above.ensures.all under)
