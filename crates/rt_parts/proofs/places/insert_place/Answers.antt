use Rattle.std.proofs.Common.{◌≡◌, ℕ, List, true, false, rules, sym, ap, subst, ◌∙◌}
use Rattle.std.specs.List.{insert, list_any}
use Rattle.std.specs.List.Sorted.{IsPartitionPoint}
use Rattle.std.specs.Ordering.{is_lt}
use Rattle.rt_tree.specs.PathTree.{Path, path_cmp, paths_total}
use Rattle.rt_parts.specs.declared.places.ListenerPlace.{ListenerPlace}
use Rattle.rt_parts.specs.inside.Placed.{AreInOrder, stand_cmp, stand_of}
use Rattle.rt_parts.proofs.PlaceLaws.{any_insert, up_insert}
use Rattle.rt_parts.proofs.places.insert_place.Goals as goal

pub returns-clause-order : goal.returns-clause-order
returns-clause-order c =
    let old : List ListenerPlace = c.args.places.now.items in
    let at : ℕ = c.first_from-at.result in
    let items : c.insert-in_reserved_room.new.self.items ≡ insert old at c.args.place = search rules in
    let keys : c.keys.result.now ≡ c.args.place.path = c.keys.ensures.keys in
    let point : IsPartitionPoint (λ (x : ListenerPlace). is_lt (stand_cmp (stand_of x) (stand_of c.args.place)) ≡ true) (λ (x : ListenerPlace). is_lt (stand_cmp (stand_of x) (stand_of c.args.place)) ≡ false) old at =
    subst (λ xs. IsPartitionPoint (λ (x : ListenerPlace). is_lt (stand_cmp (stand_of x) (stand_of c.args.place)) ≡ true) (λ (x : ListenerPlace). is_lt (stand_cmp (stand_of x) (stand_of c.args.place)) ≡ false) xs at) c.deref.ensures.value
    (subst (λ (z : Path). IsPartitionPoint (λ (x : ListenerPlace). is_lt (stand_cmp (stand_of x) (z, c.args.place.number)) ≡ true) (λ (x : ListenerPlace). is_lt (stand_cmp (stand_of x) (z, c.args.place.number)) ≡ false) c.deref.result.now at) keys c.first_from-at.ensures.point) in
    subst AreInOrder (sym items)
    (up_insert path_cmp paths_total stand_of old at c.args.place (search rules) c.requires.order point c.requires.free)

pub returns-clause-same : goal.returns-clause-same
returns-clause-same c = λ p.
    let items : c.insert-in_reserved_room.new.self.items ≡ insert c.args.places.now.items c.first_from-at.result c.args.place = search rules in
    ap (list_any p) items ∙ any_insert p c.args.places.now.items c.first_from-at.result c.args.place
