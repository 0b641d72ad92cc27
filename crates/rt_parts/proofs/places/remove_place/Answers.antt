use Rattle.std.proofs.Common.{◌≡◌, ◌<◌, ◌≤◌, ℕ, List, true, false, length, get_or, rules, arith, sym, ap, subst, ◌∙◌}
use Rattle.std.specs.List.Sorted.{IsPartitionPoint}
use Rattle.std.specs.Ordering.{is_eq, is_lt}
use Rattle.rt_tree.specs.PathTree.{Path, path_cmp, paths_total}
use Rattle.rt_parts.specs.declared.places.ListenerPlace.{ListenerPlace}
use Rattle.rt_parts.specs.inside.Placed.{stand_cmp, stand_of}
use Rattle.rt_parts.proofs.PlaceLaws.{get_or_any, none_removed, removed}
use Rattle.rt_parts.proofs.places.remove_place.Goals as goal

-- where the first stands, of the list that is there
stands : (places read : List ListenerPlace) (p z : Path) (n at : ℕ) → read ≡ places → z ≡ p
    → IsPartitionPoint (λ (x : ListenerPlace). is_lt (stand_cmp (stand_of x) (z, n)) ≡ true) (λ (x : ListenerPlace). is_lt (stand_cmp (stand_of x) (z, n)) ≡ false) read at
    → IsPartitionPoint (λ (x : ListenerPlace). is_lt (stand_cmp (stand_of x) (p, n)) ≡ true) (λ (x : ListenerPlace). is_lt (stand_cmp (stand_of x) (p, n)) ≡ false) places at
stands places read p z n at same keys h =
    subst (λ xs. IsPartitionPoint (λ (x : ListenerPlace). is_lt (stand_cmp (stand_of x) (p, n)) ≡ true) (λ (x : ListenerPlace). is_lt (stand_cmp (stand_of x) (p, n)) ≡ false) xs at) same
    (subst (λ (y : Path). IsPartitionPoint (λ (x : ListenerPlace). is_lt (stand_cmp (stand_of x) (y, n)) ≡ true) (λ (x : ListenerPlace). is_lt (stand_cmp (stand_of x) (y, n)) ≡ false) read at) keys h)

pub returns-then-at-len : goal.returns-then-at-len
returns-then-at-len c =
    let at : ℕ = c.first_from-at.result in
    let past : length c.args.places.now.items ≤ at = search rules in
    none_removed path_cmp paths_total stand_of (c.args.path.now, c.args.number) c.args.places.now.items at (search rules) c.requires
    (stands c.args.places.now.items c.deref.result.now c.args.path.now c.keys.result.now c.args.number at c.deref.ensures.value c.keys.ensures.keys c.first_from-at.ensures.point)
    (λ d lt. absurd (omega (arith, past, lt)))

pub returns-then-is_place : goal.returns-then-is_place
returns-then-is_place c =
    let at : ℕ = c.first_from-at.result in
    let within : at < length c.args.places.now.items = search rules in
    let here : (d : ListenerPlace) → is_eq (stand_cmp (stand_of (get_or c.args.places.now.items at d)) (c.args.path.now, c.args.number)) ≡ true =
    λ d. let there : get_or c.args.places.now.items at d ≡ c.index.result.now = get_or_any c.args.places.now.items at d c.index.result.now within ∙ sym c.index.ensures in
    ap (λ (x : ListenerPlace). is_eq (stand_cmp (stand_of x) (c.args.path.now, c.args.number))) there ∙ sym c.is_place.ensures ∙ c.if-is_place.true in
    c.remove.ensures.items
    ∙ removed path_cmp paths_total stand_of (c.args.path.now, c.args.number) c.args.places.now.items at within c.requires
    (stands c.args.places.now.items c.deref.result.now c.args.path.now c.keys.result.now c.args.number at c.deref.ensures.value c.keys.ensures.keys c.first_from-at.ensures.point)
    here

pub returns-else-is_place : goal.returns-else-is_place
returns-else-is_place c =
    let at : ℕ = c.first_from-at.result in
    none_removed path_cmp paths_total stand_of (c.args.path.now, c.args.number) c.args.places.now.items at (search rules) c.requires
    (stands c.args.places.now.items c.deref.result.now c.args.path.now c.keys.result.now c.args.number at c.deref.ensures.value c.keys.ensures.keys c.first_from-at.ensures.point)
    (λ d lt.
    let there : get_or c.args.places.now.items at d ≡ c.index.result.now = get_or_any c.args.places.now.items at d c.index.result.now lt ∙ sym c.index.ensures in
    ap (λ (x : ListenerPlace). is_eq (stand_cmp (stand_of x) (c.args.path.now, c.args.number))) there ∙ sym c.is_place.ensures ∙ c.if-is_place.false)
