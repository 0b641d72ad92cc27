use Rattle.std.proofs.Common.{◌≡◌, ◌++◌, ◌∷◌, [], ◌-◌, ◌+◌, ◌<◌, ◌≤◌, ◌==◌, ◌&&◌, ◌||◌, ℕ, List, true, false, length, take, get_or, rules, arith, refl, sym, ap, subst, ◌∙◌}
use Rattle.std.specs.Cmp.{nat_eq_equiv}
use Rattle.std.specs.List.{list_any}
use Rattle.std.specs.List.Sorted.{IsPartitionPoint}
use Rattle.std.specs.Ordering.{is_le}
use Rattle.std.proofs.lemmas.List.Folds.{list_any-append}
use Rattle.std.proofs.lemmas.List.Sorted.{IsPartitionPoint-from_clause}
use Rattle.rt_tree.specs.PathTree.{Path, path_cmp, paths_total}
use Rattle.rt_tree.specs.Assignments.{is_at_or_above}
use Rattle.rt_parts.specs.declared.places.ListenerPlace.{ListenerPlace}
use Rattle.rt_parts.specs.inside.Placed.{is_paired, stand_of}
use Rattle.rt_parts.proofs.MetLaws.{order_front, passed_last, taken_last}
use Rattle.rt_parts.proofs.PairLaws.{keeps_pairs, or_yes}
use Rattle.rt_parts.proofs.PlaceLaws.{paths_first}
use Rattle.rt_parts.proofs.places.push_last.Goals as goal

pub returns-then-is_prefix_of-clause-kept : goal.returns-then-is_prefix_of-clause-kept
returns-then-is_prefix_of-clause-kept c = λ p e.
    let items : c.push.new.self.items ≡ c.args.pairs.now.items ++ (c.index-places-end.result.number, c.args.entry) ∷ [] = search rules in
    ap (list_any p) items ∙ keeps_pairs c.args.pairs.now.items ((c.index-places-end.result.number, c.args.entry) ∷ []) p e

pub returns-then-is_prefix_of-clause-all : goal.returns-then-is_prefix_of-clause-all
returns-then-is_prefix_of-clause-all c =
    let last : ListenerPlace = c.index-places-end.result in
    let items : c.push.new.self.items ≡ c.args.pairs.now.items ++ (last.number, c.args.entry) ∷ [] = search rules in
    let long : (length c.args.places.now - 1) + 1 ≡ length c.args.places.now = (let some = c.requires.some in omega (arith, some)) in
    taken_last c.args.path.now c.args.places.now (is_paired c.args.entry c.push.new.self.items) (length c.args.places.now - 1) last long (search rules)
    (ap (λ ps. is_paired c.args.entry ps last) items
    ∙ list_any-append (λ (o : ℕ × ℕ). last.number == o.0 && c.args.entry == o.1) c.args.pairs.now.items ((last.number, c.args.entry) ∷ [])
    ∙ or_yes (list_any (λ (o : ℕ × ℕ). last.number == o.0 && c.args.entry == o.1) c.args.pairs.now.items) _
    ((λ i. (nat_eq_equiv.refl last.number i && nat_eq_equiv.refl c.args.entry i) || false)))

pub returns-clause-all : goal.returns-clause-all
returns-clause-all c =
    let ls : List ListenerPlace = c.args.places.now in
    let last : ListenerPlace = c.index-places-end.result in
    let end : ℕ = length ls - 1 in
    let long : end + 1 ≡ length ls = (let some = c.requires.some in omega (arith, some)) in
    let q : Path = take c.shared.result c.keys-keys.result.now in
    let count : ℕ = c.partition_point.result in
    let point : IsPartitionPoint (λ (x : ListenerPlace). is_le (path_cmp x.path q) ≡ true) (λ (x : ListenerPlace). is_le (path_cmp x.path q) ≡ false) (take end ls) count =
    IsPartitionPoint-from_clause (λ (x : ListenerPlace). is_le (path_cmp x.path q)) (take end ls) count c.partition_point.ensures.partitioned
    (paths_first path_cmp paths_total stand_of q (take end ls) (order_front end ls (omega (arith, long)) c.requires.order)) (λ a r f' k. search rules) in
    passed_last c.args.path.now q ls (is_paired c.args.entry c.args.pairs.now.items) end count last long (search rules) c.requires.order c.requires.front (sym c.is_prefix_of.ensures ∙ c.if-is_prefix_of.false)
    (λ r a b. c.shared.ensures.most r (ap (is_at_or_above r) c.keys.ensures.keys ∙ a) (ap (is_at_or_above r) c.keys-keys.ensures.keys ∙ b)) point
