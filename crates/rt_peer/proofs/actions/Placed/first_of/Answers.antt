use Rattle.std.proofs.Common.{◌≡◌, ◌∷◌, [], List, rules}
use Rattle.rt_tree.specs.Assignments.{Assignment}
use Rattle.rt_peer.specs.declared.actions.ActionKey.{ActionKey}
use Rattle.rt_peer.proofs.PutBehind.{first_seen, other_seen, none_seen}
use Rattle.rt_peer.proofs.actions.Placed.first_of.Goals as goal

pub returns-in-Some : goal.returns-in-Some
returns-in-Some c =
    let x : ActionKey × List Assignment = (c.in-Some.place.now, c.in-Some.field-0-1.now) in
    let begins : c.range.result ≡ x ∷ c.next.new.self = search rules in
    first_seen c.args.connection c.self.inside.by_place.entries c.args.self.now c.range.result c.next.new.self x c.first_place-from.result
    c.self.view_is c.first_place-from.ensures (c.range.ensures.between tt) begins (search rules)

pub returns-in-Some-2 : goal.returns-in-Some-2
returns-in-Some-2 c =
    let x : ActionKey × List Assignment = (c.in-Some.place.now, c.in-Some.field-0-1.now) in
    let begins : c.range.result ≡ x ∷ c.next.new.self = search rules in
    other_seen c.args.connection c.self.inside.by_place.entries c.args.self.now c.range.result c.next.new.self x c.first_place-from.result
    c.self.invariant.0.order c.self.view_is c.first_place-from.ensures (c.range.ensures.between tt) begins (search rules)

pub returns-in-None : goal.returns-in-None
returns-in-None c =
    let none : c.range.result ≡ [] = search rules in
    none_seen c.args.connection c.self.inside.by_place.entries c.args.self.now c.range.result c.first_place-from.result
    c.self.view_is c.first_place-from.ensures (c.range.ensures.between tt) none
