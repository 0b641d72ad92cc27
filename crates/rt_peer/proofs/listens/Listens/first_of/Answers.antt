use Rattle.std.proofs.Common.{◌≡◌, ◌∷◌, [], rules}
use Rattle.rt_query.specs.Queries.{Query}
use Rattle.rt_peer.specs.declared.listens.Owner.{Owner}
use Rattle.rt_peer.proofs.OwnedLaws.{first_among, none_at_all, none_other}
use Rattle.rt_peer.proofs.listens.Listens.first_of.Goals as goal

pub returns-in-Some-clause-some : goal.returns-in-Some-clause-some
returns-in-Some-clause-some c =
    let x : Owner × Query = (c.in-Some.owner.now, c.in-Some.field-0-1.now) in
    let begins : c.range.result ≡ x ∷ c.next.new.self = search rules in
    first_among c.args.connection c.self.inside.by_owner.entries c.args.self.now c.range.result c.next.new.self x c.first_owner-from.result
    c.self.view_is c.first_owner-from.ensures (c.range.ensures.between tt) begins (search rules)

pub returns-in-Some-2-clause-none : goal.returns-in-Some-2-clause-none
returns-in-Some-2-clause-none c =
    let x : Owner × Query = (c.in-Some.owner.now, c.in-Some.field-0-1.now) in
    let begins : c.range.result ≡ x ∷ c.next.new.self = search rules in
    none_other c.args.connection c.self.inside.by_owner.entries c.args.self.now c.range.result c.next.new.self x c.first_owner-from.result
    c.self.invariant.0 c.self.view_is c.first_owner-from.ensures (c.range.ensures.between tt) begins (search rules)

pub returns-in-None-clause-none : goal.returns-in-None-clause-none
returns-in-None-clause-none c =
    let none : c.range.result ≡ [] = search rules in
    none_at_all c.args.connection c.self.inside.by_owner.entries c.args.self.now c.range.result c.first_owner-from.result
    c.self.view_is c.first_owner-from.ensures (c.range.ensures.between tt) none
