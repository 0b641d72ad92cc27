use Rattle.std.proofs.Common.{◌≡◌, ◌∷◌, [], rules}
use Rattle.rt_query.specs.Queries.{Query}
use Rattle.rt_peer.specs.declared.listens.Owner.{Owner}
use Rattle.rt_peer.proofs.NextLaws.{forward, next_among, next_of_none, next_of_other}
use Rattle.rt_peer.proofs.listens.Listens.next_of.Goals as goal

pub range-requires : goal.range-requires
range-requires c = forward _ _ c.start_of.result

pub returns-in-Some-clause-some : goal.returns-in-Some-clause-some
returns-in-Some-clause-some c =
    let x : Owner × Query = (c.in-Some.owner.now, c.in-Some.heard.now) in
    let begins : c.range.result ≡ x ∷ c.next.new.self = search rules in
    next_among c.args.connection c.args.above c.self.inside.by_owner.entries c.args.self.now c.range.result c.next.new.self x
    c.query.result.now c.start_of.result c.self.invariant.0 c.self.view_is c.start_of.ensures (c.range.ensures.between tt)
    begins (search rules) c.query.ensures

pub returns-in-Some-2-clause-none : goal.returns-in-Some-2-clause-none
returns-in-Some-2-clause-none c =
    let x : Owner × Query = (c.in-Some.owner.now, c.in-Some.heard.now) in
    let begins : c.range.result ≡ x ∷ c.next.new.self = search rules in
    next_of_other c.args.connection c.args.above c.self.inside.by_owner.entries c.args.self.now c.range.result c.next.new.self
    x c.start_of.result c.self.invariant.0 c.self.view_is c.start_of.ensures (c.range.ensures.between tt) begins (search rules)

pub returns-in-None-clause-none : goal.returns-in-None-clause-none
returns-in-None-clause-none c =
    let none : c.range.result ≡ [] = search rules in
    next_of_none c.args.connection c.args.above c.self.inside.by_owner.entries c.args.self.now c.range.result
    c.start_of.result c.self.view_is c.start_of.ensures (c.range.ensures.between tt) none
