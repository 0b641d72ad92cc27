use Rattle.std.proofs.Common.{◌≡◌, not, ap, subst, sym, refl, ◌∙◌}
use Rattle.std.specs.List.{filter}
use Rattle.rt_peer.specs.Peers.{is_at}
use Rattle.rt_peer.specs.inside.Counts.{AreCounted}
use Rattle.rt_peer.specs.inside.Spots.{AllStand, listen_of, listens_of}
use Rattle.rt_peer.proofs.CountLaws.{counted_taken}
use Rattle.rt_peer.proofs.ListenLaws.{stand_taken}
use Rattle.rt_peer.proofs.OwnedLaws.{none_there, taken, there_alone}
use Rattle.rt_peer.proofs.listens.Listens.remove.Goals as goal

pub invariant_of-self : goal.invariant_of-self
invariant_of-self c =
    let o = c.args.owner in
    let es = c.self.inside.by_owner.entries in
    let ls = listens_of es in
    let left : listens_of c.remove.new.self.entries ≡ filter (λ l. not (is_at o.connection o.tag l)) ls =
    ap listens_of c.remove.ensures.entries ∙ taken o es c.self.invariant.0 in (
      c.remove.ensures.ordered,
      subst (AllStand c.take_spot.new.spots.keys) (sym left)
          (stand_taken o.connection o.tag ls c.self.inside.spots.keys c.take_spot.new.spots.keys c.take_spot.ensures c.self.invariant.1),
      subst (AreCounted c.lower.new.counts.entries) (sym left)
          (counted_taken (listen_of (o, c.in-Some.query)) o.connection o.tag c.self.inside.counts.entries c.lower.new.counts.entries ls
          c.self.invariant.2 (there_alone o c.in-Some.query es c.self.invariant.0 c.in-Some.ensures.value) refl c.lower.ensures),
    )

pub returns-in-Some-clause-left : goal.returns-in-Some-clause-left
returns-in-Some-clause-left c =
    let o = c.args.owner in
    ap listens_of c.remove.ensures.entries ∙ taken o c.self.inside.by_owner.entries c.self.invariant.0
    ∙ ap (filter (λ l. not (is_at o.connection o.tag l))) c.self.view_is

pub returns-in-Some-clause-some : goal.returns-in-Some-clause-some
returns-in-Some-clause-some c =
    let o = c.args.owner in
    ap (filter (is_at o.connection o.tag)) (sym c.self.view_is)
    ∙ there_alone o c.in-Some.query c.self.inside.by_owner.entries c.self.invariant.0 c.in-Some.ensures.value

pub returns-in-None-clause-none : goal.returns-in-None-clause-none
returns-in-None-clause-none c =
    none_there c.args.owner c.self.inside.by_owner.entries c.args.self.now c.self.invariant.0 c.self.view_is c.in-None.ensures.value

pub returns-in-None-clause-left : goal.returns-in-None-clause-left
returns-in-None-clause-left c =
    let o = c.args.owner in
    ap listens_of c.remove.ensures.entries ∙ taken o c.self.inside.by_owner.entries c.self.invariant.0
    ∙ ap (filter (λ l. not (is_at o.connection o.tag l))) c.self.view_is
