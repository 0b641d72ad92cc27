use Rattle.std.proofs.Common.{◌≡◌, not, [], List, ap, subst, sym, refl, ◌∙◌}
use Rattle.std.specs.List.{filter}
use Rattle.rt_peer.specs.Peers.{Listen, in_place, is_at, is_before}
use Rattle.rt_peer.specs.declared.listens.Owner.{Owner}
use Rattle.rt_peer.specs.inside.Counts.{AreCounted}
use Rattle.rt_peer.specs.inside.Spots.{AllStand, listen_of, listens_of}
use Rattle.rt_peer.proofs.CountLaws.{counted_put, put_back}
use Rattle.rt_peer.proofs.ListenLaws.{none_left, stand_put, stand_still}
use Rattle.rt_peer.proofs.OwnedLaws.{put_alone}
use Rattle.rt_peer.proofs.listens.Listens.keep.Goals as goal

-- none of the owner is among those that are left
none_now : (o : Owner) (ls left old : List Listen) → ls ≡ left → left ≡ filter (λ l. not (is_at o.connection o.tag l)) old
    → filter (is_at o.connection o.tag) ls ≡ []
none_now o ls left old v e = ap (filter (is_at o.connection o.tag)) (v ∙ e) ∙ none_left o.connection o.tag old

pub invariant_of-self : goal.invariant_of-self
invariant_of-self c = (
  c.self.invariant.0,
  stand_still (listens_of c.self.inside.by_owner.entries) c.self.inside.spots.keys c.add_spot.new.spots.keys c.add_spot.ensures.kept c.self.invariant.1,
  c.self.invariant.2,
)

pub invariant_of-self-in_err-raise : goal.invariant_of-self-in_err-raise
invariant_of-self-in_err-raise c = (
  c.self.invariant.0,
  stand_still (listens_of c.self.inside.by_owner.entries) c.self.inside.spots.keys c.add_spot.new.spots.keys c.add_spot.ensures.kept c.self.invariant.1,
  λ n. c.in_err-raise.ensures.err n ∙ c.self.invariant.2 n,
)

pub invariant_of-self-in-Ok : goal.invariant_of-self-in-Ok
invariant_of-self-in-Ok c =
    let o = c.args.owner in
    let x = listen_of (o, c.args.query) in
    let ls = listens_of c.self.inside.by_owner.entries in
    let all : listens_of c.insert.new.self.entries ≡ in_place is_before x ls =
    put_alone o c.args.query c.self.inside.by_owner.entries c.insert.new.self.entries ls c.self.invariant.0 refl
    (none_now o ls _ c.args.self.now c.self.view_is c.remove.ensures.left) c.in-Ok.ensures.entries in (
      c.insert.ensures.ordered,
      subst (AllStand c.add_spot.new.spots.keys) (sym all)
          (stand_put x ls c.self.inside.spots.keys c.add_spot.new.spots.keys c.add_spot.ensures.kept c.in_ok-add_spot.ensures.added c.self.invariant.1),
      subst (AreCounted c.raise.new.counts.entries) (sym all)
          (counted_put x c.self.inside.counts.entries c.raise.new.counts.entries ls c.self.invariant.2 c.in_ok-raise.ensures.ok),
    )

pub invariant_of-self-in-Err : goal.invariant_of-self-in-Err
invariant_of-self-in-Err c =
    let ls = listens_of c.self.inside.by_owner.entries in
    let same : listens_of c.insert.new.self.entries ≡ ls = ap listens_of c.in-Err.ensures.err in (
      c.insert.ensures.ordered,
      subst (AllStand c.add_spot.new.spots.keys) (sym same)
          (stand_still ls c.self.inside.spots.keys c.add_spot.new.spots.keys c.add_spot.ensures.kept c.self.invariant.1),
      subst (AreCounted c.lower.new.counts.entries) (sym same)
          (λ n. put_back c.args.owner.connection c.self.inside.counts.entries c.raise.new.counts.entries c.lower.new.counts.entries c.in_ok-raise.ensures.ok c.lower.ensures n ∙ c.self.invariant.2 n),
    )

pub returns-in-Ok : goal.returns-in-Ok
returns-in-Ok c =
    let o = c.args.owner in
    put_alone o c.args.query c.self.inside.by_owner.entries c.insert.new.self.entries _ c.self.invariant.0 c.self.view_is
    (none_now o _ _ c.args.self.now refl c.remove.ensures.left) c.in-Ok.ensures.entries
    ∙ ap (in_place is_before (listen_of (o, c.args.query))) c.remove.ensures.left
