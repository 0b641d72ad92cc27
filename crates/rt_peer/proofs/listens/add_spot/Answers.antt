use Rattle.std.proofs.Common.{◌≡◌, ap, subst, ◌∙◌}
use Rattle.rt_peer.specs.inside.Spots.{listen_of, spot_of}
use Rattle.rt_peer.proofs.ListenLaws.{IsSpotAdded, added_stand, added_there}
use Rattle.rt_peer.proofs.listens.add_spot.Goals as goal

pub returns-clause-kept : goal.returns-clause-kept
returns-clause-kept c l h =
    added_stand c.in_ok-spot.spot c.args.spots.now.keys c.insert.new.self.keys c.in_ok-insert.ensures.updates.0 l h

pub returns-clause-added : goal.returns-clause-added
returns-clause-added c =
    let old = c.args.spots.now.keys in
    let new = c.insert.new.self.keys in
    let x = listen_of (c.args.owner, c.args.query.now) in
    let is : c.in_ok-spot.spot ≡ spot_of x =
    c.in_ok-spot.ensures ∙ ap (λ p. record { path = p; owner = c.args.owner }) c.path.ensures in
    let added : IsSpotAdded (spot_of x) old new = subst (λ k. IsSpotAdded k old new) is c.in_ok-insert.ensures.updates.0 in
    added_there x old new added
