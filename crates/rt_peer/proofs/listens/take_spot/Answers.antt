use Rattle.std.proofs.Common.{subst}
use Rattle.rt_peer.proofs.ListenLaws.{IsSpotTaken, taken_stand}
use Rattle.rt_peer.proofs.listens.take_spot.Goals as goal

-- the spot that is taken out is the owner's at the path
pub returns-in-Ok : goal.returns-in-Ok
returns-in-Ok c l other h =
    let old = c.args.spots.now.keys in
    let new = c.remove.new.self.keys in
    let p = c.args.path.now in
    let o = c.args.owner in
    let taken : IsSpotTaken (record { path = p; owner = o }) old new =
    subst (λ k. IsSpotTaken k old new) c.in-Ok.ensures c.remove.ensures.updates.0 in
    taken_stand p o.connection o.tag old new taken l other h
