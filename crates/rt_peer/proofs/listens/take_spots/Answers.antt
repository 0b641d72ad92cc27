use Rattle.std.proofs.Common.{[], List, refl}
use Rattle.rt_tree.specs.Assignments.{Assignment}
use Rattle.rt_peer.specs.declared.listens.EntrySpot.{EntrySpot}
use Rattle.rt_peer.proofs.EntrySpotLaws.{IsSpotTaken, others_itself, others_taken, others_through}
use Rattle.rt_peer.proofs.listens.take_spots.Goals as goal

pub loop-entry-init : goal.loop-entry-init
loop-entry-init c = others_itself c.args.place [] c.args.spots.now.keys

pub loop-entry-preserved : goal.loop-entry-preserved
loop-entry-preserved c =
    let a : Assignment = c.entry-item.result in
    let old : List EntrySpot = c.loop-entry.spots.keys in
    let new : List EntrySpot = c.remove.new.self.keys in
    let taken : IsSpotTaken (record { place = c.args.place; path = a.0 }) old new = c.remove.ensures.updates.0 in
    others_through c.args.place [] c.args.spots.now.keys old new c.loop-entry.invariant (others_taken c.args.place [] a.0 old new refl taken)
