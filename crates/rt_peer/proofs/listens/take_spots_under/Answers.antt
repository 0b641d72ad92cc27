use Rattle.std.proofs.Common.{rules, ◌≡◌, List, true}
use Rattle.rt_tree.specs.Assignments.{Assignment, is_at_or_above}
use Rattle.rt_peer.specs.declared.listens.EntrySpot.{EntrySpot}
use Rattle.rt_peer.proofs.EntrySpotLaws.{IsSpotTaken, others_itself, others_taken, others_through}
use Rattle.rt_peer.proofs.listens.take_spots_under.Goals as goal
use Rattle.rt_peer.proofs.listens.take_spots_under.Goals.{then-is_prefix_of, else-is_prefix_of}

pub loop-entry-init : goal.loop-entry-init
loop-entry-init c = others_itself c.args.place c.args.path.now c.args.spots.now.keys

pub loop-entry-preserved : goal.loop-entry-preserved
loop-entry-preserved c =
    let a : Assignment = c.entry-item.result in
    let old : List EntrySpot = c.loop-entry.spots.keys in
    elim c.if-is_prefix_of.branch [
      | then-is_prefix_of w ↦
          let low : is_at_or_above c.args.path.now a.0 ≡ true = search rules in
          let taken : IsSpotTaken (record { place = c.args.place; path = a.0 }) old c.if-is_prefix_of.spots.keys = search rules in
          others_through c.args.place c.args.path.now c.args.spots.now.keys old c.if-is_prefix_of.spots.keys c.loop-entry.invariant
          (others_taken c.args.place c.args.path.now a.0 old c.if-is_prefix_of.spots.keys low taken)
      | else-is_prefix_of w ↦ search rules
    ]
