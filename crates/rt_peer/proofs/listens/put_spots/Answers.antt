use Rattle.std.proofs.Common.{rules, ◌≡◌, ◌<◌, ◌≤◌, true, List, length, get_or, ap, subst, sym, ◌∙◌, arith}
use Rattle.rt_tree.specs.Assignments.{Assignment}
use Rattle.rt_peer.specs.declared.listens.EntrySpot.{EntrySpot}
use Rattle.rt_peer.specs.inside.EntrySpots.{has_entry_spot}
use Rattle.rt_peer.proofs.EntrySpotLaws.{IsSpotAdded, added_itself, added_kept, first_more, kept_itself, kept_through}
use Rattle.rt_peer.proofs.listens.put_spots.Goals as goal

pub loop-entry-init : goal.loop-entry-init
loop-entry-init c = record { kept = kept_itself c.args.spots.now.keys; put = λ k d lt. absurd (omega (arith, lt)) }

pub loop-entry-preserved : goal.loop-entry-preserved
loop-entry-preserved c =
    let k : EntrySpot = c.in_ok-spot_of.field-0 in
    let a : Assignment = c.entry-item.result in
    let old : List EntrySpot = c.loop-entry.spots.keys in
    let new : List EntrySpot = c.insert.new.self.keys in
    let within : c.loop-entry.entry-index < length c.as_slice-entry-items.result.now = search rules in
    let at : a ≡ get_or c.as_slice-entry-items.result.now c.loop-entry.entry-index a = search rules in
    let is : k ≡ record { place = c.args.place; path = a.0 } = search rules in
    let added : IsSpotAdded k old new = c.in_ok-insert.ensures.updates.0 in
    let here : has_entry_spot new c.args.place a.0 ≡ true = subst (λ (s : EntrySpot). has_entry_spot new s.place s.path ≡ true) is (added_itself k old new added) in
    record {
      kept = kept_through c.args.spots.now.keys old new c.loop-entry.invariant.kept (added_kept k old new added);
      put = first_more old new c.args.place c.as_slice-entry-items.result.now c.loop-entry.entry-index a within at (added_kept k old new added) here c.loop-entry.invariant.put;
    }

pub returns-clause-put : goal.returns-clause-put
returns-clause-put c = λ k d lt.
    let same : c.as_slice-entry-items.result.now ≡ c.args.entries.now = search rules in
    let done : length c.as_slice-entry-items.result.now ≤ c.loop-entry.entry-index = search rules in
    ap (λ (es : List Assignment). has_entry_spot c.loop-entry.spots.keys c.args.place (get_or es k d).0) (sym same)
    ∙ c.loop-entry.invariant.put k d (omega (arith, lt, done, ap length same))
