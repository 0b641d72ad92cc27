use Rattle.std.proofs.Common.{◌≡◌, ◌<◌, ◌≤◌, ℕ, add-one, length, get_or, rules, subst}
use Rattle.std.proofs.lemmas.List.{take_all}
use Rattle.rt_tree.specs.Assignments.{Assignment}
use Rattle.rt_peer.specs.inside.Met.{AreMet}
use Rattle.rt_peer.proofs.MetLaws.{met_more, met_none}
use Rattle.rt_peer.proofs.write.entries_met.Goals as goal

pub loop-at-init : goal.loop-at-init
loop-at-init c = met_none c.args.entries.now c.new-met.result.entries c.args.spots.now.keys (search rules)

pub loop-at-preserved : goal.loop-at-preserved
loop-at-preserved c =
    let es = c.args.entries.now in
    let i : ℕ = c.loop-at.at in
    let within : i < length es = search rules in
    let a : Assignment = c.index-entries-at.result in
    let here : a ≡ get_or es i a = search rules in
    let more = met_more es i a within here c.args.spots.now.keys c.loop-at.met.entries c.note_entry.new.met.entries
    c.in_ok-note_entry.ensures c.loop-at.invariant in
    rw add-one more

pub returns : goal.returns
returns c =
    let es = c.args.entries.now in
    let done : length es ≤ c.loop-at.at = search rules in
    subst (λ xs. AreMet es xs c.loop-at.met.entries c.args.spots.now.keys) (take_all c.loop-at.at es done) c.loop-at.invariant
