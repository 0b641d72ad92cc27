use Rattle.std.proofs.Common.{◌≡◌, ◌&&◌, ◌<◌, ◌≤◌, ℕ, List, length, get_or, rules, sym, ap, subst, ◌∙◌}
use Rattle.std.specs.Prelude.{◌==◌}
use Rattle.rt_tree.specs.Assignments.{Assignment}
use Rattle.rt_parts.specs.declared.places.ListenerPlace.{ListenerPlace}
use Rattle.rt_parts.specs.inside.Pairs.{HavePairs}
use Rattle.rt_parts.proofs.PairLaws.{pairs_more, pairs_none}
use Rattle.rt_parts.proofs.PlaceLaws.{get_or_any}
use Rattle.rt_parts.proofs.PushLaws.{taken_all}
use Rattle.rt_parts.proofs.entries.pairs_met.Goals as goal

pub loop-at-init : goal.loop-at-init
loop-at-init c = pairs_none c.args.places.now c.new-pairs.result.items c.args.entries.now

pub loop-at-preserved : goal.loop-at-preserved
loop-at-preserved c =
    let i : ℕ = c.loop-at.at in
    let within : i < length c.args.entries.now = search rules in
    let d : Assignment = c.index-entries-at.result in
    let here : d ≡ get_or c.args.entries.now i d = search rules in
    pairs_more c.args.places.now c.loop-at.pairs.items c.push_met.new.pairs.items c.args.entries.now i d.0 within
    (λ a. ap (λ (z : Assignment). z.0) (get_or_any c.args.entries.now i a d within ∙ sym here))
    c.in_ok-push_met.ensures.kept c.in_ok-push_met.ensures.all c.loop-at.invariant

pub returns-clause-all : goal.returns-clause-all
returns-clause-all c =
    let done : length c.args.entries.now ≤ c.loop-at.at = search rules in
    λ k d lt i a within e.
    let x : ListenerPlace = get_or c.args.places.now k d in
    c.sort_pairs.ensures.same (λ (o : ℕ × ℕ). x.number == o.0 && i == o.1)
    ∙ subst (λ (es : List Assignment). HavePairs es c.loop-at.pairs.items c.args.places.now) (taken_all c.loop-at.at c.args.entries.now done) c.loop-at.invariant k d lt i a within e
