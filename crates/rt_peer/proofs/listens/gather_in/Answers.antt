use Rattle.std.proofs.Common.{◌≡◌, ◌&&◌, false, not, ap, subst, sym, ◌∙◌, is_le}
use Rattle.std.specs.List.{All, filter}
use Rattle.std.specs.List.Sorted.{IsStrictlySortedBy}
use Rattle.std.proofs.lemmas.List.Elements.{All-tail}
use Rattle.std.proofs.lemmas.Map.Keys.{sorted_tail}
use Rattle.rt_peer.specs.declared.listens.ListenKey.{ListenKey}
use Rattle.rt_peer.specs.inside.Spots.{spot_cmp}
use Rattle.rt_peer.proofs.SpotLaws.{IsAdded, NotBefore, added_kept, begun, begun_behind, begun_rising, finds_all, finds_more, finds_no_more, from, kept_itself, kept_through}
use Rattle.rt_peer.proofs.listens.gather_in.Goals as goal

pub loop-spot-init : goal.loop-spot-init
loop-spot-init c =
    let p = c.args.path.now in
    let ks = c.args.spots.now.keys in
    let left = c.into_iter-spot-iterator.result in
    let is : left ≡ filter (from p) ks =
    c.into_iter-spot-iterator.ensures.into_iter_gives ∙ c.range-spot-items.ensures.between tt
    ∙ ap (λ (s : ListenKey). filter (λ q. is_le (spot_cmp s q) && not false) ks) c.in_ok-from.ensures in
    record {
      kept = kept_itself c.args.found.now.keys;
      rising = begun_rising p ks left is c.range-spot-items.ensures.ordered;
      behind = begun_behind p ks left is;
      finds = λ all kept found. begun p c.args.below ks left is all found;
    }

pub returns-then-not-is_in-clause-found : goal.returns-then-not-is_in-clause-found
returns-then-not-is_in-clause-found c =
    finds_no_more c.args.path.now c.args.below c.args.spots.now.keys c.loop-spot.spot-iterator c.next.new.self
    c.in-Some.spot.now c.loop-spot.found.keys c.in-Some.ensures.steps c.loop-spot.invariant.finds
    c.loop-spot.invariant.behind c.loop-spot.invariant.rising (sym c.is_in.ensures ∙ c.if-not-is_in.true)

pub loop-spot-preserved : goal.loop-spot-preserved
loop-spot-preserved c =
    let p = c.args.path.now in
    let s = c.in-Some.spot.now in
    let old = c.loop-spot.found.keys in
    let new = c.insert.new.self.keys in
    let rest = c.next.new.self in
    let added : IsAdded s.owner old new = c.in_ok-insert.ensures.updates.0 in
    record {
      kept = kept_through c.args.found.now.keys old new c.loop-spot.invariant.kept (added_kept s.owner old new added);
      rising = sorted_tail spot_cmp s rest (subst (IsStrictlySortedBy spot_cmp) c.in-Some.ensures.steps c.loop-spot.invariant.rising);
      behind = All-tail (NotBefore p) s rest (subst (All (NotBefore p)) c.in-Some.ensures.steps c.loop-spot.invariant.behind);
      finds = finds_more p c.args.below c.args.spots.now.keys c.loop-spot.spot-iterator rest s old new c.in-Some.ensures.steps added c.loop-spot.invariant.finds;
    }

pub returns-clause-found : goal.returns-clause-found
returns-clause-found c =
    finds_all c.args.path.now c.args.below c.args.spots.now.keys c.loop-spot.spot-iterator c.loop-spot.found.keys
    c.in-None.ensures.steps.0 c.loop-spot.invariant.finds
