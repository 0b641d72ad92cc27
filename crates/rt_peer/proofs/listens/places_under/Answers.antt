use Rattle.std.proofs.Common.{rules, ◌≡◌, ◌∷◌, ◌&&◌, [], true, false, not, ap, subst, sym, ◌∙◌, arith, is_le}
use Rattle.std.specs.List.{All, filter}
use Rattle.std.specs.List.Sorted.{IsStrictlySortedBy}
use Rattle.std.proofs.lemmas.List.Elements.{All-tail}
use Rattle.std.proofs.lemmas.Map.Keys.{sorted_tail}
use Rattle.rt_peer.specs.declared.actions.ActionKey.{ActionKey}
use Rattle.rt_peer.specs.declared.listens.EntrySpot.{EntrySpot}
use Rattle.rt_peer.specs.inside.EntrySpots.{entry_spot_cmp, is_under}
use Rattle.rt_peer.proofs.PlacedLaws.{IsPlaceAdded}
use Rattle.rt_peer.proofs.EntrySpotLaws.{ListsAll, NotInFront, begun_behind, begun_rising, from, lists_begun, lists_done, lists_more, lists_over, own_more}
use Rattle.rt_peer.proofs.listens.places_under.Goals as goal

pub loop-spot-init : goal.loop-spot-init
loop-spot-init c =
    let n = c.args.connection in
    let q = c.args.path.now in
    let ks = c.args.spots.now.keys in
    let left = c.into_iter-spot-iterator.result in
    let is : left ≡ filter (from n q) ks =
    c.into_iter-spot-iterator.ensures.into_iter_gives ∙ c.range-spot-items.ensures.between tt
    ∙ ap (λ (s : EntrySpot). filter (λ t. is_le (entry_spot_cmp s t) && not false) ks) c.in_ok-from.ensures in
    let nil : c.new-places.result.keys ≡ [] = search rules in
    record {
      rising = begun_rising n q ks left is c.range-spot-items.ensures.ordered;
      behind = begun_behind n q ks left is;
      own = subst (All (λ (p : ActionKey). p.connection ≡ n)) (sym nil) (λ k d lt. absurd (omega (arith, lt)));
      lists = subst (ListsAll n q ks left) (sym nil) (lists_begun n q ks left is);
    }

pub loop-spot-preserved : goal.loop-spot-preserved
loop-spot-preserved c =
    let n = c.args.connection in
    let q = c.args.path.now in
    let s = c.in-Some.spot.now in
    let rest = c.next.new.self in
    let begins : c.loop-spot.spot-iterator ≡ s ∷ rest = c.in-Some.ensures.steps in
    let under : is_under n q s ≡ true = sym c.is_under.ensures ∙ c.if-not-is_under.false in
    let added : IsPlaceAdded s.place c.loop-spot.places.keys c.insert.new.self.keys = c.in_ok-insert.ensures.updates.0 in
    record {
      rising = sorted_tail entry_spot_cmp s rest (subst (IsStrictlySortedBy entry_spot_cmp) begins c.loop-spot.invariant.rising);
      behind = All-tail (NotInFront n q) s rest (subst (All (NotInFront n q)) begins c.loop-spot.invariant.behind);
      own = own_more n q s c.loop-spot.places.keys c.insert.new.self.keys under added c.loop-spot.invariant.own;
      lists = lists_more n q c.args.spots.now.keys c.loop-spot.spot-iterator rest s c.loop-spot.places.keys c.insert.new.self.keys begins added c.loop-spot.invariant.lists;
    }

pub returns-then-not-is_under-clause-listed : goal.returns-then-not-is_under-clause-listed
returns-then-not-is_under-clause-listed c =
    lists_over c.args.connection c.args.path.now c.args.spots.now.keys c.loop-spot.spot-iterator c.next.new.self c.in-Some.spot.now c.loop-spot.places.keys
    c.in-Some.ensures.steps (sym c.is_under.ensures ∙ c.if-not-is_under.true) c.loop-spot.invariant.rising c.loop-spot.invariant.behind c.loop-spot.invariant.lists

pub returns-clause-listed : goal.returns-clause-listed
returns-clause-listed c =
    lists_done c.args.connection c.args.path.now c.args.spots.now.keys c.loop-spot.spot-iterator c.loop-spot.places.keys
    c.in-None.ensures.steps.0 c.loop-spot.invariant.lists
