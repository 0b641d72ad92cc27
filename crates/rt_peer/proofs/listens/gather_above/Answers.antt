use Rattle.std.proofs.Common.{◌≡◌, ◌≤◌, false, length, take, ap, subst, arith, rules}
use Rattle.rt_peer.specs.inside.Spots.{is_in, AreFound}
use Rattle.rt_peer.proofs.SpotLaws.{all_shorter, kept_itself, kept_through, none_shorter, one_longer}
use Rattle.rt_peer.proofs.listens.gather_above.Goals as goal

pub loop-count-init : goal.loop-count-init
loop-count-init c = record {
  kept = kept_itself c.args.found.now.keys;
  shorter = none_shorter c.args.path.now c.args.spots.now.keys c.args.found.now.keys;
}

pub loop-count-preserved : goal.loop-count-preserved
loop-count-preserved c =
    let p = c.args.path.now in
    let n = c.loop-count.count in
    let ks = c.args.spots.now.keys in
    let old = c.loop-count.found.keys in
    let new = c.gather_in.new.found.keys in
    let is : c.in_ok-above.above ≡ take n p = search rules in
    record {
      kept = kept_through c.args.found.now.keys old new c.loop-count.invariant.kept c.in_ok-gather_in.ensures.kept;
      shorter = one_longer p n ks old new c.loop-count.invariant.shorter c.in_ok-gather_in.ensures.kept
          (subst (λ q. AreFound (is_in q false) ks new) is c.in_ok-gather_in.ensures.found);
    }

pub returns-clause-found : goal.returns-clause-found
returns-clause-found c =
    let p = c.args.path.now in
    let le : length p ≤ c.loop-count.count = omega (arith, ap length c.keys-keys.ensures.keys) in
    all_shorter p c.loop-count.count c.args.spots.now.keys c.loop-count.found.keys le c.loop-count.invariant.shorter
