use Rattle.std.proofs.Common.{◌≡◌, ◌∷◌, ℕ, List, ap, refl, rules, subst, sym, ◌∙◌}
use Rattle.std.specs.List.{All}
use Rattle.std.specs.Map.{keys_of}
use Rattle.std.proofs.lemmas.List.Elements.{All-head, All-tail}
use Rattle.rt_peer.specs.Pushes.{pushes}
use Rattle.rt_peer.specs.declared.listens.Owner.{Owner}
use Rattle.rt_peer.specs.inside.Met.{IsHanded}
use Rattle.rt_peer.specs.inside.Watched.{AreHeard, AreOf}
use Rattle.rt_peer.proofs.FoundLaws.{pushes_begun, pushes_more, pushes_done}
use Rattle.rt_peer.proofs.LookedLaws.{looked_none}
use Rattle.rt_peer.proofs.MetLaws.{handed_each, handed_keys}
use Rattle.rt_peer.proofs.ViewsLaws.{left_all, left_less, turned_all, turned_none}
use Rattle.rt_peer.proofs.pushes.push_all.Goals as goal

pub loop-owner-init : goal.loop-owner-init
loop-owner-init c =
    let t = c.args.write.now.before in
    let u = c.args.write.now.after in
    let es = c.args.entries.now in
    let ls = c.args.listens.now in
    let met = c.in_ok-met.met.entries in
    let left = c.into_iter-owner-iterator.result in
    let is : left ≡ met = c.into_iter-owner-iterator.ensures.into_iter_gives ∙ c.iter-owner-items.ensures.rest in
    let keys : keys_of left ≡ keys_of met = ap keys_of is in
    let all = handed_keys es met (keys_of left) ls keys c.in_ok-met.ensures.handed in
    record {
      own = handed_each es met left ls is c.in_ok-met.ensures.handed c.iter-owner-items.ensures.found;
      sent = pushes_begun t u es ls (keys_of met) (keys_of left) _ (search rules) keys c.requires.made
          c.iter-owner-items.ensures.ordered c.met.ensures.rise (handed_keys es met (keys_of met) ls refl c.in_ok-met.ensures.handed);
      looked = looked_none t u _ (search rules);
      turned = turned_none t u _ c.args.views (search rules) c.requires.of;
      heard = c.requires.heard;
      left = left_all es (keys_of left) (keys_of left) ls _ refl all;
    }

pub loop-owner-preserved : goal.loop-owner-preserved
loop-owner-preserved c =
    let t = c.args.write.now.before in
    let u = c.args.write.now.after in
    let es = c.args.entries.now in
    let ls = c.args.listens.now in
    let o = c.in-Some.owner.now in
    let x : Owner × List ℕ = (o, c.in-Some.numbers.now) in
    let left = c.loop-owner.owner-iterator in
    let rest = c.next.new.self in
    let steps : left ≡ x ∷ rest = c.in-Some.ensures.steps in
    let keys : keys_of left ≡ o ∷ keys_of rest = ap keys_of steps in
    record {
      own = All-tail (λ (e : Owner × List ℕ). IsHanded es e.0 e.1 ls) x rest
          (subst (All (λ (e : Owner × List ℕ). IsHanded es e.0 e.1 ls)) steps c.loop-owner.invariant.own);
      sent = pushes_more t u es ls (keys_of left) (keys_of rest) o c.loop-owner.round.sent.items
          c.push_owned.new.round.sent.items (pushes t u es ls) keys c.in_ok-push_owned.ensures.sent c.loop-owner.invariant.sent;
      looked = c.in_ok-push_owned.ensures.looked;
      turned = c.in_ok-push_owned.ensures.turned;
      heard = c.in_ok-push_owned.ensures.visited.heard c.loop-owner.invariant.heard;
      left = left_less es (keys_of left) (keys_of rest) o ls c.loop-owner.round.looked.entries
          c.push_owned.new.round.looked.entries c.loop-owner.round.views c.push_owned.new.round.views keys
          c.in_ok-push_owned.ensures.visited c.loop-owner.invariant.left;
    }

pub push_owned-requires-clause-own : goal.push_owned-requires-clause-own
push_owned-requires-clause-own c =
    let es = c.args.entries.now in
    let ls = c.args.listens.now in
    let x : Owner × List ℕ = (c.in-Some.owner.now, c.in-Some.numbers.now) in
    let steps : c.loop-owner.owner-iterator ≡ x ∷ c.next.new.self = c.in-Some.ensures.steps in
    All-head (λ (e : Owner × List ℕ). IsHanded es e.0 e.1 ls) x c.next.new.self
    (subst (All (λ (e : Owner × List ℕ). IsHanded es e.0 e.1 ls)) steps c.loop-owner.invariant.own)

pub returns-clause-of : goal.returns-clause-of
returns-clause-of c =
    let views : c.into_parts.result.0 ≡ c.loop-owner.round.views = search rules in
    subst (AreOf c.args.write.now.after) (sym views)
    (turned_all c.args.write.now.before c.args.write.now.after c.args.entries.now c.loop-owner.round.looked.entries
    c.requires.made c.args.listens.now (keys_of c.loop-owner.owner-iterator) c.loop-owner.round.views
    (ap keys_of c.in-None.ensures.steps.0) c.loop-owner.invariant.left c.loop-owner.invariant.turned
    c.loop-owner.invariant.heard)

pub returns-clause-heard : goal.returns-clause-heard
returns-clause-heard c =
    let views : c.into_parts.result.0 ≡ c.loop-owner.round.views = search rules in
    subst (AreHeard c.args.listens.now) (sym views) c.loop-owner.invariant.heard

pub returns-clause-sent : goal.returns-clause-sent
returns-clause-sent c =
    let t = c.args.write.now.before in
    let u = c.args.write.now.after in
    let es = c.args.entries.now in
    let ls = c.args.listens.now in
    let sent : c.into_parts.result.1.items ≡ c.loop-owner.round.sent.items = search rules in
    sent ∙ pushes_done t u es ls (keys_of c.loop-owner.owner-iterator) c.loop-owner.round.sent.items (pushes t u es ls)
    (ap keys_of c.in-None.ensures.steps.0) c.loop-owner.invariant.sent
