use Rattle.std.proofs.Common.{◌≡◌, ◌+◌, refl, ap, sym, subst, ◌∙◌, arith, rules}
use Rattle.std.specs.BTreeMap.{insert_entry}
use Rattle.rt_peer.specs.Peers.{in_place, runs_before}
use Rattle.rt_peer.specs.declared.actions.ActionKey.{ActionKey}
use Rattle.rt_peer.specs.inside.EntrySpots.{AllSpotted, HasSpots}
use Rattle.rt_peer.specs.inside.Placed.{deferred_of, deferreds_of, place_cmp, AreByPlace, AreKept}
use Rattle.rt_peer.proofs.CountLaws.{put_back}
use Rattle.rt_peer.proofs.EntrySpotLaws.{kept_all}
use Rattle.rt_peer.proofs.PutBehind.{all_put, put_behind}
use Rattle.rt_peer.proofs.KeptLaws.{kept_put, kept_still}
use Rattle.rt_peer.proofs.actions.Placed.put.Goals as goal

pub invariant_of-self : goal.invariant_of-self
invariant_of-self c = (
  kept_still c.self.inside.by_place.entries c.self.inside.empty.keys c.mark.new.empty.keys c.self.inside.counts.entries c.self.inside.counts.entries
      c.self.inside.arrived c.self.inside.arrived c.self.invariant.0 c.mark.ensures.kept (λ n. refl) (omega arith),
  c.self.invariant.1,
)

pub invariant_of-self-in_err-put_spots : goal.invariant_of-self-in_err-put_spots
invariant_of-self-in_err-put_spots c = (
  kept_still c.self.inside.by_place.entries c.self.inside.empty.keys c.mark.new.empty.keys c.self.inside.counts.entries c.self.inside.counts.entries
      c.self.inside.arrived c.self.inside.arrived c.self.invariant.0 c.mark.ensures.kept (λ n. refl) (omega arith),
  kept_all c.self.inside.by_place.entries c.self.inside.spots.keys c.put_spots.new.spots.keys c.put_spots.ensures.kept c.self.invariant.1,
)

pub invariant_of-self-in_err-raise : goal.invariant_of-self-in_err-raise
invariant_of-self-in_err-raise c = (
  kept_still c.self.inside.by_place.entries c.self.inside.empty.keys c.mark.new.empty.keys c.self.inside.counts.entries c.raise.new.counts.entries
      c.self.inside.arrived c.self.inside.arrived c.self.invariant.0 c.mark.ensures.kept c.in_err-raise.ensures.err (omega arith),
  kept_all c.self.inside.by_place.entries c.self.inside.spots.keys c.put_spots.new.spots.keys c.put_spots.ensures.kept c.self.invariant.1,
)

pub invariant_of-self-in-Ok : goal.invariant_of-self-in-Ok
invariant_of-self-in-Ok c =
    let p : ActionKey = record { connection = c.args.connection; id = c.args.id; arrival = c.self.inside.arrived } in
    let es = c.self.inside.by_place.entries in
    let next : c.in-Some.arrived ≡ c.self.inside.arrived + 1 = search rules in
    let put : c.insert.new.self.entries ≡ insert_entry place_cmp es p c.args.entries = c.in-Ok.ensures.entries in (
      subst (λ xs. AreKept xs c.mark.new.empty.keys c.raise.new.counts.entries c.in-Some.arrived) (sym put)
          (kept_put p c.args.entries es c.self.inside.empty.keys c.mark.new.empty.keys c.self.inside.counts.entries c.raise.new.counts.entries
          c.self.inside.arrived c.in-Some.arrived c.self.invariant.0 refl next c.requires (subst AreByPlace put c.insert.ensures.ordered)
          c.mark.ensures.kept c.in_ok-mark.ensures.marked c.in_ok-raise.ensures.ok),
      subst (AllSpotted c.put_spots.new.spots.keys) (sym put)
          (all_put (HasSpots c.put_spots.new.spots.keys) p c.args.entries es c.self.invariant.0.came
          (kept_all es c.self.inside.spots.keys c.put_spots.new.spots.keys c.put_spots.ensures.kept c.self.invariant.1) c.in_ok-put_spots.ensures.put),
    )

pub invariant_of-self-in-Err : goal.invariant_of-self-in-Err
invariant_of-self-in-Err c =
    let next : c.in-Some.arrived ≡ c.self.inside.arrived + 1 = search rules in
    let es = c.self.inside.by_place.entries in (
      subst (λ xs. AreKept xs c.mark.new.empty.keys c.lower.new.counts.entries c.in-Some.arrived) (sym c.in-Err.ensures.err)
          (kept_still es c.self.inside.empty.keys c.mark.new.empty.keys c.self.inside.counts.entries c.lower.new.counts.entries
          c.self.inside.arrived c.in-Some.arrived c.self.invariant.0 c.mark.ensures.kept
          (put_back c.args.connection c.self.inside.counts.entries c.raise.new.counts.entries c.lower.new.counts.entries c.in_ok-raise.ensures.ok c.lower.ensures)
          (omega (arith, next))),
      subst (AllSpotted c.put_spots.new.spots.keys) (sym c.in-Err.ensures.err)
          (kept_all es c.self.inside.spots.keys c.put_spots.new.spots.keys c.put_spots.ensures.kept c.self.invariant.1),
    )

pub returns-in-Ok : goal.returns-in-Ok
returns-in-Ok c =
    let p : ActionKey = record { connection = c.args.connection; id = c.args.id; arrival = c.self.inside.arrived } in
    ap deferreds_of c.in-Ok.ensures.entries
    ∙ put_behind p c.args.entries c.self.inside.by_place.entries c.self.invariant.0.order c.self.invariant.0.came
    ∙ ap (λ es. in_place runs_before (deferred_of (p, c.args.entries)) (deferreds_of es)) c.self.view_is
