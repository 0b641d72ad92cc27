use Rattle.std.proofs.Common.{[], ap, sym, subst, ◌∙◌}
use Rattle.std.specs.Map.{lookup, remove_entry}
use Rattle.std.specs.BTreeMap.{is_at as key_is}
use Rattle.rt_peer.specs.inside.EntrySpots.{AllSpotted}
use Rattle.rt_peer.specs.inside.Placed.{place_cmp, AreByPlace, AreKept}
use Rattle.rt_peer.proofs.EntrySpotLaws.{spotted_taken}
use Rattle.rt_peer.proofs.KeptLaws.{kept_taken, shallow_at}
use Rattle.rt_peer.proofs.actions.Placed.take.Goals as goal

pub invariant_of-self : goal.invariant_of-self
invariant_of-self c =
    let p = c.args.place in
    let es = c.self.inside.by_place.entries in (
      subst (λ xs. AreKept xs c.remove-in-Some.new.self.keys c.lower.new.counts.entries c.self.inside.arrived) (sym c.remove.ensures.entries)
          (kept_taken p c.in-Some.entries es c.self.inside.empty.keys c.remove-in-Some.new.self.keys
          c.self.inside.counts.entries c.lower.new.counts.entries c.self.inside.arrived c.self.invariant.0 c.in-Some.ensures.value
          (subst AreByPlace c.remove.ensures.entries c.remove.ensures.ordered) c.remove-in-Some.ensures.updates.0 c.lower.ensures),
      subst (AllSpotted c.take_spots.new.spots.keys) (sym c.remove.ensures.entries)
          (spotted_taken p [] c.self.inside.spots.keys c.take_spots.new.spots.keys es c.self.invariant.0.order c.take_spots.ensures c.self.invariant.1),
    )

pub returns-in-Some-clause-entries : goal.returns-in-Some-clause-entries
returns-in-Some-clause-entries c =
    c.in-Some.ensures.value ∙ ap (lookup (key_is (place_cmp c.args.place))) c.self.view_is

pub returns-in-Some-clause-left : goal.returns-in-Some-clause-left
returns-in-Some-clause-left c =
    c.remove.ensures.entries ∙ ap (remove_entry (key_is (place_cmp c.args.place))) c.self.view_is

pub returns-in-Some-clause-shallow : goal.returns-in-Some-clause-shallow
returns-in-Some-clause-shallow c =
    shallow_at c.args.place c.in-Some.entries c.self.inside.by_place.entries c.self.invariant.0.shallow c.in-Some.ensures.value

pub returns-in-None-clause-entries : goal.returns-in-None-clause-entries
returns-in-None-clause-entries c =
    c.in-None.ensures.value ∙ ap (lookup (key_is (place_cmp c.args.place))) c.self.view_is

pub returns-in-None-clause-left : goal.returns-in-None-clause-left
returns-in-None-clause-left c =
    c.remove.ensures.entries ∙ ap (remove_entry (key_is (place_cmp c.args.place))) c.self.view_is
