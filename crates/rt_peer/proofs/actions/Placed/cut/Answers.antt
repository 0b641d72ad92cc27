use Rattle.std.proofs.Common.{◌≡◌, Some, None, false, is_some, ap, sym, subst, ◌∙◌, not, rules}
use Rattle.std.specs.List.{All}
use Rattle.std.specs.BTreeMap.{insert_entry, is_at as key_is}
use Rattle.std.specs.Map.{lookup}
use Rattle.std.proofs.lemmas.List.Elements.{All-filter}
use Rattle.rt_tree.specs.Assignments.{is_at_or_above}
use Rattle.rt_writes.specs.Writes.{IsShallow}
use Rattle.rt_peer.specs.Calls.{is_empty}
use Rattle.rt_peer.specs.inside.EntrySpots.{AllSpotted}
use Rattle.rt_peer.specs.inside.Placed.{apart, cut_at, place_cmp, AreByPlace, AreKept}
use Rattle.rt_peer.proofs.EntrySpotLaws.{spotted_cut}
use Rattle.rt_peer.proofs.CutLaws.{cut_gone, cut_left, cut_none}
use Rattle.rt_peer.proofs.KeptLaws.{kept_left, shallow_at}
use Rattle.rt_peer.proofs.actions.Placed.cut.Goals as goal

pub returns-clause-order : goal.returns-clause-order
returns-clause-order c = subst AreByPlace c.self.view_is c.self.invariant.0.order

pub returns-then-is_bare-clause-cut : goal.returns-then-is_bare-clause-cut
returns-then-is_bare-clause-cut c =
    let p = c.args.place in
    let q = c.args.path.now in
    let v = c.in-Some.entries.now in
    let there : Some v ≡ lookup (key_is (place_cmp p)) c.self.inside.by_place.entries = search rules in
    c.take.ensures.left
    ∙ cut_gone p q v c.args.self.now (there ∙ ap (lookup (key_is (place_cmp p))) c.self.view_is)
    (ap is_empty (sym c.in_ok-left-in-Some.ensures) ∙ sym c.is_bare.ensures ∙ c.if-is_bare.true)

pub invariant_of-self : goal.invariant_of-self
invariant_of-self c =
    let p = c.args.place in
    let q = c.args.path.now in
    let v = c.in-Some.entries.now in
    let es = c.self.inside.by_place.entries in
    let k = c.self.invariant.0 in
    let there : Some v ≡ lookup (key_is (place_cmp p)) es = search rules in
    let some : is_empty (apart q v) ≡ false = ap is_empty (sym c.in_ok-left-in-Some.ensures) ∙ sym c.is_bare.ensures ∙ c.if-is_bare.false in
    let shallow : All IsShallow c.in_ok-left-in-Some.left = subst (All IsShallow) (sym c.in_ok-left-in-Some.ensures)
    (All-filter (λ a. not (is_at_or_above q a.0)) IsShallow v (shallow_at p v es k.shallow there)) in
    let put : c.insert.new.self.entries ≡ insert_entry place_cmp es p c.in_ok-left-in-Some.left = c.in-Ok-Some.ensures.entries in
    let left : c.insert.new.self.entries ≡ cut_at p q es = put ∙ ap (insert_entry place_cmp es p) c.in_ok-left-in-Some.ensures ∙ cut_left p q v es k.order there some in (
      subst (λ xs. AreKept xs c.self.inside.empty.keys c.self.inside.counts.entries c.self.inside.arrived) (sym put)
          (kept_left p c.in_ok-left-in-Some.left es c.self.inside.empty.keys c.self.inside.counts.entries c.self.inside.arrived k shallow
          (sym c.is_bare.ensures ∙ c.if-is_bare.false) (ap is_some (sym there)) (subst AreByPlace put c.insert.ensures.ordered)),
      subst (AllSpotted c.take_spots_under.new.spots.keys) (sym left)
          (spotted_cut p q c.self.inside.spots.keys c.take_spots_under.new.spots.keys es k.order c.take_spots_under.ensures c.self.invariant.1),
    )

pub returns-in-Ok-Some-clause-cut : goal.returns-in-Ok-Some-clause-cut
returns-in-Ok-Some-clause-cut c =
    let p = c.args.place in
    let q = c.args.path.now in
    let v = c.in-Some.entries.now in
    let es = c.self.inside.by_place.entries in
    let there : Some v ≡ lookup (key_is (place_cmp p)) es = search rules in
    c.in-Ok-Some.ensures.entries ∙ ap (insert_entry place_cmp es p) c.in_ok-left-in-Some.ensures
    ∙ cut_left p q v es c.self.invariant.0.order there (ap is_empty (sym c.in_ok-left-in-Some.ensures) ∙ sym c.is_bare.ensures ∙ c.if-is_bare.false)
    ∙ ap (cut_at p q) c.self.view_is

pub returns-clause-cut : goal.returns-clause-cut
returns-clause-cut c =
    let none : None ≡ lookup (key_is (place_cmp c.args.place)) c.self.inside.by_place.entries = search rules in
    cut_none c.args.place c.args.path.now c.args.self.now (none ∙ ap (lookup (key_is (place_cmp c.args.place))) c.self.view_is)
