use Rattle.std.proofs.Common.{◌≡◌, ◌+◌, ◌≤◌, ℕ, cond, true, false, Some, None, refl, ap, sym, subst, ◌∙◌, rules}
use Rattle.std.specs.Prelude.{IfSome}
use Rattle.std.specs.Option.{option_map}
use Rattle.std.specs.BTreeMap.{insert_entry, is_at}
use Rattle.std.specs.Map.{lookup}
use Rattle.rt_chain.specs.Chains.{all_in, half_between, slots_of}
use Rattle.rt_chain.specs.inside.Halves.{IsCut, chain_of}
use Rattle.rt_chain.specs.declared.chain.Half.TheVariants.{Front, Behind}
use Rattle.rt_chain.proofs.Cuts.{same_cut, seen, settled}
use Rattle.rt_chain.proofs.Looks.{absent, there, value_found}
use Rattle.rt_chain.proofs.Nodes.{same_linked}
use Rattle.rt_chain.proofs.Steps.{come_behind, come_front, none_left, on_err, put_side, room_put, set_step}
use Rattle.rt_chain.proofs.chain.Chain.put.Goals as goal

pub invariant_of-self : goal.invariant_of-self
invariant_of-self g c =
    let a = subst (IsCut g.K.Ord.cmp c.self.inside.places.entries c.self.inside.nodes c.self.inside.last c.self.inside.first c.self.inside.count) c.self.view_is c.self.invariant in
    let n : ℕ = c.in-Some.slot in
    let slot : lookup (is_at (g.K.Ord.cmp c.args.key)) c.self.inside.places.entries ≡ Some n = sym c.find.ensures ∙ c.in-Some.is in
    let at = there a (is_at (g.K.Ord.cmp c.args.key)) n slot in
    let step = set_step g.met.K.Ord.total a c.args.key n at.0 at.1 c.args.value c.set_value-old.new.nodes c.set_value-old.ensures.written c.set_value-old.ensures.others c.half_of-half.result c.half_of-half.ensures in
    step.1.0

pub returns-in-Some : goal.returns-in-Some
returns-in-Some g c =
    let a = subst (IsCut g.K.Ord.cmp c.self.inside.places.entries c.self.inside.nodes c.self.inside.last c.self.inside.first c.self.inside.count) c.self.view_is c.self.invariant in
    let n : ℕ = c.in-Some.slot in
    let slot : lookup (is_at (g.K.Ord.cmp c.args.key)) c.self.inside.places.entries ≡ Some n = sym c.find.ensures ∙ c.in-Some.is in
    let at = there a (is_at (g.K.Ord.cmp c.args.key)) n slot in
    let step = set_step g.met.K.Ord.total a c.args.key n at.0 at.1 c.args.value c.set_value-old.new.nodes c.set_value-old.ensures.written c.set_value-old.ensures.others c.half_of-half.result c.half_of-half.ensures in
    let old = c.set_value-old.ensures.old ∙ value_found a (is_at (g.K.Ord.cmp c.args.key)) n at.0 at.1 in
    record {
      puts = step.1.1.puts;
      whole = step.1.1.whole;
      half = sym (step.0.at_cut c.args.at_cut);
      slot = subst (λ o. IfSome o (λ (q : ℕ × g.row.V.Denot). n ≡ q.0)) (sym at.1) refl;
      old = old ∙ sym (ap (option_map (λ (q : ℕ × g.row.V.Denot). q.1)) at.1);
      stood = old ∙ sym (ap (option_map (λ (q : ℕ × g.row.V.Denot). q.1)) step.0.is);
      err = search rules;
      absent = search rules;
    }

pub invariant_of-self-in_err-slot : goal.invariant_of-self-in_err-slot
invariant_of-self-in_err-slot g c =
    let a = subst (IsCut g.K.Ord.cmp c.self.inside.places.entries c.self.inside.nodes c.self.inside.last c.self.inside.first c.self.inside.count) c.self.view_is c.self.invariant in
    let cut = same_cut a c.self.inside.places.entries c.next_slot.new.nodes refl c.next_slot.ensures.same (same_linked c.self.inside.nodes c.next_slot.new.nodes c.next_slot.ensures.same (slots_of (all_in c.args.self.now)) a.all.linked) in
    settled cut

pub returns-in_err-slot-clause-err : goal.returns-in_err-slot-clause-err
returns-in_err-slot-clause-err g c =
    let a = subst (IsCut g.K.Ord.cmp c.self.inside.places.entries c.self.inside.nodes c.self.inside.last c.self.inside.first c.self.inside.count) c.self.view_is c.self.invariant in
    let cut = same_cut a c.self.inside.places.entries c.next_slot.new.nodes refl c.next_slot.ensures.same (same_linked c.self.inside.nodes c.next_slot.new.nodes c.next_slot.ensures.same (slots_of (all_in c.args.self.now)) a.all.linked) in
    on_err (chain_of c.self.inside.places.entries c.next_slot.new.nodes ≡ c.args.self.now) c.from_residual.result (seen cut)

pub returns-in_err-slot-clause-absent : goal.returns-in_err-slot-clause-absent
returns-in_err-slot-clause-absent g c =
    let a = subst (IsCut g.K.Ord.cmp c.self.inside.places.entries c.self.inside.nodes c.self.inside.last c.self.inside.first c.self.inside.count) c.self.view_is c.self.invariant in
    let missed : c.find.result ≡ None = search rules in
    let none : lookup (is_at (g.K.Ord.cmp c.args.key)) (all_in c.args.self.now) ≡ None = absent a (is_at (g.K.Ord.cmp c.args.key)) (sym c.find.ensures ∙ missed) in
    on_err (lookup (is_at (g.K.Ord.cmp c.args.key)) (all_in c.args.self.now) ≡ None) c.from_residual.result none

pub invariant_of-self-in-Err : goal.invariant_of-self-in-Err
invariant_of-self-in-Err g c =
    let a = subst (IsCut g.K.Ord.cmp c.self.inside.places.entries c.self.inside.nodes c.self.inside.last c.self.inside.first c.self.inside.count) c.self.view_is c.self.invariant in
    let same : c.insert.new.self.entries ≡ c.self.inside.places.entries = search rules in
    let cut = same_cut a c.insert.new.self.entries c.next_slot.new.nodes same c.next_slot.ensures.same (same_linked c.self.inside.nodes c.next_slot.new.nodes c.next_slot.ensures.same (slots_of (all_in c.args.self.now)) a.all.linked) in
    settled cut

pub returns-in-Err-clause-err : goal.returns-in-Err-clause-err
returns-in-Err-clause-err g c =
    let a = subst (IsCut g.K.Ord.cmp c.self.inside.places.entries c.self.inside.nodes c.self.inside.last c.self.inside.first c.self.inside.count) c.self.view_is c.self.invariant in
    let same : c.insert.new.self.entries ≡ c.self.inside.places.entries = search rules in
    let cut = same_cut a c.insert.new.self.entries c.next_slot.new.nodes same c.next_slot.ensures.same (same_linked c.self.inside.nodes c.next_slot.new.nodes c.next_slot.ensures.same (slots_of (all_in c.args.self.now)) a.all.linked) in
    seen cut

pub returns-in-Err-clause-absent : goal.returns-in-Err-clause-absent
returns-in-Err-clause-absent g c =
    let a = subst (IsCut g.K.Ord.cmp c.self.inside.places.entries c.self.inside.nodes c.self.inside.last c.self.inside.first c.self.inside.count) c.self.view_is c.self.invariant in
    let missed : c.find.result ≡ None = search rules in
    let none : lookup (is_at (g.K.Ord.cmp c.args.key)) (all_in c.args.self.now) ≡ None = absent a (is_at (g.K.Ord.cmp c.args.key)) (sym c.find.ensures ∙ missed) in
    none

pub overflow_add-self : goal.overflow_add-self
overflow_add-self g c =
    let a = subst (IsCut g.K.Ord.cmp c.self.inside.places.entries c.self.inside.nodes c.self.inside.last c.self.inside.first c.self.inside.count) c.self.view_is c.self.invariant in
    let missed : c.find.result ≡ None = search rules in
    let none : lookup (is_at (g.K.Ord.cmp c.args.key)) (all_in c.args.self.now) ≡ None = absent a (is_at (g.K.Ord.cmp c.args.key)) (sym c.find.ensures ∙ missed) in
    let cut = same_cut a c.self.inside.places.entries c.next_slot.new.nodes refl c.next_slot.ensures.same (same_linked c.self.inside.nodes c.next_slot.new.nodes c.next_slot.ensures.same (slots_of (all_in c.args.self.now)) a.all.linked) in
    let n : ℕ = c.in_ok-slot.slot in
    let more : c.insert.new.self.entries ≡ insert_entry g.K.Ord.cmp c.self.inside.places.entries c.args.key n = search rules in
    let room : c.self.inside.count + 1 ≤ c.len-len.result = subst (λ k. c.self.inside.count + 1 ≤ k) (sym c.len-len.ensures.len) (room_put g.met.K.Ord.total cut c.args.key none n c.args.value c.insert.new.self.entries more) in
    search rules

pub invariant_of-self-in-Front : goal.invariant_of-self-in-Front
invariant_of-self-in-Front g c =
    let a = subst (IsCut g.K.Ord.cmp c.self.inside.places.entries c.self.inside.nodes c.self.inside.last c.self.inside.first c.self.inside.count) c.self.view_is c.self.invariant in
    let missed : c.find.result ≡ None = search rules in
    let none : lookup (is_at (g.K.Ord.cmp c.args.key)) (all_in c.args.self.now) ≡ None = absent a (is_at (g.K.Ord.cmp c.args.key)) (sym c.find.ensures ∙ missed) in
    let cut = same_cut a c.self.inside.places.entries c.next_slot.new.nodes refl c.next_slot.ensures.same (same_linked c.self.inside.nodes c.next_slot.new.nodes c.next_slot.ensures.same (slots_of (all_in c.args.self.now)) a.all.linked) in
    let n : ℕ = c.in_ok-slot.slot in
    let more : c.insert.new.self.entries ≡ insert_entry g.K.Ord.cmp c.self.inside.places.entries c.args.key n = search rules in
    let half = c.half_between-half.ensures ∙ (λ i. half_between (c.is_front-in_front.ensures i) (c.is_behind-behind.ensures i) c.args.at_cut) in
    let side = put_side g.met.K.Ord.total cut c.args.key none c.below-previous.result c.after-next.result c.below-previous.ensures c.after-next.ensures c.args.at_cut Front (sym c.in-Front.is ∙ half) in
    let last = c.either-self-inside.ensures ∙ ap (λ b. cond b c.self.inside.last (Some n)) c.is_front-in_front.ensures in
    let step = come_front g.met.K.Ord.total cut c.args.key none c.below-previous.result c.after-next.result c.below-previous.ensures c.after-next.ensures n true c.args.value c.push.ensures
    c.insert.new.self.entries more c.len-len.ensures.ordered refl side.0 c.either-self-inside.result last (c.self.inside.count + 1) refl in
    step.0

pub returns-in-Front : goal.returns-in-Front
returns-in-Front g c =
    let a = subst (IsCut g.K.Ord.cmp c.self.inside.places.entries c.self.inside.nodes c.self.inside.last c.self.inside.first c.self.inside.count) c.self.view_is c.self.invariant in
    let missed : c.find.result ≡ None = search rules in
    let none : lookup (is_at (g.K.Ord.cmp c.args.key)) (all_in c.args.self.now) ≡ None = absent a (is_at (g.K.Ord.cmp c.args.key)) (sym c.find.ensures ∙ missed) in
    let cut = same_cut a c.self.inside.places.entries c.next_slot.new.nodes refl c.next_slot.ensures.same (same_linked c.self.inside.nodes c.next_slot.new.nodes c.next_slot.ensures.same (slots_of (all_in c.args.self.now)) a.all.linked) in
    let n : ℕ = c.in_ok-slot.slot in
    let more : c.insert.new.self.entries ≡ insert_entry g.K.Ord.cmp c.self.inside.places.entries c.args.key n = search rules in
    let half = c.half_between-half.ensures ∙ (λ i. half_between (c.is_front-in_front.ensures i) (c.is_behind-behind.ensures i) c.args.at_cut) in
    let side = put_side g.met.K.Ord.total cut c.args.key none c.below-previous.result c.after-next.result c.below-previous.ensures c.after-next.ensures c.args.at_cut Front (sym c.in-Front.is ∙ half) in
    let last = c.either-self-inside.ensures ∙ ap (λ b. cond b c.self.inside.last (Some n)) c.is_front-in_front.ensures in
    let step = come_front g.met.K.Ord.total cut c.args.key none c.below-previous.result c.after-next.result c.below-previous.ensures c.after-next.ensures n true c.args.value c.push.ensures
    c.insert.new.self.entries more c.len-len.ensures.ordered refl side.0 c.either-self-inside.result last (c.self.inside.count + 1) refl in
    record {
      puts = step.1.puts;
      whole = step.1.whole;
      half = side.1;
      slot = subst (λ o. IfSome o (λ (q : ℕ × g.row.V.Denot). n ≡ q.0)) (sym none) tt;
      old = sym (ap (option_map (λ (q : ℕ × g.row.V.Denot). q.1)) none);
      stood = sym (ap (option_map (λ (q : ℕ × g.row.V.Denot). q.1)) (none_left (is_at (g.K.Ord.cmp c.args.key)) c.args.self.now.front c.args.self.now.behind none).0);
      err = search rules;
      absent = search rules;
    }

pub invariant_of-self-in-Behind : goal.invariant_of-self-in-Behind
invariant_of-self-in-Behind g c =
    let a = subst (IsCut g.K.Ord.cmp c.self.inside.places.entries c.self.inside.nodes c.self.inside.last c.self.inside.first c.self.inside.count) c.self.view_is c.self.invariant in
    let missed : c.find.result ≡ None = search rules in
    let none : lookup (is_at (g.K.Ord.cmp c.args.key)) (all_in c.args.self.now) ≡ None = absent a (is_at (g.K.Ord.cmp c.args.key)) (sym c.find.ensures ∙ missed) in
    let cut = same_cut a c.self.inside.places.entries c.next_slot.new.nodes refl c.next_slot.ensures.same (same_linked c.self.inside.nodes c.next_slot.new.nodes c.next_slot.ensures.same (slots_of (all_in c.args.self.now)) a.all.linked) in
    let n : ℕ = c.in_ok-slot.slot in
    let more : c.insert.new.self.entries ≡ insert_entry g.K.Ord.cmp c.self.inside.places.entries c.args.key n = search rules in
    let half = c.half_between-half.ensures ∙ (λ i. half_between (c.is_front-in_front.ensures i) (c.is_behind-behind.ensures i) c.args.at_cut) in
    let side = put_side g.met.K.Ord.total cut c.args.key none c.below-previous.result c.after-next.result c.below-previous.ensures c.after-next.ensures c.args.at_cut Behind (sym c.in-Behind.is ∙ half) in
    let first = c.either-self-inside-in-Behind.ensures ∙ ap (λ b. cond b c.self.inside.first (Some n)) c.is_behind-behind.ensures in
    let step = come_behind g.met.K.Ord.total cut c.args.key none c.below-previous.result c.after-next.result c.below-previous.ensures c.after-next.ensures n false c.args.value c.push-in-Behind.ensures
    c.insert.new.self.entries more c.len-len.ensures.ordered refl side.0 c.either-self-inside-in-Behind.result first in
    step.0

pub returns-in-Behind : goal.returns-in-Behind
returns-in-Behind g c =
    let a = subst (IsCut g.K.Ord.cmp c.self.inside.places.entries c.self.inside.nodes c.self.inside.last c.self.inside.first c.self.inside.count) c.self.view_is c.self.invariant in
    let missed : c.find.result ≡ None = search rules in
    let none : lookup (is_at (g.K.Ord.cmp c.args.key)) (all_in c.args.self.now) ≡ None = absent a (is_at (g.K.Ord.cmp c.args.key)) (sym c.find.ensures ∙ missed) in
    let cut = same_cut a c.self.inside.places.entries c.next_slot.new.nodes refl c.next_slot.ensures.same (same_linked c.self.inside.nodes c.next_slot.new.nodes c.next_slot.ensures.same (slots_of (all_in c.args.self.now)) a.all.linked) in
    let n : ℕ = c.in_ok-slot.slot in
    let more : c.insert.new.self.entries ≡ insert_entry g.K.Ord.cmp c.self.inside.places.entries c.args.key n = search rules in
    let half = c.half_between-half.ensures ∙ (λ i. half_between (c.is_front-in_front.ensures i) (c.is_behind-behind.ensures i) c.args.at_cut) in
    let side = put_side g.met.K.Ord.total cut c.args.key none c.below-previous.result c.after-next.result c.below-previous.ensures c.after-next.ensures c.args.at_cut Behind (sym c.in-Behind.is ∙ half) in
    let first = c.either-self-inside-in-Behind.ensures ∙ ap (λ b. cond b c.self.inside.first (Some n)) c.is_behind-behind.ensures in
    let step = come_behind g.met.K.Ord.total cut c.args.key none c.below-previous.result c.after-next.result c.below-previous.ensures c.after-next.ensures n false c.args.value c.push-in-Behind.ensures
    c.insert.new.self.entries more c.len-len.ensures.ordered refl side.0 c.either-self-inside-in-Behind.result first in
    record {
      puts = step.1.puts;
      whole = step.1.whole;
      half = side.1;
      slot = subst (λ o. IfSome o (λ (q : ℕ × g.row.V.Denot). n ≡ q.0)) (sym none) tt;
      old = sym (ap (option_map (λ (q : ℕ × g.row.V.Denot). q.1)) none);
      stood = sym (ap (option_map (λ (q : ℕ × g.row.V.Denot). q.1)) (none_left (is_at (g.K.Ord.cmp c.args.key)) c.args.self.now.front c.args.self.now.behind none).1);
      err = search rules;
      absent = search rules;
    }
