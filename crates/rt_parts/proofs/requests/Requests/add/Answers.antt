use Rattle.std.proofs.Common.{◌≡◌, ◌<◌, ◌++◌, ◌∷◌, [], Some, subst, sym, ap, ◌∙◌, rules}
use Rattle.std.specs.List.{All}
use Rattle.std.specs.Map.{values_of}
use Rattle.rt_writes.specs.Writes.{Write}
use Rattle.rt_world.specs.declared.step.Request.{Request}
use Rattle.rt_parts.proofs.Pendings.{writes_below, pending_with}
use Rattle.rt_parts.proofs.RequestLaws.{keys_below, rises_with, tied_by, with_last}
use Rattle.rt_parts.specs.inside.Writes.{entries_asked}
use Rattle.rt_parts.proofs.requests.Requests.add.Goals as goal

pub push-requires : goal.push-requires
push-requires c = record {
  above = keys_below c.args.id c.self.inside.items.entries c.self.inside.pending c.self.invariant (subst (All (λ (r : Request). r.id < c.args.id)) (sym c.self.view_is) c.requires.above);
}

pub add_apart-requires-clause-above : goal.add_apart-requires-clause-above
add_apart-requires-clause-above c =
    subst (λ ws. All (λ (w : Write). w.id < c.args.id) ws) (sym c.self.invariant.written) (writes_below c.args.id (values_of c.self.inside.items.entries) (subst (λ rs. All (λ (r : Request). r.id < c.args.id) rs) (sym c.self.view_is) c.requires.above))

pub invariant_of-self-in-Ok : goal.invariant_of-self-in-Ok
invariant_of-self-in-Ok c =
    let rs = values_of c.self.inside.items.entries in
    let new : Request = record { id = c.args.id; seat = Some c.args.seat; asked = c.args.asked } in
    let set : entries_asked c.args.asked ≡ Some c.in-Some.entries = search rules in
    let added : c.add_apart.new.self ≡ c.self.inside.pending ++ record { id = c.args.id; entries = c.in-Some.entries } ∷ [] = search rules in
    tied_by (rs ++ new ∷ []) c.push.new.requests.entries c.add_apart.new.self
    (c.in_ok-push.ensures.added ∙ with_last c.self.inside.items.entries c.self.inside.pending new c.self.invariant)
    (rises_with rs new c.self.invariant.rise (subst (λ xs. All (λ (r : Request). r.id < c.args.id) xs) (sym c.self.view_is) c.requires.above))
    (added ∙ ap (λ ws. ws ++ record { id = c.args.id; entries = c.in-Some.entries } ∷ []) c.self.invariant.written
    ∙ sym (pending_with rs c.args.id (Some c.args.seat) c.args.asked c.in-Some.entries set))
