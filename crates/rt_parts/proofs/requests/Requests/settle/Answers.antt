use Rattle.std.proofs.Common.{◌≡◌, ◌==◌, None, ap, ◌∙◌, rules, not}
use Rattle.std.specs.List.{filter, find}
use Rattle.std.specs.Map.{values_of}
use Rattle.rt_writes.specs.Writes.{entries_of, without}
use Rattle.rt_world.specs.declared.step.Request.{Request}
use Rattle.rt_parts.proofs.Pendings.{none_pending}
use Rattle.rt_parts.proofs.RequestLaws.{found_is, tied_without, values_left}
use Rattle.rt_parts.proofs.requests.Requests.settle.Goals as goal

pub returns-in_err-entries-clause-absent : goal.returns-in_err-entries-clause-absent
returns-in_err-entries-clause-absent c = λ none.
    let gone : entries_of c.args.id c.self.inside.pending ≡ None = ap (entries_of c.args.id) c.self.invariant.written ∙ none_pending c.args.id (values_of c.self.inside.items.entries) (ap (find (λ (r : Request). r.id == c.args.id)) c.self.view_is ∙ none) in
    search rules

pub invariant_of-self-in_default : goal.invariant_of-self-in_default
invariant_of-self-in_default c =
    let rest : c.take.new.self ≡ without c.args.id c.self.inside.pending = search rules in
    tied_without c.args.id c.self.inside.items.entries c.self.inside.pending c.self.invariant c.pending_law.ensures.settled _ c.remove.ensures.entries _ rest

pub returns-in_default-clause-settled : goal.returns-in_default-clause-settled
returns-in_default-clause-settled c =
    let found : c.remove.result ≡ find (λ (r : Request). r.id == c.args.id) c.args.self.now =
    c.remove.ensures.value ∙ found_is c.args.id c.self.inside.items.entries c.self.inside.pending c.self.invariant ∙ ap (find (λ (r : Request). r.id == c.args.id)) c.self.view_is in
    search rules

pub returns-in_default-clause-left : goal.returns-in_default-clause-left
returns-in_default-clause-left c =
    values_left c.args.id c.self.inside.items.entries c.self.inside.pending c.self.invariant _ c.remove.ensures.entries
    ∙ ap (filter (λ (r : Request). not (r.id == c.args.id))) c.self.view_is

pub invariant_of-self-2 : goal.invariant_of-self-2
invariant_of-self-2 c =
    let rest : c.take.new.self ≡ without c.args.id c.self.inside.pending = search rules in
    tied_without c.args.id c.self.inside.items.entries c.self.inside.pending c.self.invariant c.pending_law.ensures.settled _ c.remove.ensures.entries _ rest

pub returns-clause-settled : goal.returns-clause-settled
returns-clause-settled c =
    let found : c.remove.result ≡ find (λ (r : Request). r.id == c.args.id) c.args.self.now =
    c.remove.ensures.value ∙ found_is c.args.id c.self.inside.items.entries c.self.inside.pending c.self.invariant ∙ ap (find (λ (r : Request). r.id == c.args.id)) c.self.view_is in
    search rules

pub returns-clause-left : goal.returns-clause-left
returns-clause-left c =
    values_left c.args.id c.self.inside.items.entries c.self.inside.pending c.self.invariant _ c.remove.ensures.entries
    ∙ ap (filter (λ (r : Request). not (r.id == c.args.id))) c.self.view_is
