use Rattle.std.proofs.Common.{rules, ◌≡◌, [], Some, None, subst, sym, ap, ◌∙◌}
use Rattle.slab.specs.Slab.{get}
use Rattle.rt_nodes.specs.Forest.{row_at}
use Rattle.rt_nodes.proofs.Near.{told}
use Rattle.rt_forms.specs.Forms.{Forms}
use Rattle.rt_forms.specs.inside.Trees.{AreAt, own, seen}
use Rattle.rt_forms.proofs.FilteredLaws.{standing_at}
use Rattle.rt_forms.proofs.ViewLaws.{no_path, found_none, found_lost, found_some}
use Rattle.rt_forms.proofs.forms.Forms.standing.Goals as goal

pub descend-requires-clause-told : goal.descend-requires-clause-told
descend-requires-clause-told c = told c.self.inside.nodes c.self.inside.first c.self.invariant.row c.self.invariant.once

pub returns-in_default-clause-numbers : goal.returns-in_default-clause-numbers
returns-in_default-clause-numbers c q =
    let a : Forms = record { top = c.self.inside.top; nodes = c.self.inside.nodes; first = c.self.inside.first } in
    let short : c.args.path.now ≡ [] = no_path c.args.path.now c.in_default.ensures.cases in
    subst (λ (x : Forms). own q a.top ≡ seen q c.args.path.now x.top (row_at x.nodes x.first)) c.self.view_is
    (ap (λ p. seen q p a.top (row_at a.nodes a.first)) (sym short))

pub returns-in_default-descend-clause-numbers : goal.returns-in_default-descend-clause-numbers
returns-in_default-descend-clause-numbers c q =
    let a : Forms = record { top = c.self.inside.top; nodes = c.self.inside.nodes; first = c.self.inside.first } in
    subst (λ (x : Forms). [] ≡ seen q c.args.path.now x.top (row_at x.nodes x.first)) c.self.view_is
    (subst (λ p. [] ≡ seen q p a.top (row_at a.nodes a.first)) (sym c.in-Some.ensures.cases.0)
    (found_none a c.self.invariant q c.in-Some.key.now c.in-Some.rest.now (sym c.descend.ensures ∙ c.in_default-descend.is)))

pub returns-in-Some-get-clause-numbers : goal.returns-in-Some-get-clause-numbers
returns-in-Some-get-clause-numbers c q =
    let a : Forms = record { top = c.self.inside.top; nodes = c.self.inside.nodes; first = c.self.inside.first } in
    let there : get c.self.inside.nodes c.in-Some-descend.index ≡ Some c.in-Some-get.slot.now = search rules in
    subst (λ (x : Forms). own q (c.in-Some-get.slot.now).value ≡ seen q c.args.path.now x.top (row_at x.nodes x.first)) c.self.view_is
    (subst (λ p. own q (c.in-Some-get.slot.now).value ≡ seen q p a.top (row_at a.nodes a.first)) (sym c.in-Some.ensures.cases.0)
    (found_some a c.self.invariant q c.in-Some.key.now c.in-Some.rest.now c.in-Some-descend.index c.in-Some-get.slot.now (sym c.descend.ensures ∙ c.in-Some-descend.is) there))

pub returns-in-None-clause-numbers : goal.returns-in-None-clause-numbers
returns-in-None-clause-numbers c q =
    let a : Forms = record { top = c.self.inside.top; nodes = c.self.inside.nodes; first = c.self.inside.first } in
    let none : get c.self.inside.nodes c.in-Some-descend.index ≡ None = search rules in
    subst (λ (x : Forms). [] ≡ seen q c.args.path.now x.top (row_at x.nodes x.first)) c.self.view_is
    (subst (λ p. [] ≡ seen q p a.top (row_at a.nodes a.first)) (sym c.in-Some.ensures.cases.0)
    (found_lost a c.self.invariant q c.in-Some.key.now c.in-Some.rest.now c.in-Some-descend.index (sym c.descend.ensures ∙ c.in-Some-descend.is) none))

pub returns-in_default-clause-at : goal.returns-in_default-clause-at
returns-in_default-clause-at c =
    let a : Forms = record { top = c.self.inside.top; nodes = c.self.inside.nodes; first = c.self.inside.first } in
    let short : c.args.path.now ≡ [] = no_path c.args.path.now c.in_default.ensures.cases in
    subst (λ p. AreAt p a.top.filtered) (sym short) c.self.invariant.top.at

pub returns-in-Some-get-clause-at : goal.returns-in-Some-get-clause-at
returns-in-Some-get-clause-at c =
    let there : get c.self.inside.nodes c.in-Some-descend.index ≡ Some c.in-Some-get.slot.now = search rules in
    subst (λ p. AreAt p (c.in-Some-get.slot.now).value.filtered) (sym c.in-Some.ensures.cases.0)
    (standing_at c.self.inside.nodes c.in-Some.rest.now [] c.self.inside.first None None (row_at c.self.inside.nodes c.self.inside.first) c.in-Some.key.now
    c.self.invariant.row c.self.invariant.good c.in-Some-descend.index c.in-Some-get.slot.now (sym c.descend.ensures ∙ c.in-Some-descend.is) there)
