use Rattle.std.proofs.Common.{rules, ◌≡◌, ◌++◌, [], Some, None, subst, sym, ap, ◌∙◌, append-nil, OnOk}
use Rattle.std.proofs.lemmas.Result.{on_ok_weaker}
use Rattle.slab.specs.Slab.{get}
use Rattle.rt_nodes.specs.Forest.{row_at}
use Rattle.rt_nodes.proofs.Near.{told}
use Rattle.rt_forms.specs.Forms.{Forms}
use Rattle.rt_forms.specs.inside.FormsView.{all_under}
use Rattle.rt_forms.specs.inside.Trees.{all_own, all_in}
use Rattle.rt_forms.proofs.ViewLaws.{no_path}
use Rattle.rt_forms.proofs.GatherLaws.{under_none, under_lost, under_some, node_place, first_place}
use Rattle.rt_forms.proofs.forms.Forms.gather_under.Goals as goal

pub descend-requires-clause-told : goal.descend-requires-clause-told
descend-requires-clause-told c = told c.self.inside.nodes c.self.inside.first c.self.invariant.row c.self.invariant.once

pub gather_at-requires : goal.gather_at-requires
gather_at-requires c =
    let a : Forms = record { top = c.self.inside.top; nodes = c.self.inside.nodes; first = c.self.inside.first } in
    first_place a c.self.invariant

pub gather_at-requires-in-Some-get : goal.gather_at-requires-in-Some-get
gather_at-requires-in-Some-get c =
    let a : Forms = record { top = c.self.inside.top; nodes = c.self.inside.nodes; first = c.self.inside.first } in
    let there : get c.self.inside.nodes c.in-Some-descend.index ≡ Some c.in-Some-get.slot.now = search rules in
    node_place a c.self.invariant c.in-Some-descend.index c.in-Some-get.slot.now there

pub returns-in_default : goal.returns-in_default
returns-in_default c =
    let a : Forms = record { top = c.self.inside.top; nodes = c.self.inside.nodes; first = c.self.inside.first } in
    let old = c.args.numbers.now.items in
    let short : c.args.path.now ≡ [] = no_path c.args.path.now c.in_default.ensures.cases in
    subst (λ (x : Forms). OnOk c.gather_at.result (c.gather_at.new.numbers.items ≡ old ++ all_under x c.args.path.now)) c.self.view_is
    (subst (λ p. OnOk c.gather_at.result (c.gather_at.new.numbers.items ≡ old ++ all_under a p)) (sym short) c.gather_at.ensures)

pub returns-in_default-descend : goal.returns-in_default-descend
returns-in_default-descend c =
    let a : Forms = record { top = c.self.inside.top; nodes = c.self.inside.nodes; first = c.self.inside.first } in
    let old = c.args.numbers.now.items in
    let goes = c.in-Some.ensures.cases.0 in
    sym (append-nil old) ∙ ap (λ ns. old ++ ns)
    (subst (λ (x : Forms). [] ≡ all_under x c.args.path.now) c.self.view_is
    (subst (λ p. [] ≡ all_under a p) (sym goes)
    (under_none a c.self.invariant c.in-Some.key.now c.in-Some.rest.now (sym c.descend.ensures ∙ c.in_default-descend.is))))

pub returns-in-None : goal.returns-in-None
returns-in-None c =
    let a : Forms = record { top = c.self.inside.top; nodes = c.self.inside.nodes; first = c.self.inside.first } in
    let old = c.args.numbers.now.items in
    let goes = c.in-Some.ensures.cases.0 in
    let none : get c.self.inside.nodes c.in-Some-descend.index ≡ None = search rules in
    sym (append-nil old) ∙ ap (λ ns. old ++ ns)
    (subst (λ (x : Forms). [] ≡ all_under x c.args.path.now) c.self.view_is
    (subst (λ p. [] ≡ all_under a p) (sym goes)
    (under_lost a c.self.invariant c.in-Some.key.now c.in-Some.rest.now c.in-Some-descend.index (sym c.descend.ensures ∙ c.in-Some-descend.is) none)))

pub returns-in-Some-get : goal.returns-in-Some-get
returns-in-Some-get c =
    let a : Forms = record { top = c.self.inside.top; nodes = c.self.inside.nodes; first = c.self.inside.first } in
    let old = c.args.numbers.now.items in
    let goes = c.in-Some.ensures.cases.0 in
    let there : get c.self.inside.nodes c.in-Some-descend.index ≡ Some c.in-Some-get.slot.now = search rules in
    let all : all_own c.in-Some-get.slot.now.value ++ all_in (row_at c.self.inside.nodes c.in-Some-get.slot.now.first_child) ≡ all_under c.args.self.now c.args.path.now =
    subst (λ (x : Forms). all_own c.in-Some-get.slot.now.value ++ all_in (row_at c.self.inside.nodes c.in-Some-get.slot.now.first_child) ≡ all_under x c.args.path.now) c.self.view_is
    (subst (λ p. all_own c.in-Some-get.slot.now.value ++ all_in (row_at c.self.inside.nodes c.in-Some-get.slot.now.first_child) ≡ all_under a p) (sym goes)
    (under_some a c.self.invariant c.in-Some.key.now c.in-Some.rest.now c.in-Some-descend.index c.in-Some-get.slot.now (sym c.descend.ensures ∙ c.in-Some-descend.is) there)) in
    on_ok_weaker c.gather_at-in-Some-get.result (λ is. is ∙ ap (λ ns. old ++ ns) all) c.gather_at-in-Some-get.ensures
