use Rattle.std.proofs.Common.{rules, ◌≡◌, ◌==◌, [], ◌∷◌, cond, refl, subst, sym, ap, ◌∙◌}
use Rattle.std.specs.List.{list_any}
use Rattle.rt_nodes.proofs.Near.{told}
use Rattle.rt_forms.specs.Numbers.{with_number}
use Rattle.rt_forms.specs.Forms.{Forms, numbers, share_form, IsAsBefore}
use Rattle.rt_forms.specs.inside.FormsView.{IsForms}
use Rattle.rt_forms.specs.inside.Trees.{Standing}
use Rattle.rt_forms.proofs.ViewLaws.{forms_same, seen_same, free_in, part_is, part_numbers, top_numbers, no_path}
use Rattle.rt_forms.proofs.forms.Forms.add.Goals as goal

pub add_row-requires-clause-told : goal.add_row-requires-clause-told
add_row-requires-clause-told c = told c.self.inside.nodes c.self.inside.first c.self.invariant.row c.self.invariant.once

pub add_row-requires-clause-free : goal.add_row-requires-clause-free
add_row-requires-clause-free c =
    let a : Forms = record { top = c.self.inside.top; nodes = c.self.inside.nodes; first = c.self.inside.first } in
    let goes : c.args.query.now.path ≡ c.in-Some.key.now ∷ c.in-Some.rest.now = search rules in
    free_in a c.self.invariant c.args.query.now c.in-Some.key.now c.in-Some.rest.now goes c.args.number
    (ap (λ (x : Forms). list_any (λ m. m == c.args.number) (numbers x c.args.query.now)) c.self.view_is ∙ c.requires.free)

pub invariant_of-self-in_err-first-in-Some : goal.invariant_of-self-in_err-first-in-Some
invariant_of-self-in_err-first-in-Some c =
    let a : Forms = record { top = c.self.inside.top; nodes = c.self.inside.nodes; first = c.self.inside.first } in
    let b : Forms = record { top = c.self.inside.top; nodes = c.add_row.new.nodes; first = c.self.inside.first } in
    forms_same a b c.self.invariant c.in_err-first-in-Some.ensures.err refl refl

pub returns-in_err-first-in-Some-clause-unchanged : goal.returns-in_err-first-in-Some-clause-unchanged
returns-in_err-first-in-Some-clause-unchanged c =
    let a : Forms = record { top = c.self.inside.top; nodes = c.self.inside.nodes; first = c.self.inside.first } in
    let b : Forms = record { top = c.self.inside.top; nodes = c.add_row.new.nodes; first = c.self.inside.first } in
    let before : IsAsBefore c.args.self.now b = subst (λ (x : Forms). IsAsBefore x b) c.self.view_is (seen_same a b c.in_err-first-in-Some.ensures.err refl refl) in
    search (rules, before)

pub invariant_of-self-in-Some : goal.invariant_of-self-in-Some
invariant_of-self-in-Some c =
    let a : Forms = record { top = c.self.inside.top; nodes = c.self.inside.nodes; first = c.self.inside.first } in
    let goes : c.args.query.now.path ≡ c.in-Some.key.now ∷ c.in-Some.rest.now = search rules in
    subst (λ (x : Standing). IsForms (record { top = x; nodes = c.add_row.new.nodes; first = c.in_ok-first-in-Some.first })) (sym c.pass.ensures)
    (part_is a c.self.invariant c.args.query.now c.in-Some.key.now c.in-Some.rest.now goes c.add_row.new.nodes c.in_ok-first-in-Some.first c.args.number c.in_ok-first-in-Some.ensures.ok)

pub returns-in_ok-add-in-None-clause-numbers : goal.returns-in_ok-add-in-None-clause-numbers
returns-in_ok-add-in-None-clause-numbers c other =
    let a : Forms = record { top = c.self.inside.top; nodes = c.self.inside.nodes; first = c.self.inside.first } in
    let short : c.args.query.now.path ≡ [] = sym c.path.ensures ∙ sym c.keys.ensures.keys ∙ no_path c.keys.result.now c.in-None.ensures.cases in
    subst (λ (x : Forms). numbers (record { top = c.add.new.self; nodes = c.self.inside.nodes; first = c.self.inside.first }) other
    ≡ cond (share_form other c.args.query.now) (with_number c.args.number (numbers x other)) (numbers x other)) c.self.view_is
    (top_numbers a c.self.invariant c.args.query.now c.args.number c.add.new.self short c.in_ok-add-in-None.ensures.ok other)

pub returns-in_ok-first-in-Some-clause-numbers : goal.returns-in_ok-first-in-Some-clause-numbers
returns-in_ok-first-in-Some-clause-numbers c other =
    let a : Forms = record { top = c.self.inside.top; nodes = c.self.inside.nodes; first = c.self.inside.first } in
    let goes : c.args.query.now.path ≡ c.in-Some.key.now ∷ c.in-Some.rest.now = search rules in
    subst (λ (x : Forms). numbers (record { top = c.pass.new.self; nodes = c.add_row.new.nodes; first = c.in_ok-first-in-Some.first }) other
    ≡ cond (share_form other c.args.query.now) (with_number c.args.number (numbers x other)) (numbers x other)) c.self.view_is
    (subst (λ (x : Standing). numbers (record { top = x; nodes = c.add_row.new.nodes; first = c.in_ok-first-in-Some.first }) other
    ≡ cond (share_form other c.args.query.now) (with_number c.args.number (numbers a other)) (numbers a other)) (sym c.pass.ensures)
    (part_numbers a c.self.invariant c.args.query.now c.in-Some.key.now c.in-Some.rest.now goes c.add_row.new.nodes c.in_ok-first-in-Some.first c.args.number c.in_ok-first-in-Some.ensures.ok other))
