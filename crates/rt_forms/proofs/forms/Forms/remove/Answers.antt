use Rattle.std.proofs.Common.{rules, ◌≡◌, ◌==◌, [], ◌∷◌, cond, subst, sym, ap, ◌∙◌, arith}
use Rattle.std.specs.List.{list_any}
use Rattle.rt_nodes.proofs.Near.{told}
use Rattle.rt_forms.specs.Numbers.{without_number}
use Rattle.rt_forms.specs.Forms.{Forms, numbers, share_form}
use Rattle.rt_forms.specs.inside.Trees.{Standing}
use Rattle.rt_forms.proofs.ViewLaws.{no_path}
use Rattle.rt_forms.proofs.EndLaws.{end_in, end_some, part_ends, part_left, top_there, top_some, top_ends, top_left, top_fewer}
use Rattle.rt_forms.proofs.forms.Forms.remove.Goals as goal

pub remove-requires-clause-there : goal.remove-requires-clause-there
remove-requires-clause-there c =
    let a : Forms = record { top = c.self.inside.top; nodes = c.self.inside.nodes; first = c.self.inside.first } in
    let short : c.args.query.now.path ≡ [] = sym c.path.ensures ∙ sym c.keys.ensures.keys ∙ no_path c.keys.result.now c.in-None.ensures.cases in
    let there = ap (λ (x : Forms). list_any (λ m. m == c.args.number) (numbers x c.args.query.now)) c.self.view_is ∙ c.requires.there in
    top_there a c.self.invariant c.args.query.now c.args.number short there

pub remove-requires-clause-some : goal.remove-requires-clause-some
remove-requires-clause-some c =
    let a : Forms = record { top = c.self.inside.top; nodes = c.self.inside.nodes; first = c.self.inside.first } in
    let short : c.args.query.now.path ≡ [] = sym c.path.ensures ∙ sym c.keys.ensures.keys ∙ no_path c.keys.result.now c.in-None.ensures.cases in
    let there = ap (λ (x : Forms). list_any (λ m. m == c.args.number) (numbers x c.args.query.now)) c.self.view_is ∙ c.requires.there in
    top_some a c.self.invariant c.args.query.now c.args.number short there

pub remove_row-self-inside-requires-clause-told : goal.remove_row-self-inside-requires-clause-told
remove_row-self-inside-requires-clause-told c = told c.self.inside.nodes c.self.inside.first c.self.invariant.row c.self.invariant.once

pub remove_row-self-inside-requires-clause-there : goal.remove_row-self-inside-requires-clause-there
remove_row-self-inside-requires-clause-there c =
    let a : Forms = record { top = c.self.inside.top; nodes = c.self.inside.nodes; first = c.self.inside.first } in
    let goes : c.args.query.now.path ≡ c.in-Some.key.now ∷ c.in-Some.rest.now = search rules in
    let there = ap (λ (x : Forms). list_any (λ m. m == c.args.number) (numbers x c.args.query.now)) c.self.view_is ∙ c.requires.there in
    end_in a c.self.invariant c.args.query.now c.in-Some.key.now c.in-Some.rest.now goes c.args.number there

pub fall-requires : goal.fall-requires
fall-requires c =
    let a : Forms = record { top = c.self.inside.top; nodes = c.self.inside.nodes; first = c.self.inside.first } in
    let goes : c.args.query.now.path ≡ c.in-Some.key.now ∷ c.in-Some.rest.now = search rules in
    let there = ap (λ (x : Forms). list_any (λ m. m == c.args.number) (numbers x c.args.query.now)) c.self.view_is ∙ c.requires.there in
    end_some a c.self.invariant c.args.query.now c.in-Some.key.now c.in-Some.rest.now goes c.args.number there

pub invariant_of-self : goal.invariant_of-self
invariant_of-self c =
    let a : Forms = record { top = c.self.inside.top; nodes = c.self.inside.nodes; first = c.self.inside.first } in
    let short : c.args.query.now.path ≡ [] = sym c.path.ensures ∙ sym c.keys.ensures.keys ∙ no_path c.keys.result.now c.in-None.ensures.cases in
    top_ends a c.self.invariant c.args.query.now c.args.number short c.remove.new.self c.remove.ensures

pub invariant_of-self-in-Some : goal.invariant_of-self-in-Some
invariant_of-self-in-Some c =
    let a : Forms = record { top = c.self.inside.top; nodes = c.self.inside.nodes; first = c.self.inside.first } in
    let goes : c.args.query.now.path ≡ c.in-Some.key.now ∷ c.in-Some.rest.now = search rules in
    let there = ap (λ (x : Forms). list_any (λ m. m == c.args.number) (numbers x c.args.query.now)) c.self.view_is ∙ c.requires.there in
    part_ends a c.self.invariant c.args.query.now c.in-Some.key.now c.in-Some.rest.now goes c.args.number there c.remove_row-self-inside.new.nodes c.remove_row-self-inside.result c.fall.new.self c.fall.ensures c.remove_row-self-inside.ensures

pub returns-in-None-clause-numbers : goal.returns-in-None-clause-numbers
returns-in-None-clause-numbers c other =
    let a : Forms = record { top = c.self.inside.top; nodes = c.self.inside.nodes; first = c.self.inside.first } in
    let short : c.args.query.now.path ≡ [] = sym c.path.ensures ∙ sym c.keys.ensures.keys ∙ no_path c.keys.result.now c.in-None.ensures.cases in
    subst (λ (x : Forms). numbers (record { top = c.remove.new.self; nodes = c.self.inside.nodes; first = c.self.inside.first }) other
    ≡ cond (share_form other c.args.query.now) (without_number c.args.number (numbers x other)) (numbers x other)) c.self.view_is
    (top_left a c.self.invariant c.args.query.now c.args.number short c.remove.new.self c.remove.ensures other)

pub returns-in-Some-clause-numbers : goal.returns-in-Some-clause-numbers
returns-in-Some-clause-numbers c other =
    let a : Forms = record { top = c.self.inside.top; nodes = c.self.inside.nodes; first = c.self.inside.first } in
    let goes : c.args.query.now.path ≡ c.in-Some.key.now ∷ c.in-Some.rest.now = search rules in
    let there = ap (λ (x : Forms). list_any (λ m. m == c.args.number) (numbers x c.args.query.now)) c.self.view_is ∙ c.requires.there in
    subst (λ (x : Forms). numbers (record { top = c.fall.new.self; nodes = c.remove_row-self-inside.new.nodes; first = c.remove_row-self-inside.result }) other
    ≡ cond (share_form other c.args.query.now) (without_number c.args.number (numbers x other)) (numbers x other)) c.self.view_is
    (part_left a c.self.invariant c.args.query.now c.in-Some.key.now c.in-Some.rest.now goes c.args.number there c.remove_row-self-inside.new.nodes c.remove_row-self-inside.result c.fall.new.self c.fall.ensures c.remove_row-self-inside.ensures other)

pub returns-in-None-clause-count : goal.returns-in-None-clause-count
returns-in-None-clause-count c =
    let a : Forms = record { top = c.self.inside.top; nodes = c.self.inside.nodes; first = c.self.inside.first } in
    let short : c.args.query.now.path ≡ [] = sym c.path.ensures ∙ sym c.keys.ensures.keys ∙ no_path c.keys.result.now c.in-None.ensures.cases in
    let fewer = top_fewer a c.self.invariant c.args.query.now c.args.number short c.remove.new.self c.remove.ensures in
    let is = ap (λ (x : Forms). (x.top).count) c.self.view_is in
    omega (arith, fewer, is)

pub returns-in-Some-clause-count : goal.returns-in-Some-clause-count
returns-in-Some-clause-count c =
    let fell = ap (λ (x : Standing). x.count) c.fall.ensures in
    let is = ap (λ (x : Forms). (x.top).count) c.self.view_is in
    omega (arith, fell, is)
