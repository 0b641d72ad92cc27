use Rattle.std.proofs.Common.{◌≡◌, ◌∷◌, ◌≤◌, ◌+◌, false, None, length, sym, ap, ◌∙◌, arith, rules}
use Rattle.rt_tree.specs.PathTree.{is_null, null_of_is_null, put, levels, levels-null}
use Rattle.rt_store.proofs.Storing.{once_in}
use Rattle.rt_nodes.proofs.Growing.{old_place, old_once}
use Rattle.rt_store.proofs.Putting.{set_nothing, set_as_before, set_root, set_root_tree, set_part, set_part_tree}
use Rattle.rt_nodes.proofs.Near.{told}
use Rattle.rt_store.proofs.store.Store.set.Goals as goal

pub returns-then-is_null-clause-ok : goal.returns-then-is_null-clause-ok
returns-then-is_null-clause-ok c = c.clear.ensures ∙ ap (put c.args.self.now.tree c.args.path.now) (sym (null_of_is_null c.args.tree.now (sym c.is_null.ensures ∙ c.if-is_null.true)))

pub returns-then-is_null-clause-too_deep : goal.returns-then-is_null-clause-too_deep
returns-then-is_null-clause-too_deep c =
    let none : levels c.args.tree.now ≡ 0 = ap levels (null_of_is_null c.args.tree.now (sym c.is_null.ensures ∙ c.if-is_null.true)) ∙ levels-null in
    (λ e. cc, λ deep. absurd (omega (arith, deep, none, c.keys-keys.ensures.valid.short)))

pub invariant_of-self : goal.invariant_of-self
invariant_of-self c = set_nothing c.self.inside c.args.self.now c.self.invariant c.self.view_is c.content.new.nodes c.in_err-leaf-in-None.ensures.err

pub returns-in_err-leaf-in-None-clause-err : goal.returns-in_err-leaf-in-None-clause-err
returns-in_err-leaf-in-None-clause-err c =
    let before = set_as_before c.self.inside c.args.self.now c.self.invariant c.self.view_is c.content.new.nodes c.in_err-leaf-in-None.ensures.err in
    search (rules, before)

pub fell-requires-clause-place : goal.fell-requires-clause-place
fell-requires-clause-place c =
    old_place c.self.inside.nodes c.content.new.nodes c.self.inside.first c.in_ok-leaf-in-None.first None c.self.invariant.row (once_in c.self.inside c.self.invariant) c.in_ok-leaf-in-None.ensures.grown.grown

pub fell-requires-clause-once : goal.fell-requires-clause-once
fell-requires-clause-once c =
    old_once c.self.inside.nodes c.content.new.nodes c.self.inside.first c.in_ok-leaf-in-None.first None c.self.invariant.row (once_in c.self.inside c.self.invariant) c.in_ok-leaf-in-None.ensures.grown.grown

pub invariant_of-self-in-None : goal.invariant_of-self-in-None
invariant_of-self-in-None c =
    set_root c.self.inside c.args.self.now c.self.invariant c.self.view_is c.args.path.now c.args.tree.now c.keys-keys.ensures.valid c.levels.ensures.allowed
    c.content.new.nodes c.fell.new.self c.in_ok-leaf-in-None.first c.in_ok-leaf-in-None.leaf c.keys-keys.result.now c.keys-keys.ensures.keys c.in-None.ensures.cases
    c.in_ok-leaf-in-None.ensures.grown c.in_ok-leaf-in-None.ensures.full c.in_ok-leaf-in-None.ensures.is c.fell.ensures

pub invariant_of-self-in_err-first-in-Some : goal.invariant_of-self-in_err-first-in-Some
invariant_of-self-in_err-first-in-Some c = set_nothing c.self.inside c.args.self.now c.self.invariant c.self.view_is c.put_row.new.nodes c.in_err-first-in-Some.ensures.err

pub returns-in_err-first-in-Some-clause-err : goal.returns-in_err-first-in-Some-clause-err
returns-in_err-first-in-Some-clause-err c =
    let before = set_as_before c.self.inside c.args.self.now c.self.invariant c.self.view_is c.put_row.new.nodes c.in_err-first-in-Some.ensures.err in
    search (rules, before)

pub invariant_of-self-in-Some : goal.invariant_of-self-in-Some
invariant_of-self-in-Some c =
    let goes : c.args.path.now ≡ c.in-Some.key.now ∷ c.in-Some.rest.now = search rules in
    let some : is_null c.args.tree.now ≡ false = search rules in
    let fits : length c.args.path.now + levels c.args.tree.now ≤ 33 =
    omega (arith, c.keys-keys.ensures.valid.short, ap length c.keys-keys.ensures.keys, c.levels.ensures.levels, c.if-levels-keys.false) in
    set_part c.self.inside c.args.self.now c.self.invariant c.self.view_is c.args.path.now c.args.tree.now c.keys-keys.ensures.valid c.levels.ensures.allowed
    c.put_row.new.nodes c.in_ok-first-in-Some.first c.in-Some.key.now c.in-Some.rest.now goes some c.in_ok-first-in-Some.ensures.ok fits

pub returns-in_ok-leaf-in-None-clause-ok : goal.returns-in_ok-leaf-in-None-clause-ok
returns-in_ok-leaf-in-None-clause-ok c =
    set_root_tree c.self.inside c.args.self.now c.self.invariant c.self.view_is c.args.path.now c.args.tree.now c.keys-keys.ensures.valid c.levels.ensures.allowed
    c.content.new.nodes c.fell.new.self c.in_ok-leaf-in-None.first c.in_ok-leaf-in-None.leaf c.keys-keys.result.now c.keys-keys.ensures.keys c.in-None.ensures.cases
    c.in_ok-leaf-in-None.ensures.grown c.in_ok-leaf-in-None.ensures.full c.in_ok-leaf-in-None.ensures.is c.fell.ensures

pub returns-in_ok-first-in-Some-clause-ok : goal.returns-in_ok-first-in-Some-clause-ok
returns-in_ok-first-in-Some-clause-ok c =
    let goes : c.args.path.now ≡ c.in-Some.key.now ∷ c.in-Some.rest.now = search rules in
    let some : is_null c.args.tree.now ≡ false = search rules in
    set_part_tree c.self.inside c.args.self.now c.self.invariant c.self.view_is c.args.path.now c.args.tree.now c.keys-keys.ensures.valid c.levels.ensures.allowed
    c.put_row.new.nodes c.in_ok-first-in-Some.first c.in-Some.key.now c.in-Some.rest.now goes some c.in_ok-first-in-Some.ensures.ok

pub put_row-requires-clause-told : goal.put_row-requires-clause-told
put_row-requires-clause-told c = told c.self.inside.nodes c.self.inside.first c.self.invariant.row c.self.invariant.once

pub put_row-requires-clause-once : goal.put_row-requires-clause-once
put_row-requires-clause-once c = once_in c.self.inside c.self.invariant
