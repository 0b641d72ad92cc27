use Rattle.std.proofs.Common.{◌≡◌, ◌∷◌, Some, sym, ap, ◌∙◌, length, subst, rules}
use Rattle.std.proofs.lemmas.Result.{IfOk-weaker}
use Rattle.slab.specs.Slab.{get}
use Rattle.rt_tree.specs.PathTree.{sub}
use Rattle.rt_tree.specs.Allowed.{IsAllowed}
use Rattle.rt_store.specs.Stored.{Stored}
use Rattle.rt_nodes.specs.Forest.{row_at}
use Rattle.rt_store.specs.inside.Entries.{entries, tree_with}
use Rattle.rt_store.proofs.Paths.{root_part, path_part, path_allowed, path_null, part_place, part_filled, part_is}
use Rattle.rt_nodes.proofs.Near.{told}
use Rattle.rt_store.proofs.store.Store.get.Goals as goal

pub returns-in_default : goal.returns-in_default
returns-in_default c =
    let short : length c.args.path.now ≡ 0 = search rules in
    IfOk-weaker c.build.result (λ u. u ≡ tree_with c.self.inside.leaf (entries (row_at c.self.inside.nodes c.self.inside.first))) (λ u. u ≡ sub c.args.self.now.tree c.args.path.now)
    (λ _ p. p ∙ ap (λ (s : Stored). s.tree) c.self.view_is ∙ root_part c.args.self.now c.args.path.now short)
    c.build.ensures

pub returns-in_default-descend : goal.returns-in_default-descend
returns-in_default-descend c =
    let goes : c.args.path.now ≡ c.in-Some.key.now ∷ c.in-Some.rest.now = search rules in
    c.null.ensures
    ∙ path_null c.self.inside c.args.self.now c.args.path.now c.in-Some.key.now c.in-Some.rest.now c.self.invariant c.self.view_is goes (sym c.descend.ensures ∙ c.in_default-descend.is)

pub unwrap-slot-requires : goal.unwrap-slot-requires
unwrap-slot-requires c =
    let goes : c.args.path.now ≡ c.in-Some.key.now ∷ c.in-Some.rest.now = search rules in
    let part = path_part c.self.inside c.args.self.now c.args.path.now c.in-Some.key.now c.in-Some.rest.now c.in-Some-descend.index c.self.invariant c.self.view_is goes (sym c.descend.ensures ∙ c.in-Some-descend.is) in
    let there : get c.self.inside.nodes c.in-Some-descend.index ≡ Some part.slot = part.there in
    search (rules, there)

pub build-requires-2-clause-place : goal.build-requires-2-clause-place
build-requires-2-clause-place c =
    let goes : c.args.path.now ≡ c.in-Some.key.now ∷ c.in-Some.rest.now = search rules in
    let there : get c.self.inside.nodes c.in-Some-descend.index ≡ Some c.unwrap-slot.result.now = search rules in
    part_place c.self.inside.nodes (sub c.args.self.now.tree c.args.path.now) c.in-Some-descend.index c.unwrap-slot.result.now there
    (path_part c.self.inside c.args.self.now c.args.path.now c.in-Some.key.now c.in-Some.rest.now c.in-Some-descend.index c.self.invariant c.self.view_is goes (sym c.descend.ensures ∙ c.in-Some-descend.is))

pub build-requires-2-clause-filled : goal.build-requires-2-clause-filled
build-requires-2-clause-filled c =
    let goes : c.args.path.now ≡ c.in-Some.key.now ∷ c.in-Some.rest.now = search rules in
    let there : get c.self.inside.nodes c.in-Some-descend.index ≡ Some c.unwrap-slot.result.now = search rules in
    part_filled c.self.inside.nodes (sub c.args.self.now.tree c.args.path.now) c.in-Some-descend.index c.unwrap-slot.result.now there
    (path_part c.self.inside c.args.self.now c.args.path.now c.in-Some.key.now c.in-Some.rest.now c.in-Some-descend.index c.self.invariant c.self.view_is goes (sym c.descend.ensures ∙ c.in-Some-descend.is))

pub build-requires-2-clause-allowed : goal.build-requires-2-clause-allowed
build-requires-2-clause-allowed c =
    let goes : c.args.path.now ≡ c.in-Some.key.now ∷ c.in-Some.rest.now = search rules in
    let there : get c.self.inside.nodes c.in-Some-descend.index ≡ Some c.unwrap-slot.result.now = search rules in
    subst IsAllowed (part_is c.self.inside.nodes (sub c.args.self.now.tree c.args.path.now) c.in-Some-descend.index c.unwrap-slot.result.now there
    (path_part c.self.inside c.args.self.now c.args.path.now c.in-Some.key.now c.in-Some.rest.now c.in-Some-descend.index c.self.invariant c.self.view_is goes (sym c.descend.ensures ∙ c.in-Some-descend.is)))
    (path_allowed c.self.inside c.args.self.now c.args.path.now c.self.invariant c.self.view_is)

pub returns : goal.returns
returns c =
    let goes : c.args.path.now ≡ c.in-Some.key.now ∷ c.in-Some.rest.now = search rules in
    let there : get c.self.inside.nodes c.in-Some-descend.index ≡ Some c.unwrap-slot.result.now = search rules in
    IfOk-weaker c.build-2.result (λ u. u ≡ tree_with c.unwrap-slot.result.now.value (entries (row_at c.self.inside.nodes c.unwrap-slot.result.now.first_child))) (λ u. u ≡ sub c.args.self.now.tree c.args.path.now)
    (λ _ p. p ∙ sym (part_is c.self.inside.nodes (sub c.args.self.now.tree c.args.path.now) c.in-Some-descend.index c.unwrap-slot.result.now there
    (path_part c.self.inside c.args.self.now c.args.path.now c.in-Some.key.now c.in-Some.rest.now c.in-Some-descend.index c.self.invariant c.self.view_is goes (sym c.descend.ensures ∙ c.in-Some-descend.is))))
    c.build-2.ensures

pub descend-requires-clause-told : goal.descend-requires-clause-told
descend-requires-clause-told c = told c.self.inside.nodes c.self.inside.first c.self.invariant.row c.self.invariant.once
