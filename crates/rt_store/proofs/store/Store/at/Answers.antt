use Rattle.std.proofs.Common.{◌≡◌, Some, sym, ap, ◌∙◌, length, ◌∷◌, rules}
use Rattle.std.specs.Option.{option_map}
use Rattle.rt_store.proofs.Paths.{at_null-row, at_null-there, at_root-row, at_root-there, at_path-row, at_path-there}
use Rattle.rt_nodes.proofs.Near.{told}
use Rattle.rt_store.proofs.store.Store.at.Goals as goal

pub returns-then-is_null-clause-row : goal.returns-then-is_null-clause-row
returns-then-is_null-clause-row c =
    let short : length c.args.path.now ≡ 0 = search rules in
    at_null-row c.args.self.now.tree c.args.path.now short (sym c.is_null.ensures ∙ c.if-is_null.true)

pub returns-then-is_null-clause-there : goal.returns-then-is_null-clause-there
returns-then-is_null-clause-there c =
    let short : length c.args.path.now ≡ 0 = search rules in
    at_null-there c.args.self.now.tree c.args.path.now short (sym c.is_null.ensures ∙ c.if-is_null.true)

pub returns-else-is_null-clause-row : goal.returns-else-is_null-clause-row
returns-else-is_null-clause-row c =
    let short : length c.args.path.now ≡ 0 = search rules in
    at_root-row c.args.self.now c.root.result c.args.path.now c.root.ensures short (sym c.is_null.ensures ∙ c.if-is_null.false)

pub returns-else-is_null-clause-there : goal.returns-else-is_null-clause-there
returns-else-is_null-clause-there c =
    let short : length c.args.path.now ≡ 0 = search rules in
    at_root-there c.args.self.now.tree c.args.path.now short (sym c.is_null.ensures ∙ c.if-is_null.false)

pub returns-clause-row : goal.returns-clause-row
returns-clause-row c =
    let goes : c.args.path.now ≡ c.in-Some.key.now ∷ c.in-Some.rest.now = search rules in
    at_path-row c.self.inside c.args.self.now c.linked.result c.args.path.now c.in-Some.key.now c.in-Some.rest.now c.self.invariant c.self.view_is goes (c.linked.ensures ∙ ap (option_map (λ n. Some n)) c.descend.ensures)

pub returns-clause-there : goal.returns-clause-there
returns-clause-there c =
    let goes : c.args.path.now ≡ c.in-Some.key.now ∷ c.in-Some.rest.now = search rules in
    at_path-there c.self.inside c.args.self.now c.linked.result c.args.path.now c.in-Some.key.now c.in-Some.rest.now c.self.invariant c.self.view_is goes (c.linked.ensures ∙ ap (option_map (λ n. Some n)) c.descend.ensures)

pub descend-requires-clause-told : goal.descend-requires-clause-told
descend-requires-clause-told c = told c.self.inside.nodes c.self.inside.first c.self.invariant.row c.self.invariant.once
