use Rattle.std.proofs.Common.{◌≡◌, ◌∷◌, length, rules}
use Rattle.rt_store.proofs.ClearRow.{emptied, emptied_tree, cleared_store, cleared_tree}
use Rattle.rt_store.proofs.Storing.{once_in}
use Rattle.rt_nodes.proofs.Near.{told}
use Rattle.rt_store.proofs.store.Store.clear.Goals as goal

pub invariant_of-self : goal.invariant_of-self
invariant_of-self c = emptied c.self.inside c.fell.new.self c.self.invariant c.fell.ensures

pub invariant_of-self-in-Some : goal.invariant_of-self-in-Some
invariant_of-self-in-Some c =
    cleared_store c.self.inside c.self.invariant c.in-Some.key.now c.in-Some.rest.now c.clear_row-self-inside.new.nodes c.clear_row-self-inside.result c.clear_row-self-inside.ensures.row c.clear_row-self-inside.ensures.changed

pub returns-in-None : goal.returns-in-None
returns-in-None c =
    let short : length c.args.path.now ≡ 0 = search rules in
    emptied_tree c.fell.new.self c.args.self.now.tree c.args.path.now short

pub returns-in-Some : goal.returns-in-Some
returns-in-Some c =
    let goes : c.args.path.now ≡ c.in-Some.key.now ∷ c.in-Some.rest.now = search rules in
    cleared_tree c.self.inside c.self.invariant c.in-Some.key.now c.in-Some.rest.now c.clear_row-self-inside.new.nodes c.clear_row-self-inside.result c.clear_row-self-inside.ensures.row c.clear_row-self-inside.ensures.changed
    c.args.self.now c.args.path.now c.self.view_is goes

pub clear_row-self-inside-requires-clause-told : goal.clear_row-self-inside-requires-clause-told
clear_row-self-inside-requires-clause-told c = told c.self.inside.nodes c.self.inside.first c.self.invariant.row c.self.invariant.once

pub fell-requires-clause-once : goal.fell-requires-clause-once
fell-requires-clause-once c = once_in c.self.inside c.self.invariant

pub clear_row-self-inside-requires-clause-once : goal.clear_row-self-inside-requires-clause-once
clear_row-self-inside-requires-clause-once c = once_in c.self.inside c.self.invariant
