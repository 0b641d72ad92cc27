use Rattle.std.proofs.Common.{◌≡◌, Some, None, sym, ◌∙◌, rules}
use Rattle.slab.specs.Slab.{get}
use Rattle.rt_store.proofs.Places.{first_child-root, first_child-node, first_child-nowhere}
use Rattle.rt_store.proofs.store.Store.first_child.Goals as goal

pub returns-in-None : goal.returns-in-None
returns-in-None c =
    first_child-root c.self.inside c.args.self.now c.args.node c.linked.result c.self.invariant c.self.view_is (sym c.index.ensures ∙ c.in-None.is) c.linked.ensures

pub returns-in-Some-get : goal.returns-in-Some-get
returns-in-Some-get c =
    let there : get c.self.inside.nodes c.in-Some.index ≡ Some c.in-Some-get.slot.now = search rules in
    first_child-node c.self.inside c.args.self.now c.args.node c.linked-in-Some-get.result c.in-Some.index c.in-Some-get.slot.now c.self.invariant c.self.view_is
    (sym c.index.ensures ∙ c.in-Some.is) there c.linked-in-Some-get.ensures

pub returns-in-None-get : goal.returns-in-None-get
returns-in-None-get c =
    let none : get c.self.inside.nodes c.in-Some.index ≡ None = search rules in
    first_child-nowhere c.self.inside c.args.self.now c.args.node c.in-Some.index c.self.view_is (sym c.index.ensures ∙ c.in-Some.is) none
