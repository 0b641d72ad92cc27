use Rattle.std.proofs.Common.{◌≡◌, Some, None, sym, ap, ◌∙◌, rules}
use Rattle.slab.specs.Slab.{get}
use Rattle.rt_store.proofs.Places.{key-node, key-nowhere}
use Rattle.rt_store.proofs.store.Store.key.Goals as goal

pub returns-in-Some-get : goal.returns-in-Some-get
returns-in-Some-get c =
    let there : get c.self.inside.nodes c.in-Some.index ≡ Some c.in-Some-get.slot.now = search rules in
    ap Some c.key.ensures ∙ key-node c.self.inside c.args.self.now c.args.node c.in-Some.index c.in-Some-get.slot.now c.self.invariant c.self.view_is (sym c.index.ensures ∙ c.in-Some.is) there

pub returns-in-None-get : goal.returns-in-None-get
returns-in-None-get c =
    let none : get c.self.inside.nodes c.in-Some.index ≡ None = search rules in
    key-nowhere c.self.inside c.args.self.now c.args.node c.in-Some.index c.self.view_is (sym c.index.ensures ∙ c.in-Some.is) none
