use Rattle.std.proofs.Common.{◌≡◌, ◌<◌, length, sym, ◌∙◌, arith}
use Rattle.rt_tree.proofs.Nodes.{at-Null, at-Leaf, at-Object, kept-Object}
use Rattle.rt_tree.proofs.Emptied.{emptied-root, emptied-null, emptied-leaf, emptied-none, emptied-several, emptied-one}
use Rattle.rt_tree.proofs.tree.Tree.+goes_without.Goals as goal

pub returns-in_default : goal.returns-in_default
returns-in_default t c = sym (emptied-root c.args.self.now c.args.keys.now c.in_default.ensures.cases)

pub returns-in-Null : goal.returns-in-Null
returns-in-Null t c = rw (at-Null c.self.view_is c.in-Null.is) (sym (emptied-null c.args.keys.now))

pub returns-in-Leaf : goal.returns-in-Leaf
returns-in-Leaf t c = rw (at-Leaf c.self.view_is c.in-Leaf.is, c.in-Some.ensures.cases.0) (sym (emptied-leaf _ c.in-Some.key.now c.in-Some.rest.now))

pub returns-in-None : goal.returns-in-None
returns-in-None t c =
    rw (at-Object c.self.view_is c.in-Object.is, c.in-Some.ensures.cases.0)
    (sym (emptied-none c.in-Object.children.entries c.in-Some.key.now c.in-Some.rest.now (kept-Object c.self.invariant c.in-Object.is) (sym c.in-None.ensures.value)))

pub returns-then-len-gt1 : goal.returns-then-len-gt1
returns-then-len-gt1 t c =
    let more : 1 < length c.in-Object.children.entries = omega (arith, c.len.ensures.len, c.if-len-gt1.true) in
    rw (at-Object c.self.view_is c.in-Object.is, c.in-Some.ensures.cases.0)
    (sym (emptied-several c.in-Object.children.entries c.in-Some.key.now c.in-Some.rest.now (kept-Object c.self.invariant c.in-Object.is) more))

pub returns-in-Some-get : goal.returns-in-Some-get
returns-in-Some-get t c =
    let kept = kept-Object c.self.invariant c.in-Object.is in
    let one : length c.in-Object.children.entries ≡ 1 = omega (arith, c.len.ensures.len, c.if-len-gt1.false, kept.not_empty) in
    rw (at-Object c.self.view_is c.in-Object.is, c.in-Some.ensures.cases.0)
    (c.goes_without.ensures ∙ emptied-one c.in-Object.children.entries c.in-Some.key.now c.in-Some.rest.now c.in-Some-get.child.now one (sym c.in-Some-get.ensures.value))
