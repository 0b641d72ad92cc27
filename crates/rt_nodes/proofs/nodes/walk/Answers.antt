use Rattle.std.proofs.Common.{◌≡◌, Some, None, sym, ◌∙◌, rules}
use Rattle.slab.specs.Slab.{get}
use Rattle.rt_nodes.proofs.Paths.{spotted_by, is_there, fewer, next_place, missing}
use Rattle.rt_nodes.proofs.nodes.walk.Goals as goal

pub returns-in-Less : goal.returns-in-Less
returns-in-Less g c =
    let slot = c.unwrap-slot.result.now in
    let there : get c.args.nodes.now c.in-Some.index ≡ Some slot = search rules in
    sym (c.loop-next.invariant.1 ∙ spotted_by c.args.nodes.now c.loop-next.next c.loop-next.previous c.in-Some.index slot c.args.key.now c.in-Some.is c.loop-next.invariant.0 there _ (sym c.order.ensures ∙ c.in-Less.is))

pub returns-in-Equal : goal.returns-in-Equal
returns-in-Equal g c =
    let slot = c.unwrap-slot.result.now in
    let there : get c.args.nodes.now c.in-Some.index ≡ Some slot = search rules in
    sym (c.loop-next.invariant.1 ∙ spotted_by c.args.nodes.now c.loop-next.next c.loop-next.previous c.in-Some.index slot c.args.key.now c.in-Some.is c.loop-next.invariant.0 there _ (sym c.order.ensures ∙ c.in-Equal.is))

pub loop-next-smaller : goal.loop-next-smaller
loop-next-smaller g c =
    let there : get c.args.nodes.now c.in-Some.index ≡ Some c.unwrap-slot.result.now = search rules in
    fewer c.args.nodes.now c.loop-next.next c.in-Some.index c.unwrap-slot.result.now c.in-Some.is c.loop-next.invariant.0 there

pub loop-next-preserved : goal.loop-next-preserved
loop-next-preserved g c =
    let slot = c.unwrap-slot.result.now in
    let there : get c.args.nodes.now c.in-Some.index ≡ Some slot = search rules in (
      next_place c.args.nodes.now c.loop-next.next c.in-Some.index slot c.in-Some.is c.loop-next.invariant.0 there,
      c.loop-next.invariant.1 ∙ spotted_by c.args.nodes.now c.loop-next.next c.loop-next.previous c.in-Some.index slot c.args.key.now c.in-Some.is c.loop-next.invariant.0 there _ (sym c.order.ensures ∙ c.in-Greater.is),
    )

pub returns : goal.returns
returns g c =
    let none : c.loop-next.next ≡ None = search rules in
    sym (c.loop-next.invariant.1 ∙ missing c.args.nodes.now c.loop-next.next c.loop-next.previous c.args.key.now none)

pub unwrap-slot-requires : goal.unwrap-slot-requires
unwrap-slot-requires g c =
    let lost : get c.args.nodes.now c.in-Some.index ≡ None → ⊥ = is_there c.args.nodes.now c.loop-next.next c.in-Some.index c.in-Some.is c.loop-next.invariant.0 in
    search (rules, lost)
