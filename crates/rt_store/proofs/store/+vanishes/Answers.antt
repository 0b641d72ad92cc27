use Rattle.std.proofs.Common.{◌≡◌, Some, true, false, not, is_some, sym, ap, ◌∙◌, arith, length, rules}
use Rattle.std.specs.Prelude.{◌&&◌}
use Rattle.std.specs.Ordering.{is_eq}
use Rattle.slab.specs.Slab.{get}
use Rattle.rt_order.specs.KeyOrder.{key_cmp}
use Rattle.rt_nodes.specs.Forest.{row_at}
use Rattle.rt_store.specs.inside.Changes.{is_bare, cleared}
use Rattle.rt_store.proofs.Vanishing.{vanish_more, vanish_other, vanish_end, vanish_below, vanish_place}
use Rattle.rt_store.proofs.store.+vanishes.Goals as goal
use Rattle.rt_store.proofs.store.+vanishes.Goals.{then-is_some-via-then-is_some, then-is_some-via-else-is_some+then-not-is_eq}

pub returns-then-is_some : goal.returns-then-is_some
returns-then-is_some t c =
    let slot = c.unwrap-slot.result.now in
    let there : get c.args.nodes.now c.in-Some.index ≡ Some slot = search rules in
    elim c.then-is_some.branch [
      | then-is_some-via-then-is_some w ↦
          let more : is_some slot.next ≡ true = search rules in
          sym (vanish_more c.args.nodes.now c.args.first c.in-Some.index slot c.in-Some.is c.requires there c.args.key.now c.args.rest.now more)
      | then-is_some-via-else-is_some+then-not-is_eq w ↦
          let other : is_eq (key_cmp c.args.key.now slot.key) ≡ false = search rules in
          sym (vanish_other c.args.nodes.now c.args.first c.in-Some.index slot c.in-Some.is c.requires there c.args.key.now c.args.rest.now other)
    ]

pub vanishes-requires : goal.vanishes-requires
vanishes-requires t c =
    let there : get c.args.nodes.now c.in-Some.index ≡ Some c.unwrap-slot.result.now = search rules in (
      omega (arith, c.decreases, ap length c.in-Some-split_first.ensures.cases.0),
      vanish_place c.args.nodes.now c.args.first c.in-Some.index c.unwrap-slot.result.now c.in-Some.is c.requires there c.args.key.now,
    )

pub returns-in-None : goal.returns-in-None
returns-in-None t c =
    let slot = c.unwrap-slot.result.now in
    let there : get c.args.nodes.now c.in-Some.index ≡ Some slot = search rules in
    let last : is_some slot.next ≡ false = search rules in
    let same : is_eq (key_cmp c.args.key.now slot.key) ≡ true = search rules in
    sym (vanish_end c.args.nodes.now c.args.first c.in-Some.index slot c.in-Some.is c.requires there c.args.key.now c.args.rest.now c.in-None.ensures.cases same last)

pub returns-then-is_none : goal.returns-then-is_none
returns-then-is_none t c =
    let slot = c.unwrap-slot.result.now in
    let there : get c.args.nodes.now c.in-Some.index ≡ Some slot = search rules in
    let last : is_some slot.next ≡ false = search rules in
    let same : is_eq (key_cmp c.args.key.now slot.key) ≡ true = search rules in
    let leaf : not (is_some slot.value) ≡ true = search rules in
    rw c.in-Some-split_first.ensures.cases.0
    (c.vanishes.ensures
    ∙ sym (vanish_below c.args.nodes.now c.args.first c.in-Some.index slot c.in-Some.is c.requires there c.args.key.now c.in-Some-split_first.child.now c.in-Some-split_first.rest.now same last
    ∙ ap (λ b. b && is_bare (cleared c.in-Some-split_first.child.now c.in-Some-split_first.rest.now (row_at c.args.nodes.now slot.first_child))) leaf))

pub returns-else-is_none : goal.returns-else-is_none
returns-else-is_none t c =
    let slot = c.unwrap-slot.result.now in
    let there : get c.args.nodes.now c.in-Some.index ≡ Some slot = search rules in
    let last : is_some slot.next ≡ false = search rules in
    let same : is_eq (key_cmp c.args.key.now slot.key) ≡ true = search rules in
    let leaf : not (is_some slot.value) ≡ false = search rules in
    rw c.in-Some-split_first.ensures.cases.0
    (c.if-is_none.false
    ∙ sym (vanish_below c.args.nodes.now c.args.first c.in-Some.index slot c.in-Some.is c.requires there c.args.key.now c.in-Some-split_first.child.now c.in-Some-split_first.rest.now same last
    ∙ ap (λ b. b && is_bare (cleared c.in-Some-split_first.child.now c.in-Some-split_first.rest.now (row_at c.args.nodes.now slot.first_child))) leaf))
