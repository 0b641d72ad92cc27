use Rattle.std.proofs.Common.{◌≡◌, Some, None, refl, sym, ◌∙◌, rules}
use Rattle.std.specs.declared.cmp.Ordering.TheVariants.{Equal, Greater}
use Rattle.slab.specs.Slab.{get}
use Rattle.rt_order.specs.KeyOrder.{key_cmp}
use Rattle.rt_nodes.specs.Forest.{row_at}
use Rattle.rt_nodes.specs.Changes.{InRow}
use Rattle.rt_nodes.proofs.Near.{near_place, spot_near}
use Rattle.rt_nodes.proofs.Paths.{spotted_by, next_place}
use Rattle.rt_nodes.proofs.nodes.pass.Goals as goal

pub walk-requires : goal.walk-requires
walk-requires g c = (c.args.row.parent, None, c.requires.row)

pub walk-requires-in-Less : goal.walk-requires-in-Less
walk-requires-in-Less g c = (c.args.row.parent, None, c.requires.row)

pub walk-requires-in-Greater : goal.walk-requires-in-Greater
walk-requires-in-Greater g c =
    let slot = c.unwrap-slot.result.now in
    let there : get c.args.nodes.now c.in-Some.index ≡ Some slot = search rules in
    let is : InRow c.in-Some.index (row_at c.args.nodes.now c.args.row.first) = c.requires.told.here c.in-Some.index c.in-Some.ensures.0 c.in-Some.ensures.1 c.in-Some.ensures.2 in
    next_place c.args.nodes.now (Some c.in-Some.index) c.in-Some.index slot refl (near_place c.args.nodes.now c.args.row.first c.args.row.parent c.in-Some.index c.requires.row is) there

pub returns-in-Equal : goal.returns-in-Equal
returns-in-Equal g c =
    let slot = c.unwrap-slot.result.now in
    let there : get c.args.nodes.now c.in-Some.index ≡ Some slot = search rules in
    let is : InRow c.in-Some.index (row_at c.args.nodes.now c.args.row.first) = c.requires.told.here c.in-Some.index c.in-Some.ensures.0 c.in-Some.ensures.1 c.in-Some.ensures.2 in
    let order : key_cmp c.args.key.now slot.key ≡ Equal = sym c.order.ensures ∙ c.in-Equal.is in
    let place = near_place c.args.nodes.now c.args.row.first c.args.row.parent c.in-Some.index c.requires.row is in
    sym (spot_near c.args.nodes.now c.args.row.first c.args.row.parent None (row_at c.args.nodes.now c.args.row.first) c.requires.row c.args.key.now c.in-Some.index slot there is (λ less. cc (less, order))
    ∙ spotted_by c.args.nodes.now (Some c.in-Some.index) slot.previous c.in-Some.index slot c.args.key.now refl place there _ order)

pub returns-in-Greater : goal.returns-in-Greater
returns-in-Greater g c =
    let slot = c.unwrap-slot.result.now in
    let there : get c.args.nodes.now c.in-Some.index ≡ Some slot = search rules in
    let is : InRow c.in-Some.index (row_at c.args.nodes.now c.args.row.first) = c.requires.told.here c.in-Some.index c.in-Some.ensures.0 c.in-Some.ensures.1 c.in-Some.ensures.2 in
    let order : key_cmp c.args.key.now slot.key ≡ Greater = sym c.order.ensures ∙ c.in-Greater.is in
    let place = near_place c.args.nodes.now c.args.row.first c.args.row.parent c.in-Some.index c.requires.row is in
    c.walk-in-Greater.ensures
    ∙ sym (spot_near c.args.nodes.now c.args.row.first c.args.row.parent None (row_at c.args.nodes.now c.args.row.first) c.requires.row c.args.key.now c.in-Some.index slot there is (λ less. cc (less, order))
    ∙ spotted_by c.args.nodes.now (Some c.in-Some.index) slot.previous c.in-Some.index slot c.args.key.now refl place there _ order)
