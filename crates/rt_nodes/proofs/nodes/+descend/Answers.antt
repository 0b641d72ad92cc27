use Rattle.std.proofs.Common.{◌≡◌, ◌<◌, Some, None, sym, ap, ◌∙◌, arith, length, rules}
use Rattle.slab.specs.Slab.{get}
use Rattle.rt_nodes.specs.Forest.{row_at, IsRow}
use Rattle.rt_nodes.specs.Walks.{index_in}
use Rattle.rt_nodes.specs.Changes.{Told}
use Rattle.rt_nodes.proofs.Paths.{ends_none, ends_here, goes_below, lost, found_in_row}
use Rattle.rt_nodes.proofs.Taking.{below_row}
use Rattle.rt_nodes.proofs.Near.{told_below}
use Rattle.rt_nodes.proofs.nodes.+descend.Goals as goal

pub returns-in_err-index : goal.returns-in_err-index
returns-in_err-index g t c =
    let none : index_in c.args.key.now (row_at c.args.nodes.now c.args.row.first) ≡ None = search rules in
    c.from_residual.ensures ∙ sym (ends_none c.args.nodes.now c.args.row.first c.args.key.now c.args.rest.now (c.args.row.parent, None, c.requires.row) none)

pub descend-requires : goal.descend-requires
descend-requires g t c =
    let slot = c.in-Some-get.slot.now in
    let found : index_in c.args.key.now (row_at c.args.nodes.now c.args.row.first) ≡ Some c.in_ok-index.index = search rules in
    let there : get c.args.nodes.now c.in_ok-index.index ≡ Some slot = search rules in
    let shorter : length c.in-Some.rest.now < length c.args.rest.now = omega (arith, ap length c.in-Some.ensures.cases.0) in
    let row : IsRow c.args.nodes.now slot.first_child (Some c.in_ok-index.index) None (row_at c.args.nodes.now slot.first_child) =
    below_row c.args.nodes.now c.args.row.first c.args.row.parent c.in_ok-index.index slot c.requires.row (found_in_row c.args.key.now c.in_ok-index.index (row_at c.args.nodes.now c.args.row.first) found) there in
    let told : Told c.args.nodes.now slot.first_child (Some c.in_ok-index.index) =
    told_below c.args.nodes.now c.args.row.first c.args.row.parent c.in_ok-index.index slot c.requires.told there in
    search (rules, shorter, row, told)

pub returns-in-None : goal.returns-in-None
returns-in-None g t c =
    let found : index_in c.args.key.now (row_at c.args.nodes.now c.args.row.first) ≡ Some c.in_ok-index.index = search rules in
    sym (ends_here c.args.nodes.now c.args.row.first c.args.key.now c.args.rest.now c.in_ok-index.index (c.args.row.parent, None, c.requires.row) found c.in-None.ensures.cases)

pub returns-in-Some-get : goal.returns-in-Some-get
returns-in-Some-get g t c =
    let found : index_in c.args.key.now (row_at c.args.nodes.now c.args.row.first) ≡ Some c.in_ok-index.index = search rules in
    let there : get c.args.nodes.now c.in_ok-index.index ≡ Some c.in-Some-get.slot.now = search rules in
    rw (c.in-Some.ensures.cases.0)
    (c.descend.ensures
    ∙ sym (goes_below c.args.nodes.now c.args.row.first c.args.key.now c.in-Some.key.now c.in-Some.rest.now c.in_ok-index.index c.in-Some-get.slot.now (c.args.row.parent, None, c.requires.row) found there))

pub returns-in-None-get : goal.returns-in-None-get
returns-in-None-get g t c =
    let found : index_in c.args.key.now (row_at c.args.nodes.now c.args.row.first) ≡ Some c.in_ok-index.index = search rules in
    let none : get c.args.nodes.now c.in_ok-index.index ≡ None = search rules in
    absurd (lost c.args.nodes.now c.args.row.first c.args.key.now c.in_ok-index.index (c.args.row.parent, None, c.requires.row) found none)
