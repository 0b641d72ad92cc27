use Rattle.std.proofs.Common.{◌≡◌, Some, length, sym, ap, refl, ◌∙◌, arith, rules}
use Rattle.slab.specs.Slab.{get}
use Rattle.rt_store.proofs.Putting.{put_new, put_there, put_place, put_once, put_filled, put_here, put_below}
use Rattle.rt_nodes.proofs.Growing.{old_place, old_once}
use Rattle.rt_nodes.proofs.Near.{told_below}
use Rattle.rt_store.proofs.nodes.+put_row.Goals as goal

pub returns-in-None-clause-ok : goal.returns-in-None-clause-ok
returns-in-None-clause-ok t c =
    put_new c.args.nodes.now c.grow.new.nodes c.link.new.self c.args.row.first (Some c.in_ok-index-in-Gap.index) c.args.row.parent c.in-Gap.previous c.in-Gap.next c.in_ok-index-in-Gap.index
    c.args.key.now c.args.rest.now c.args.tree.now c.requires.row c.requires.once c.requires.filled c.requires.full (sym c.seek.ensures ∙ c.in-Gap.is)
    c.in_ok-index-in-Gap.ensures.grown c.in_ok-index-in-Gap.ensures.is c.link.ensures.each c.link.ensures.len (λ none. refl) (λ x some. cc (c.in-None.is, some))

pub returns-in-Some-clause-ok : goal.returns-in-Some-clause-ok
returns-in-Some-clause-ok t c =
    put_new c.args.nodes.now c.grow.new.nodes c.link.new.self c.args.row.first c.args.row.first c.args.row.parent c.in-Gap.previous c.in-Gap.next c.in_ok-index-in-Gap.index
    c.args.key.now c.args.rest.now c.args.tree.now c.requires.row c.requires.once c.requires.filled c.requires.full (sym c.seek.ensures ∙ c.in-Gap.is)
    c.in_ok-index-in-Gap.ensures.grown c.in_ok-index-in-Gap.ensures.is c.link.ensures.each c.link.ensures.len (λ none. cc (c.in-Some.is, none)) (λ x some. refl)

pub unwrap-requires : goal.unwrap-requires
unwrap-requires t c =
    let node = put_there c.args.nodes.now c.args.row.first c.args.row.parent c.args.key.now c.in-Here.index c.requires.row c.requires.filled (sym c.seek.ensures ∙ c.in-Here.is) in
    let there : get c.args.nodes.now c.in-Here.index ≡ Some node.slot = node.there in
    search (rules, there)

pub fell-requires-clause-place : goal.fell-requires-clause-place
fell-requires-clause-place t c =
    let slot = c.unwrap.result.now in
    let there : get c.args.nodes.now c.in-Here.index ≡ Some slot = search rules in
    old_place c.args.nodes.now c.content.new.nodes slot.first_child c.in_ok-leaf-in-None-split_first.grown (Some c.in-Here.index)
    (put_place c.args.nodes.now c.args.row.first c.args.row.parent c.args.key.now c.in-Here.index slot c.requires.row c.requires.once c.requires.filled (sym c.seek.ensures ∙ c.in-Here.is) there)
    (put_once c.args.nodes.now c.args.row.first c.args.row.parent c.args.key.now c.in-Here.index slot c.requires.row c.requires.once c.requires.filled (sym c.seek.ensures ∙ c.in-Here.is) there)
    c.in_ok-leaf-in-None-split_first.ensures.grown.grown

pub fell-requires-clause-once : goal.fell-requires-clause-once
fell-requires-clause-once t c =
    let slot = c.unwrap.result.now in
    let there : get c.args.nodes.now c.in-Here.index ≡ Some slot = search rules in
    old_once c.args.nodes.now c.content.new.nodes slot.first_child c.in_ok-leaf-in-None-split_first.grown (Some c.in-Here.index)
    (put_place c.args.nodes.now c.args.row.first c.args.row.parent c.args.key.now c.in-Here.index slot c.requires.row c.requires.once c.requires.filled (sym c.seek.ensures ∙ c.in-Here.is) there)
    (put_once c.args.nodes.now c.args.row.first c.args.row.parent c.args.key.now c.in-Here.index slot c.requires.row c.requires.once c.requires.filled (sym c.seek.ensures ∙ c.in-Here.is) there)
    c.in_ok-leaf-in-None-split_first.ensures.grown.grown

pub put_row-requires : goal.put_row-requires
put_row-requires t c =
    let slot = c.unwrap.result.now in
    let there : get c.args.nodes.now c.in-Here.index ≡ Some slot = search rules in (
      omega (arith, c.decreases, ap length c.in-Some-split_first.ensures.cases.0),
      (
        put_place c.args.nodes.now c.args.row.first c.args.row.parent c.args.key.now c.in-Here.index slot c.requires.row c.requires.once c.requires.filled (sym c.seek.ensures ∙ c.in-Here.is) there,
        (
          told_below c.args.nodes.now c.args.row.first c.args.row.parent c.in-Here.index slot c.requires.told there,
          (put_once c.args.nodes.now c.args.row.first c.args.row.parent c.args.key.now c.in-Here.index slot c.requires.row c.requires.once c.requires.filled (sym c.seek.ensures ∙ c.in-Here.is) there, (put_filled c.args.nodes.now c.args.row.first c.args.row.parent c.args.key.now c.in-Here.index slot c.requires.row c.requires.once c.requires.filled (sym c.seek.ensures ∙ c.in-Here.is) there, c.requires.full)),
        ),
      ),
    )

pub returns-in_ok-leaf-in-None-split_first-clause-ok : goal.returns-in_ok-leaf-in-None-split_first-clause-ok
returns-in_ok-leaf-in-None-split_first-clause-ok t c =
    let slot = c.unwrap.result.now in
    let there : get c.args.nodes.now c.in-Here.index ≡ Some slot = search rules in
    put_here c.args.nodes.now c.args.row.first c.args.row.parent c.args.key.now c.in-Here.index slot c.requires.row c.requires.once c.requires.filled (sym c.seek.ensures ∙ c.in-Here.is) there
    c.content.new.nodes c.fell.new.self c.set_content.new.self c.in_ok-leaf-in-None-split_first.grown c.in_ok-leaf-in-None-split_first.leaf c.args.rest.now c.args.tree.now
    c.requires.full c.in-None-split_first.ensures.cases c.in_ok-leaf-in-None-split_first.ensures.grown c.fell.ensures
    c.in_ok-leaf-in-None-split_first.ensures.full c.in_ok-leaf-in-None-split_first.ensures.is
    c.set_content.ensures.written c.set_content.ensures.others c.set_content.ensures.len

pub returns-in_ok-below-in-Some-split_first-clause-ok : goal.returns-in_ok-below-in-Some-split_first-clause-ok
returns-in_ok-below-in-Some-split_first-clause-ok t c =
    let slot = c.unwrap.result.now in
    let there : get c.args.nodes.now c.in-Here.index ≡ Some slot = search rules in
    rw c.in-Some-split_first.ensures.cases.0
    (put_below c.args.nodes.now c.args.row.first c.args.row.parent c.args.key.now c.in-Here.index slot c.requires.row c.requires.once c.requires.filled (sym c.seek.ensures ∙ c.in-Here.is) there
    c.put_row.new.nodes c.set_content-in-Some-split_first.new.self c.in_ok-below-in-Some-split_first.below c.in-Some-split_first.key.now c.in-Some-split_first.rest.now c.args.tree.now
    c.requires.full c.in_ok-below-in-Some-split_first.ensures.ok
    c.set_content-in-Some-split_first.ensures.written c.set_content-in-Some-split_first.ensures.others c.set_content-in-Some-split_first.ensures.len)
