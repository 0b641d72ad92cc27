use Rattle.std.proofs.Common.{◌≡◌, ◌+◌, Some, refl, sym, ◌∙◌, rules}
use Rattle.slab.specs.Slab.{get, slab_len}
use Rattle.rt_nodes.specs.Forest.{row_at}
use Rattle.rt_nodes.proofs.Taking.{not_there, out_place, out_once, out_row, out_changed, first_without}
use Rattle.rt_nodes.specs.Changes.{joined}
use Rattle.rt_nodes.proofs.Ranked.{ranked_there, ranked_fewer, ranked_mapped}
use Rattle.rt_nodes.proofs.nodes.take_out.Goals as goal

pub returns-in_default-clause-row : goal.returns-in_default-clause-row
returns-in_default-clause-row g c =
    absurd (not_there c.args.nodes.now c.args.first c.requires.head.0 (row_at c.args.nodes.now c.args.first) c.args.index c.requires.head.1 c.requires.there (sym c.try_remove.ensures.value ∙ c.in_default.is))

pub returns-in_default-clause-changed : goal.returns-in_default-clause-changed
returns-in_default-clause-changed g c =
    absurd (not_there c.args.nodes.now c.args.first c.requires.head.0 (row_at c.args.nodes.now c.args.first) c.args.index c.requires.head.1 c.requires.there (sym c.try_remove.ensures.value ∙ c.in_default.is))

pub fell-requires-clause-place : goal.fell-requires-clause-place
fell-requires-clause-place g c =
    let slot = c.in-Some.slot in
    let there : get c.args.nodes.now c.args.index ≡ Some slot = sym c.try_remove.ensures.value ∙ c.in-Some.is in
    let len : slab_len c.try_remove.new.self + 1 ≡ slab_len c.args.nodes.now = search rules in
    out_place c.args.nodes.now c.args.first c.requires.head.0 (row_at c.args.nodes.now c.args.first) c.args.index slot c.try_remove.new.self c.join.new.nodes c.requires.head.1 c.requires.once c.requires.there there c.try_remove.ensures.updates len c.join.ensures.each c.join.ensures.len

pub fell-requires-clause-once : goal.fell-requires-clause-once
fell-requires-clause-once g c =
    let slot = c.in-Some.slot in
    let there : get c.args.nodes.now c.args.index ≡ Some slot = sym c.try_remove.ensures.value ∙ c.in-Some.is in
    let len : slab_len c.try_remove.new.self + 1 ≡ slab_len c.args.nodes.now = search rules in
    out_once c.args.nodes.now c.args.first c.requires.head.0 (row_at c.args.nodes.now c.args.first) c.args.index slot c.try_remove.new.self c.join.new.nodes c.requires.head.1 c.requires.once c.requires.there there c.try_remove.ensures.updates len c.join.ensures.each c.join.ensures.len

pub returns-in-None-clause-row : goal.returns-in-None-clause-row
returns-in-None-clause-row g c parent h =
    let slot = c.in-Some.slot in
    let there : get c.args.nodes.now c.args.index ≡ Some slot = sym c.try_remove.ensures.value ∙ c.in-Some.is in
    let len : slab_len c.try_remove.new.self + 1 ≡ slab_len c.args.nodes.now = search rules in
    out_row c.args.nodes.now c.args.first parent (row_at c.args.nodes.now c.args.first) c.args.index slot c.try_remove.new.self c.join.new.nodes h c.requires.once c.requires.there there c.try_remove.ensures.updates len c.join.ensures.each c.join.ensures.len c.fell.new.nodes c.fell.ensures.felled c.in-Some.slot.next ((first_without c.args.nodes.now parent (row_at c.args.nodes.now c.args.first) c.args.index slot h.links c.requires.there there).0 c.in-None.is)

pub returns-in-None-clause-changed : goal.returns-in-None-clause-changed
returns-in-None-clause-changed g c =
    let slot = c.in-Some.slot in
    let there : get c.args.nodes.now c.args.index ≡ Some slot = sym c.try_remove.ensures.value ∙ c.in-Some.is in
    let len : slab_len c.try_remove.new.self + 1 ≡ slab_len c.args.nodes.now = search rules in
    out_changed c.args.nodes.now c.args.first c.requires.head.0 (row_at c.args.nodes.now c.args.first) c.args.index slot c.try_remove.new.self c.join.new.nodes c.requires.head.1 c.requires.once c.requires.there there c.try_remove.ensures.updates len c.join.ensures.each c.join.ensures.len c.fell.new.nodes c.fell.ensures.felled

pub returns-in-Some-previous-clause-row : goal.returns-in-Some-previous-clause-row
returns-in-Some-previous-clause-row g c parent h =
    let slot = c.in-Some.slot in
    let there : get c.args.nodes.now c.args.index ≡ Some slot = sym c.try_remove.ensures.value ∙ c.in-Some.is in
    let len : slab_len c.try_remove.new.self + 1 ≡ slab_len c.args.nodes.now = search rules in
    out_row c.args.nodes.now c.args.first parent (row_at c.args.nodes.now c.args.first) c.args.index slot c.try_remove.new.self c.join.new.nodes h c.requires.once c.requires.there there c.try_remove.ensures.updates len c.join.ensures.each c.join.ensures.len c.fell.new.nodes c.fell.ensures.felled c.args.first ((first_without c.args.nodes.now parent (row_at c.args.nodes.now c.args.first) c.args.index slot h.links c.requires.there there).1 c.in-Some-previous.field-0 c.in-Some-previous.is ∙ h.starts)

pub returns-in-Some-previous-clause-changed : goal.returns-in-Some-previous-clause-changed
returns-in-Some-previous-clause-changed g c =
    let slot = c.in-Some.slot in
    let there : get c.args.nodes.now c.args.index ≡ Some slot = sym c.try_remove.ensures.value ∙ c.in-Some.is in
    let len : slab_len c.try_remove.new.self + 1 ≡ slab_len c.args.nodes.now = search rules in
    out_changed c.args.nodes.now c.args.first c.requires.head.0 (row_at c.args.nodes.now c.args.first) c.args.index slot c.try_remove.new.self c.join.new.nodes c.requires.head.1 c.requires.once c.requires.there there c.try_remove.ensures.updates len c.join.ensures.each c.join.ensures.len c.fell.new.nodes c.fell.ensures.felled

pub remove-requires : goal.remove-requires
remove-requires g c =
    ranked_there c.args.nodes.now c.args.ranks.now c.args.index c.in-Some.slot c.requires.ranked (sym c.try_remove.ensures.value ∙ c.in-Some.is)

pub fell-requires-clause-ranked : goal.fell-requires-clause-ranked
fell-requires-clause-ranked g c =
    let there : get c.args.nodes.now c.args.index ≡ Some c.in-Some.slot = sym c.try_remove.ensures.value ∙ c.in-Some.is in
    ranked_mapped c.try_remove.new.self c.join.new.nodes c.remove.new.self (joined c.in-Some.slot.previous c.in-Some.slot.next) (λ n slot. refl) c.join.ensures.each
    (ranked_fewer c.args.nodes.now c.try_remove.new.self c.args.ranks.now c.remove.new.self c.args.index c.in-Some.slot there c.try_remove.ensures.updates c.remove.ensures c.requires.ranked)
