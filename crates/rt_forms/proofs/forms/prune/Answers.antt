use Rattle.std.proofs.Common.{rules, ◌≡◌, ◌≢◌, ◌<◌, Some, None, cond, sym, ap, subst, ◌∙◌}
use Rattle.slab.specs.Slab.{get}
use Rattle.rt_nodes.specs.Forest.{row_at, IsRow}
use Rattle.rt_nodes.specs.Changes.{Changed, without}
use Rattle.rt_nodes.proofs.Taking.{not_there}
use Rattle.rt_nodes.proofs.Growing.{same_changed}
use Rattle.rt_forms.proofs.LessLaws.{some_true}
use Rattle.rt_forms.proofs.LeaveLaws.{prune_cases, none_true}
use Rattle.rt_forms.proofs.forms.prune.Goals as goal

pub unwrap-requires : goal.unwrap-requires
unwrap-requires c =
    let there : get c.args.nodes.now c.args.index ≢ None = λ none. not_there c.args.nodes.now c.args.first c.requires.head.0 (row_at c.args.nodes.now c.args.first) c.args.index c.requires.head.1 c.requires.there none in
    search (rules, there)

pub returns-then-count-gt0-clause-row : goal.returns-then-count-gt0-clause-row
returns-then-count-gt0-clause-row c parent h =
    let s = c.args.nodes.now in
    let f = row_at s c.args.first in
    let slot = c.unwrap.result.now in
    let there : get s c.args.index ≡ Some slot = search rules in
    let some : 0 < slot.value.count = search rules in
    subst (IsRow s c.args.first parent None) (sym (prune_cases s c.requires.head.0 None f c.args.index slot (c.requires.head.1).links c.requires.there there
    ∙ ap (λ b. cond b f (without c.args.index f)) (some_true slot.value.count some))) h

pub returns-then-count-gt0-clause-changed : goal.returns-then-count-gt0-clause-changed
returns-then-count-gt0-clause-changed c =
    let s = c.args.nodes.now in
    let f = row_at s c.args.first in
    let slot = c.unwrap.result.now in
    let there : get s c.args.index ≡ Some slot = search rules in
    let some : 0 < slot.value.count = search rules in
    subst (Changed s s f) (sym (prune_cases s c.requires.head.0 None f c.args.index slot (c.requires.head.1).links c.requires.there there
    ∙ ap (λ b. cond b f (without c.args.index f)) (some_true slot.value.count some))) (same_changed s f c.requires.once)

pub returns-clause-row : goal.returns-clause-row
returns-clause-row c parent h =
    let s = c.args.nodes.now in
    let f = row_at s c.args.first in
    let slot = c.unwrap.result.now in
    let there : get s c.args.index ≡ Some slot = search rules in
    let none : slot.value.count ≡ 0 = search rules in
    subst (IsRow c.take_out.new.self c.take_out.result parent None) (sym (prune_cases s c.requires.head.0 None f c.args.index slot (c.requires.head.1).links c.requires.there there
    ∙ ap (λ b. cond b f (without c.args.index f)) (none_true slot.value.count none))) (c.take_out.ensures.row parent h)

pub returns-clause-changed : goal.returns-clause-changed
returns-clause-changed c =
    let s = c.args.nodes.now in
    let f = row_at s c.args.first in
    let slot = c.unwrap.result.now in
    let there : get s c.args.index ≡ Some slot = search rules in
    let none : slot.value.count ≡ 0 = search rules in
    subst (Changed s c.take_out.new.self f) (sym (prune_cases s c.requires.head.0 None f c.args.index slot (c.requires.head.1).links c.requires.there there
    ∙ ap (λ b. cond b f (without c.args.index f)) (none_true slot.value.count none))) c.take_out.ensures.changed
