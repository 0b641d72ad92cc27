use Rattle.std.proofs.Common.{◌≡◌, ℕ, length, Some, None, true, false, is_some, sym, ap, subst, ◌∙◌, arith, rules}
use Rattle.slab.specs.Slab.{get}
use Rattle.rt_nodes.specs.Forest.{row_at, IsRow}
use Rattle.rt_nodes.specs.Changes.{Changed, without}
use Rattle.rt_store.specs.inside.Changes.{is_bare, cleared}
use Rattle.rt_store.proofs.Paths.{find_found, clear_filled}
use Rattle.rt_store.proofs.ClearRow.{clear_none, clear_none-changed, clear_there, clear_end, clear_leaf-row, clear_leaf-changed, clear_below, clear_place, clear_once, clear_out, clear_below-row, clear_below-changed}
use Rattle.rt_nodes.proofs.Near.{told_below}
use Rattle.rt_store.proofs.store.+clear_row.Goals as goal
use Rattle.rt_store.proofs.store.+clear_row.Goals.{in-Some-split_first+else-is_some+else-not-vanishes, in_default-split_first}

pub returns-in_default-clause-row : goal.returns-in_default-clause-row
returns-in_default-clause-row t c = clear_none c.args.nodes.now c.args.row.first c.args.key.now c.args.rest.now (sym c.find.ensures ∙ c.in_default.is)

pub returns-in_default-clause-changed : goal.returns-in_default-clause-changed
returns-in_default-clause-changed t c = clear_none-changed c.args.nodes.now c.args.row.first c.args.key.now c.args.rest.now (sym c.find.ensures ∙ c.in_default.is) c.requires.once

pub unwrap-slot-requires : goal.unwrap-slot-requires
unwrap-slot-requires t c =
    let found = find_found c.args.nodes.now c.args.row.first c.args.row.parent None (row_at c.args.nodes.now c.args.row.first) c.args.key.now c.in-Some.index c.requires.row c.requires.filled (sym c.find.ensures ∙ c.in-Some.is) in
    let there : get c.args.nodes.now c.in-Some.index ≡ Some found.slot = found.there in
    search (rules, there)

pub returns-then-is_some-clause-row : goal.returns-then-is_some-clause-row
returns-then-is_some-clause-row t c parent h =
    let slot = c.unwrap-slot.result.now in
    let there : get c.args.nodes.now c.in-Some.index ≡ Some slot = search rules in
    let leaf : is_some slot.value ≡ true = search rules in
    subst (λ p. IsRow c.args.nodes.now c.args.row.first parent None (cleared c.args.key.now p (row_at c.args.nodes.now c.args.row.first))) (sym c.in-Some-split_first.ensures.cases.0)
    (clear_leaf-row c.args.nodes.now c.args.row.first c.args.key.now c.in-Some.index (c.args.row.parent, c.requires.row) (sym c.find.ensures ∙ c.in-Some.is) c.requires.once slot there c.in-Some-split_first.child.now c.in-Some-split_first.rest.now c.requires.filled leaf parent h)

pub returns-then-is_some-clause-changed : goal.returns-then-is_some-clause-changed
returns-then-is_some-clause-changed t c =
    let slot = c.unwrap-slot.result.now in
    let there : get c.args.nodes.now c.in-Some.index ≡ Some slot = search rules in
    let leaf : is_some slot.value ≡ true = search rules in
    subst (λ p. Changed c.args.nodes.now c.args.nodes.now (row_at c.args.nodes.now c.args.row.first) (cleared c.args.key.now p (row_at c.args.nodes.now c.args.row.first))) (sym c.in-Some-split_first.ensures.cases.0)
    (clear_leaf-changed c.args.nodes.now c.args.row.first c.args.key.now c.in-Some.index (c.args.row.parent, c.requires.row) (sym c.find.ensures ∙ c.in-Some.is) c.requires.once slot there c.in-Some-split_first.child.now c.in-Some-split_first.rest.now c.requires.filled leaf)

pub vanishes-requires : goal.vanishes-requires
vanishes-requires t c =
    let there : get c.args.nodes.now c.in-Some.index ≡ Some c.unwrap-slot.result.now = search rules in
    clear_place c.args.nodes.now c.args.row.first c.args.key.now c.in-Some.index (c.args.row.parent, c.requires.row) (sym c.find.ensures ∙ c.in-Some.is) c.requires.once c.unwrap-slot.result.now there

pub clear_row-below-requires : goal.clear_row-below-requires
clear_row-below-requires t c =
    let slot = c.unwrap-slot.result.now in
    let there : get c.args.nodes.now c.in-Some.index ≡ Some slot = search rules in
    let filled = clear_filled c.args.nodes.now c.args.row.first c.args.row.parent c.args.key.now c.in-Some.index slot c.requires.row c.requires.filled (sym c.find.ensures ∙ c.in-Some.is) there in (
      omega (arith, c.decreases, ap length c.in-Some-split_first.ensures.cases.0),
      (
        clear_below c.args.nodes.now c.args.row.first c.args.key.now c.in-Some.index (c.args.row.parent, c.requires.row) (sym c.find.ensures ∙ c.in-Some.is) c.requires.once slot there,
        (
          told_below c.args.nodes.now c.args.row.first c.args.row.parent c.in-Some.index slot c.requires.told there,
          (
            clear_once c.args.nodes.now c.args.row.first c.args.key.now c.in-Some.index (c.args.row.parent, c.requires.row) (sym c.find.ensures ∙ c.in-Some.is) c.requires.once slot there,
            filled,
          ),
        ),
      ),
    )

pub returns-then-not-vanishes-clause-row : goal.returns-then-not-vanishes-clause-row
returns-then-not-vanishes-clause-row t c parent h =
    let slot = c.unwrap-slot.result.now in
    let there : get c.args.nodes.now c.in-Some.index ≡ Some slot = search rules in
    let leaf : is_some slot.value ≡ false = search rules in
    let left : is_bare (cleared c.in-Some-split_first.child.now c.in-Some-split_first.rest.now (row_at c.args.nodes.now slot.first_child)) ≡ false = search rules in
    subst (λ p. IsRow c.set_content.new.self c.args.row.first parent None (cleared c.args.key.now p (row_at c.args.nodes.now c.args.row.first))) (sym c.in-Some-split_first.ensures.cases.0)
    (clear_below-row c.args.nodes.now c.args.row.first c.args.key.now c.in-Some.index (c.args.row.parent, c.requires.row) (sym c.find.ensures ∙ c.in-Some.is) c.requires.once slot there c.in-Some-split_first.child.now c.in-Some-split_first.rest.now leaf left
    c.clear_row-below.new.nodes c.set_content.new.self c.clear_row-below.result c.clear_row-below.ensures.row c.clear_row-below.ensures.changed c.set_content.ensures.written c.set_content.ensures.others c.set_content.ensures.len parent h)

pub returns-then-not-vanishes-clause-changed : goal.returns-then-not-vanishes-clause-changed
returns-then-not-vanishes-clause-changed t c =
    let slot = c.unwrap-slot.result.now in
    let there : get c.args.nodes.now c.in-Some.index ≡ Some slot = search rules in
    let leaf : is_some slot.value ≡ false = search rules in
    let left : is_bare (cleared c.in-Some-split_first.child.now c.in-Some-split_first.rest.now (row_at c.args.nodes.now slot.first_child)) ≡ false = search rules in
    subst (λ p. Changed c.args.nodes.now c.set_content.new.self (row_at c.args.nodes.now c.args.row.first) (cleared c.args.key.now p (row_at c.args.nodes.now c.args.row.first))) (sym c.in-Some-split_first.ensures.cases.0)
    (clear_below-changed c.args.nodes.now c.args.row.first c.args.key.now c.in-Some.index (c.args.row.parent, c.requires.row) (sym c.find.ensures ∙ c.in-Some.is) c.requires.once slot there c.in-Some-split_first.child.now c.in-Some-split_first.rest.now leaf left
    c.clear_row-below.new.nodes c.set_content.new.self c.clear_row-below.result c.clear_row-below.ensures.row c.clear_row-below.ensures.changed c.set_content.ensures.written c.set_content.ensures.others c.set_content.ensures.len)

pub take_out-requires-clause-there : goal.take_out-requires-clause-there
take_out-requires-clause-there t c = clear_there c.args.nodes.now c.args.row.first c.args.key.now c.in-Some.index (c.args.row.parent, c.requires.row) (sym c.find.ensures ∙ c.in-Some.is)

-- where a node is taken out, its row without it is what is left
left : (t : ℕ) (c : goal.After-take_out t) → cleared c.args.key.now c.args.rest.now (row_at c.args.nodes.now c.args.row.first) ≡ without c.in-Some.index (row_at c.args.nodes.now c.args.row.first)
left t c = elim c.match-split_first.branch [
  | in-Some-split_first+else-is_some+else-not-vanishes w ↦
      let slot = c.unwrap-slot.result.now in
      let there : get c.args.nodes.now c.in-Some.index ≡ Some slot = search rules in
      let leaf : is_some slot.value ≡ false = search rules in
      let gone : is_bare (cleared w.in-Some-split_first.child.now w.in-Some-split_first.rest.now (row_at c.args.nodes.now slot.first_child)) ≡ true = search rules in
      ap (λ p. cleared c.args.key.now p (row_at c.args.nodes.now c.args.row.first)) w.in-Some-split_first.ensures.cases.0
      ∙ clear_out c.args.nodes.now c.args.row.first c.args.key.now c.in-Some.index (c.args.row.parent, c.requires.row) (sym c.find.ensures ∙ c.in-Some.is) c.requires.once slot there w.in-Some-split_first.child.now w.in-Some-split_first.rest.now leaf gone
  | in_default-split_first w ↦
      clear_end c.args.nodes.now c.args.row.first c.args.key.now c.in-Some.index (c.args.row.parent, c.requires.row) (sym c.find.ensures ∙ c.in-Some.is) c.requires.once c.args.rest.now w.in_default-split_first.ensures.cases
]

pub returns-clause-row : goal.returns-clause-row
returns-clause-row t c parent h = subst (IsRow c.take_out.new.self c.take_out.result parent None) (sym (left t c)) (c.take_out.ensures.row parent h)

pub returns-clause-changed : goal.returns-clause-changed
returns-clause-changed t c = subst (Changed c.args.nodes.now c.take_out.new.self (row_at c.args.nodes.now c.args.row.first)) (sym (left t c)) c.take_out.ensures.changed
