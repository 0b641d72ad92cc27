use Rattle.std.proofs.Common.{◌≡◌, ◌≢◌, Some, None, subst, arith, rules}
use Rattle.slab.specs.Slab.{get}
use Rattle.rt_nodes.specs.Forest.{row_at}
use Rattle.rt_nodes.specs.Walks.{IsPlace}
use Rattle.rt_nodes.proofs.Reached.{not_nowhere}
use Rattle.rt_forms.proofs.GatherLaws.{gathering_all, under_place, under_smaller, fewer_left, gathering_next, gathered}
use Rattle.rt_forms.proofs.forms.+gather_row.Goals as goal

pub loop-next-init : goal.loop-next-init
loop-next-init t c = gathering_all c.args.nodes.now c.args.first c.args.numbers.now.items c.requires

pub unwrap-slot-requires : goal.unwrap-slot-requires
unwrap-slot-requires t c =
    let s = c.args.nodes.now in
    let there : get s c.in-Some.index ≢ None = λ none. not_nowhere s c.in-Some.index (subst (IsPlace s) c.in-Some.is c.loop-next.invariant.place) none in
    search (rules, there)

pub gather_row-requires : goal.gather_row-requires
gather_row-requires t c =
    let f = row_at c.args.nodes.now c.args.first in
    let slot = c.unwrap-slot.result.now in
    let there : get c.args.nodes.now c.in-Some.index ≡ Some slot = search rules in (
      omega (arith, c.decreases, under_smaller c.args.nodes.now f c.args.numbers.now.items c.loop-next.numbers.items c.loop-next.next c.in-Some.index slot c.loop-next.invariant c.in-Some.is there),
      under_place c.args.nodes.now f c.args.numbers.now.items c.loop-next.numbers.items c.loop-next.next c.in-Some.index slot c.loop-next.invariant c.in-Some.is there,
    )

pub loop-next-smaller : goal.loop-next-smaller
loop-next-smaller t c =
    let slot = c.unwrap-slot.result.now in
    let there : get c.args.nodes.now c.in-Some.index ≡ Some slot = search rules in
    fewer_left c.args.nodes.now (row_at c.args.nodes.now c.args.first) c.args.numbers.now.items c.loop-next.numbers.items c.loop-next.next c.in-Some.index slot c.loop-next.invariant c.in-Some.is there

pub loop-next-preserved : goal.loop-next-preserved
loop-next-preserved t c =
    let slot = c.unwrap-slot.result.now in
    let there : get c.args.nodes.now c.in-Some.index ≡ Some slot = search rules in
    gathering_next c.args.nodes.now (row_at c.args.nodes.now c.args.first) c.args.numbers.now.items c.loop-next.numbers.items c.loop-next.next c.in-Some.index slot c.loop-next.invariant c.in-Some.is there
    c.gather.new.numbers.items c.gather_row.new.numbers.items c.in_ok-gather.ensures c.in_ok-gather_row.ensures

pub returns : goal.returns
returns t c =
    let end : c.loop-next.next ≡ None = search rules in
    gathered c.args.nodes.now (row_at c.args.nodes.now c.args.first) c.args.numbers.now.items c.loop-next.numbers.items c.loop-next.next c.loop-next.invariant end
