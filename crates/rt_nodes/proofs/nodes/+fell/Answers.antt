use Rattle.std.proofs.Common.{◌≡◌, ◌+◌, ◌<◌, ◌≤◌, ℕ, Some, None, sym, ◌∙◌, rules}
use Rattle.slab.specs.Slab.{get, slab_len}
use Rattle.rt_nodes.specs.Forest.{row_at, size, times}
use Rattle.rt_nodes.specs.Walks.{IsPlace}
use Rattle.rt_nodes.specs.inside.Ranks.{IsRanked}
use Rattle.rt_nodes.proofs.Felling.{felling_all, felled_all, not_lost, fell_place, fell_once, fell_smaller, felling_next, fewer_next}
use Rattle.rt_nodes.proofs.Ranked.{ranked_there, ranked_fewer}
use Rattle.rt_nodes.proofs.nodes.+fell.Goals as goal

pub loop-next-init : goal.loop-next-init
loop-next-init g t c = (felling_all c.args.nodes.now c.args.first c.requires.place c.requires.once, c.requires.ranked)

pub returns-in_default-try_remove : goal.returns-in_default-try_remove
returns-in_default-try_remove g t c =
    absurd (not_lost c.args.nodes.now (row_at c.args.nodes.now c.args.first) c.loop-next.nodes c.loop-next.next c.in-Some.index c.loop-next.invariant.0 c.in-Some.is
    (sym c.try_remove.ensures.value ∙ c.in_default-try_remove.is))

pub fell-requires : goal.fell-requires
fell-requires g t c =
    let f = row_at c.args.nodes.now c.args.first in
    let slot = c.in-Some-try_remove.slot in
    let there : get c.loop-next.nodes c.in-Some.index ≡ Some slot = sym c.try_remove.ensures.value ∙ c.in-Some-try_remove.is in
    let len : slab_len c.try_remove.new.self + 1 ≡ slab_len c.loop-next.nodes = search rules in
    let smaller : size (row_at c.try_remove.new.self slot.first_child) < size f =
    fell_smaller c.args.nodes.now f c.loop-next.nodes c.loop-next.next c.in-Some.index slot c.try_remove.new.self c.loop-next.invariant.0 c.in-Some.is there c.try_remove.ensures.updates len in
    let place : IsPlace c.try_remove.new.self slot.first_child =
    fell_place c.args.nodes.now f c.loop-next.nodes c.loop-next.next c.in-Some.index slot c.try_remove.new.self c.loop-next.invariant.0 c.in-Some.is there c.try_remove.ensures.updates len in
    let once : (n : ℕ) → times n (row_at c.try_remove.new.self slot.first_child) ≤ 1 =
    fell_once c.args.nodes.now f c.loop-next.nodes c.loop-next.next c.in-Some.index slot c.try_remove.new.self c.loop-next.invariant.0 c.in-Some.is there c.try_remove.ensures.updates len in
    let ranked : IsRanked c.try_remove.new.self c.remove.new.self =
    ranked_fewer c.loop-next.nodes c.try_remove.new.self c.loop-next.ranks c.remove.new.self c.in-Some.index slot there c.try_remove.ensures.updates c.remove.ensures c.loop-next.invariant.1 in
    search (rules, smaller, place, once, ranked)

pub loop-next-smaller : goal.loop-next-smaller
loop-next-smaller g t c =
    let f = row_at c.args.nodes.now c.args.first in
    let slot = c.in-Some-try_remove.slot in
    let there : get c.loop-next.nodes c.in-Some.index ≡ Some slot = sym c.try_remove.ensures.value ∙ c.in-Some-try_remove.is in
    let len : slab_len c.try_remove.new.self + 1 ≡ slab_len c.loop-next.nodes = search rules in
    fewer_next c.args.nodes.now f c.loop-next.nodes c.loop-next.next c.in-Some.index slot c.try_remove.new.self c.loop-next.invariant.0 c.in-Some.is there c.try_remove.ensures.updates len c.fell.new.nodes c.fell.ensures.felled

pub loop-next-preserved : goal.loop-next-preserved
loop-next-preserved g t c =
    let f = row_at c.args.nodes.now c.args.first in
    let slot = c.in-Some-try_remove.slot in
    let there : get c.loop-next.nodes c.in-Some.index ≡ Some slot = sym c.try_remove.ensures.value ∙ c.in-Some-try_remove.is in
    let len : slab_len c.try_remove.new.self + 1 ≡ slab_len c.loop-next.nodes = search rules in
    (felling_next c.args.nodes.now f c.loop-next.nodes c.loop-next.next c.in-Some.index slot c.try_remove.new.self c.loop-next.invariant.0 c.in-Some.is there c.try_remove.ensures.updates len c.fell.new.nodes c.fell.ensures.felled, c.fell.ensures.ranked)

pub remove-requires : goal.remove-requires
remove-requires g t c =
    ranked_there c.loop-next.nodes c.loop-next.ranks c.in-Some.index c.in-Some-try_remove.slot c.loop-next.invariant.1 (sym c.try_remove.ensures.value ∙ c.in-Some-try_remove.is)

pub returns : goal.returns
returns g t c =
    let end : c.loop-next.next ≡ None = search rules in
    record { felled = felled_all c.args.nodes.now (row_at c.args.nodes.now c.args.first) c.loop-next.nodes c.loop-next.next c.loop-next.invariant.0 end; ranked = c.loop-next.invariant.1 }
