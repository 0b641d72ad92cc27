use Rattle.std.proofs.Common.{◌≡◌, ◌<◌, ◌≤◌, ◌&&◌, ℕ, List, length, get_or, rules, ap, ◌∙◌}
use Rattle.std.specs.List.{list_any}
use Rattle.rt_query.specs.QueryEq.{query_eq}
use Rattle.rt_cache.specs.Recover.{is_among}
use Rattle.rt_sync.specs.declared.steps.losses.Had.{Had}
use Rattle.rt_sync.specs.inside.Moving.{is_moved_now}
use Rattle.rt_sync.proofs.Lists.{taken_all}
use Rattle.rt_sync.proofs.MovingLaws.{any_step}
use Rattle.rt_sync.proofs.steps.losses.moved.Goals as goal

pub loop-one-init : goal.loop-one-init
loop-one-init c = λ q. ap (λ qs. is_among qs q) c.new-moved.ensures.items

pub loop-one-preserved : goal.loop-one-preserved
loop-one-preserved c = λ q.
    let i : ℕ = c.loop-one.one-index in
    let x : Had = c.one-item.result in
    let within : i < length c.args.had.now = search rules in
    let at : x ≡ get_or c.args.had.now i x = search rules in
    any_step (λ (h : Had). query_eq h.query q && is_moved_now c.args.brought.now c.args.had.now h) c.args.had.now i x
    (is_among c.loop-one.moved.items q) (is_among c.push_moved.new.moved.items q) within at (c.loop-one.invariant q) (c.in_ok-push_moved.ensures q)

pub returns : goal.returns
returns c = λ q.
    let done : length c.args.had.now ≤ c.loop-one.one-index = search rules in
    c.loop-one.invariant q
    ∙ ap (λ (hs : List Had). list_any (λ (h : Had). query_eq h.query q && is_moved_now c.args.brought.now c.args.had.now h) hs) (taken_all c.loop-one.one-index c.args.had.now done)
