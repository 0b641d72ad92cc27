use Rattle.std.proofs.Common.{◌≡◌, ◌<◌, ◌≤◌, ◌&&◌, ℕ, List, length, get_or, rules, ap, ◌∙◌}
use Rattle.std.specs.List.{list_any}
use Rattle.rt_query.specs.Queries.{Query}
use Rattle.rt_cache.specs.Brought.{may_move}
use Rattle.rt_sync.proofs.Lists.{taken_all}
use Rattle.rt_sync.proofs.MovingLaws.{any_step}
use Rattle.rt_sync.proofs.steps.losses.movers.Goals as goal

pub loop-form-init : goal.loop-form-init
loop-form-init c = λ t. ap (list_any t) c.new-movers.ensures.items

pub loop-form-preserved : goal.loop-form-preserved
loop-form-preserved c = λ t.
    let fs : List Query = c.args.ended.now in
    let i : ℕ = c.loop-form.form-index in
    let f : Query = c.form-item.result in
    let within : i < length fs = search rules in
    let at : f ≡ get_or fs i f = search rules in
    any_step (λ (x : Query). may_move c.args.brought.now x && t x) fs i f
    (list_any t c.loop-form.movers.items) (list_any t c.push_mover.new.movers.items) within at (c.loop-form.invariant t) (c.in_ok-push_mover.ensures t)

pub returns : goal.returns
returns c = λ t.
    let done : length c.args.ended.now ≤ c.loop-form.form-index = search rules in
    c.loop-form.invariant t ∙ ap (list_any (λ (x : Query). may_move c.args.brought.now x && t x)) (taken_all c.loop-form.form-index c.args.ended.now done)
