use Rattle.std.proofs.Common.{None, Some}
use Rattle.serde_json.specs.View.{view}
use Rattle.rt_foreign.specs.Reading.{asked_read, filtered_read}
use Rattle.rt_foreign.proofs.Texts.{asked_found, asked_lost, filtered_is}
use Rattle.rt_foreign.proofs.calls.filtered.Goals as goal

pub returns-in-Some-clause-ok : goal.returns-in-Some-clause-ok
returns-in-Some-clause-ok c =
    asked_found c.ordered.result (filtered_read c.args.path.now c.args.q.now)
    (asked_read c.in_ok-path.path.now c.in_ok-q.q.now (Some c.in-Some.order.now))
    (filtered_is c.args.path.now c.args.q.now c.in_ok-path.path.now c.in_ok-q.q.now (view c.in_ok-json.json)
    (Some c.in-Some.order.now) c.in_ok-path.ensures.same c.in_ok-q.ensures.ok c.in_ok-json.ensures.ok c.in-Some.ensures)
    c.ordered.ensures.ok

pub returns-in-Some-clause-fault : goal.returns-in-Some-clause-fault
returns-in-Some-clause-fault c =
    asked_lost c.ordered.result (filtered_read c.args.path.now c.args.q.now)
    (asked_read c.in_ok-path.path.now c.in_ok-q.q.now (Some c.in-Some.order.now))
    (filtered_is c.args.path.now c.args.q.now c.in_ok-path.path.now c.in_ok-q.q.now (view c.in_ok-json.json)
    (Some c.in-Some.order.now) c.in_ok-path.ensures.same c.in_ok-q.ensures.ok c.in_ok-json.ensures.ok c.in-Some.ensures)
    c.ordered.ensures.fault

pub returns-clause-ok : goal.returns-clause-ok
returns-clause-ok c =
    asked_found c.listened_with.result (filtered_read c.args.path.now c.args.q.now)
    (asked_read c.in_ok-path.path.now c.in_ok-q.q.now None)
    (filtered_is c.args.path.now c.args.q.now c.in_ok-path.path.now c.in_ok-q.q.now (view c.in_ok-json.json)
    None c.in_ok-path.ensures.same c.in_ok-q.ensures.ok c.in_ok-json.ensures.ok c.in-None.ensures)
    c.listened_with.ensures.ok

pub returns-clause-fault : goal.returns-clause-fault
returns-clause-fault c =
    asked_lost c.listened_with.result (filtered_read c.args.path.now c.args.q.now)
    (asked_read c.in_ok-path.path.now c.in_ok-q.q.now None)
    (filtered_is c.args.path.now c.args.q.now c.in_ok-path.path.now c.in_ok-q.q.now (view c.in_ok-json.json)
    None c.in_ok-path.ensures.same c.in_ok-q.ensures.ok c.in_ok-json.ensures.ok c.in-None.ensures)
    c.listened_with.ensures.fault
