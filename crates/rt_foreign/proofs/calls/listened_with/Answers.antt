use Rattle.std.proofs.Common.{◌∙◌}
use Rattle.rt_foreign.specs.Reading.{listen_words}
use Rattle.rt_foreign.proofs.Texts.{query_found, query_lost}
use Rattle.rt_foreign.proofs.calls.listened_with.Goals as goal

pub returns-clause-ok : goal.returns-clause-ok
returns-clause-ok c =
    query_found c.listened.result c.as_str.result.now (listen_words c.args.path.now c.args.q.now)
    (c.as_str.ensures.value ∙ c.in_ok-text.ensures) c.listened.ensures.ok

pub returns-clause-fault : goal.returns-clause-fault
returns-clause-fault c =
    query_lost c.listened.result c.as_str.result.now (listen_words c.args.path.now c.args.q.now)
    (c.as_str.ensures.value ∙ c.in_ok-text.ensures) c.listened.ensures.fault
