use Rattle.std.proofs.Common.{◌∙◌}
use Rattle.rt_foreign.specs.Reading.{update_words}
use Rattle.rt_foreign.proofs.Texts.{line_fault, line_read}
use Rattle.rt_foreign.proofs.calls.update_call.Goals as goal

pub returns-clause-ok : goal.returns-clause-ok
returns-clause-ok c =
    line_read c.line_call.result c.as_slice.result.now (update_words c.args.entries.now)
    (c.as_slice.ensures.value ∙ c.in_ok-line.ensures) c.line_call.ensures.ok

pub returns-clause-fault : goal.returns-clause-fault
returns-clause-fault c =
    line_fault c.line_call.result c.as_slice.result.now (update_words c.args.entries.now)
    (c.as_slice.ensures.value ∙ c.in_ok-line.ensures) c.line_call.ensures.fault
