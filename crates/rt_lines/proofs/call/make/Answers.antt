use Rattle.std.proofs.Common.{◌∙◌, ap}
use Rattle.std.specs.Option.{option_copied}
use Rattle.serde_json.specs.View.{view as data_of}
use Rattle.rt_lines.specs.Drafts.{called}
use Rattle.rt_lines.specs.inside.FormView.{as_call}
use Rattle.rt_lines.proofs.Faults.{bound_called}
use Rattle.rt_lines.proofs.call.make.Goals as goal

pub returns-in_ok-set_bound-in-Bound-clause-ok : goal.returns-in_ok-set_bound-in-Bound-clause-ok
returns-in_ok-set_bound-in-Bound-clause-ok c =
    ap (λ call. called (as_call call) c.args.draft.now) c.in-Bound.is
    ∙ bound_called c.in-Bound.bound (data_of c.in-Bound.value.now) (option_copied c.in-Bound.key) c.args.draft.now c.set_bound.new.draft c.in_ok-mark_of-in-Bound.field-0 c.in_ok-set_bound-in-Bound.field-0 c.in_ok-mark_of-in-Bound.ensures.ok c.in_ok-set_bound-in-Bound.ensures.refused c.in_ok-set_bound-in-Bound.ensures.made
