use Rattle.std.proofs.Common.{◌≡◌}
use Rattle.std.specs.Vec.Iter.{into_iter_items}
use Rattle.rt_lines.specs.Drafts.{drafted}
use Rattle.rt_lines.specs.inside.FormView.{as_calls}
use Rattle.rt_lines.proofs.call.make_all.Given as goal

abbrev pub invariant-loop-call : goal.invariant-loop-call
invariant-loop-call l = drafted (as_calls l.fn.calls.items) l.fn.draft ≡ drafted (as_calls (into_iter_items l.call-iterator)) l.draft
