use Rattle.std.proofs.Common.{◌∙◌}
use Rattle.rt_nodes.proofs.Reached.{row_at-none}
use Rattle.rt_forms.specs.inside.Trees.{seen}
use Rattle.rt_forms.proofs.AddLaws.{seen_empty}
use Rattle.rt_forms.proofs.forms.Forms.new.Goals as goal

pub returns-clause-none : goal.returns-clause-none
returns-clause-none c q = (λ i. seen q q.path (c.new.ensures i) (row_at-none c.new-2.result i)) ∙ seen_empty q q.path
