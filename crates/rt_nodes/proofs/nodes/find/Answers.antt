use Rattle.std.proofs.Common.{None, sym, ap, ◌∙◌}
use Rattle.rt_nodes.specs.Forest.{row_at}
use Rattle.rt_nodes.proofs.Paths.{here, index_spot}
use Rattle.rt_nodes.proofs.nodes.find.Goals as goal

pub returns-in-Here : goal.returns-in-Here
returns-in-Here g c = sym (index_spot c.args.key.now None (row_at c.args.nodes.now c.args.row.first) ∙ ap here (sym c.seek.ensures ∙ c.in-Here.is))

pub returns-in-Gap : goal.returns-in-Gap
returns-in-Gap g c = sym (index_spot c.args.key.now None (row_at c.args.nodes.now c.args.row.first) ∙ ap here (sym c.seek.ensures ∙ c.in-Gap.is))
