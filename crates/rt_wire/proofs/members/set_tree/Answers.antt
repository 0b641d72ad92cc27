use Rattle.std.proofs.Common.{ap, ◌∙◌}
use Rattle.rt_tree.proofs.Standing.{tree_of_data-data_of}
use Rattle.rt_wire.specs.inside.Writing.{lent_members}
use Rattle.rt_wire.proofs.Lent.{lent-insert_entry}
use Rattle.rt_wire.proofs.members.set_tree.Goals as goal

pub returns-clause-put : goal.returns-clause-put
returns-clause-put c = ap lent_members c.in_ok-insert.ensures.entries ∙ lent-insert_entry c.args.trees.now.entries c.args.name c.args.tree

pub returns-clause-standing : goal.returns-clause-standing
returns-clause-standing c = record { allowed = c.children-allowed.ensures.allowed; back = tree_of_data-data_of c.args.tree.now c.children-allowed.ensures.allowed }
