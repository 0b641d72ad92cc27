-- What may be handed to a thread.
use denote.Param.Send.{IsSend}
use Rattle.rt_tree.specs.contracts.tree.Tree as tree

-- a tree
abbrev pub TreeIsSent : Type 0
TreeIsSent = IsSend tree.the_row
