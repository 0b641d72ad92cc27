use Rattle.std.proofs.Common.{◌+◌, ◌≤◌, length, ap, arith, rules}
use Rattle.rt_tree.specs.PathTree.{levels}
use Rattle.rt_peer.proofs.views.put_entry.Goals as goal

pub unreachable-requires : goal.unreachable-requires
unreachable-requires c =
    let fits : length c.args.path.now + levels c.in_ok-entry.entry ≤ 33 =
    omega (arith, ap levels c.in_ok-entry.ensures, c.requires) in
    search rules
