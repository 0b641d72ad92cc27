use Rattle.std.proofs.Common.{◌+◌, ◌≤◌, length, ap, arith, rules}
use Rattle.rt_tree.specs.PathTree.{levels}
use Rattle.rt_writes.proofs.entries.put_copy.Goals as goal

pub unreachable-requires : goal.unreachable-requires
unreachable-requires c =
    let fits : length c.in_ok-path.path + levels c.in_ok-part.part ≤ 33 =
    omega (arith, ap length c.in_ok-path.ensures, ap levels c.in_ok-part.ensures, c.requires.shallow) in
    search rules
