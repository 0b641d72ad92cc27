use Rattle.std.proofs.Common.{drop, take}
use Rattle.std.specs.List.{AllByRecursion}
use Rattle.json.specs.Written.{Written}
use Rattle.rt_wire.specs.ServerData.{part_items}
use Rattle.rt_wire.specs.inside.StandingServer.{IsStandingPart}
use Rattle.rt_wire.specs.inside.Writing.{PutsItems}
use Rattle.rt_wire.proofs.parts.write_parts.Given as goal

-- whatever follows the parts so far follows all of them
abbrev pub invariant-loop-part : goal.invariant-loop-part
invariant-loop-part l =
    ((end : Written) → PutsItems (part_items (drop l.part-index l.parts)) l.out end → PutsItems (part_items l.parts) l.initial.out end)
    × AllByRecursion IsStandingPart (take l.part-index l.parts)
