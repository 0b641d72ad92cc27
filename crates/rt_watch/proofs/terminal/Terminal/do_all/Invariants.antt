use Rattle.std.proofs.Common.{◌≡◌, ℕ, List, length, map}
use Rattle.rt_lines.specs.inside.Appending.{Appends}
use Rattle.rt_watch.specs.Queued.{items_of}
use Rattle.rt_watch.specs.Watching.{bad_with, numbered}
use Rattle.rt_watch.proofs.Printed.{ArePrinting}
use Rattle.rt_watch.proofs.terminal.Terminal.do_all.Given as goal

-- as many lines are bad as among those that were done and those that are left, those that were done were
-- printed, and they are numbered on
abbrev pub invariant-lines : goal.invariant-lines
invariant-lines g l =
    (bad_with (map items_of l.fn.lines.items) l.fn.self.bad_lines
    ≡ bad_with (map items_of l.lines.items) l.self.bad_lines)
    × ((text : List ℕ) × Appends l.fn.self.printed l.self.printed text
    × ArePrinting (map items_of l.fn.lines.items) l.fn.self.number l.fn.self.seats.items text
    (map items_of l.lines.items) l.self.number l.self.seats.items)
    × (numbered (map items_of l.fn.lines.items) l.fn.self.number
    ≡ numbered (map items_of l.lines.items) l.self.number)
    × (l.self.has_ended ≡ l.fn.self.has_ended)

abbrev pub decreases-lines : goal.decreases-lines
decreases-lines g l = length l.lines.items
