use Rattle.std.proofs.Common.{arith, ◌≡◌, ◌≤◌, ◌+◌, ap, ◌∙◌}
use Rattle.rt_hub.specs.Hubs.{left_line}
use Rattle.rt_hub.specs.Lines.{bytes_for, bytes_in_all, line_of}
use Rattle.rt_hub.proofs.Totals.{bytes_change, bytes_within, left_goes, own_line}
use Rattle.rt_hub.proofs.lines.Waiting.leave_line.Goals as goal

pub overflow_sub-self : goal.overflow_sub-self
overflow_sub-self c =
    let old = c.self.inside.lines.items in
    let within : bytes_for (line_of old c.args.connection) ≤ bytes_in_all old = bytes_within c.args.connection old in
    omega (arith, c.self.invariant, within, c.bytes_of-waits.ensures)

pub invariant_of-self : goal.invariant_of-self
invariant_of-self c =
    let n = c.args.connection in
    let old = c.self.inside.lines.items in
    let new = c.leave_line.new.lines.items in
    let change : bytes_in_all new + bytes_for (line_of old n) ≡ bytes_in_all old + bytes_for (line_of new n) =
    bytes_change (left_line c.args.has_ended) n old new c.leave_line.ensures in
    let none : bytes_for (line_of new n) ≡ 0 =
    ap bytes_for (own_line (left_line c.args.has_ended) n old new c.leave_line.ensures)
    ∙ left_goes c.args.has_ended (line_of old n) in
    omega (arith, c.self.invariant, change, none, c.bytes_of-waits.ensures)
