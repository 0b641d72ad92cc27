use Rattle.std.proofs.Common.{arith, ◌≡◌, ◌≤◌, ◌+◌}
use Rattle.rt_hub.specs.Lines.{bytes_for, bytes_in_all, line_of, without_first}
use Rattle.rt_hub.proofs.Totals.{bytes_change, bytes_fewer, bytes_within, first_goes}
use Rattle.rt_hub.proofs.lines.Waiting.next_of.Goals as goal

pub overflow_sub-self : goal.overflow_sub-self
overflow_sub-self c =
    let n = c.args.connection in
    let old = c.self.inside.lines.items in
    let new = c.next_of-text.new.lines.items in
    let fewer : bytes_for (line_of new n) ≤ bytes_for (line_of old n) =
    bytes_fewer without_first n old new first_goes c.next_of-text.ensures.rest in
    omega (arith, fewer, c.bytes_of-before.ensures, c.bytes_of-after.ensures)

pub overflow_sub-self-2 : goal.overflow_sub-self-2
overflow_sub-self-2 c =
    let old = c.self.inside.lines.items in
    let within : bytes_for (line_of old c.args.connection) ≤ bytes_in_all old = bytes_within c.args.connection old in
    omega (arith, c.self.invariant, within, c.bytes_of-before.ensures)

pub invariant_of-self : goal.invariant_of-self
invariant_of-self c =
    let n = c.args.connection in
    let old = c.self.inside.lines.items in
    let new = c.next_of-text.new.lines.items in
    let fewer : bytes_for (line_of new n) ≤ bytes_for (line_of old n) =
    bytes_fewer without_first n old new first_goes c.next_of-text.ensures.rest in
    let change : bytes_in_all new + bytes_for (line_of old n) ≡ bytes_in_all old + bytes_for (line_of new n) =
    bytes_change without_first n old new c.next_of-text.ensures.rest in
    omega (arith, c.self.invariant, fewer, change, c.bytes_of-before.ensures, c.bytes_of-after.ensures)
