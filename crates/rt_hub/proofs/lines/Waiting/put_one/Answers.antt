use Rattle.std.proofs.Common.{arith, ◌≡◌, ◌≤◌, ◌+◌}
use Rattle.rt_hub.specs.Lines.{bytes_for, bytes_in_all, line_of}
use Rattle.rt_hub.proofs.Totals.{bytes_put, bytes_within}
use Rattle.rt_hub.proofs.lines.Waiting.put_one.Goals as goal

pub overflow_sub-others : goal.overflow_sub-others
overflow_sub-others c =
    let old = c.self.inside.lines.items in
    let within : bytes_for (line_of old c.args.one.now.to) ≤ bytes_in_all old = bytes_within c.args.one.now.to old in
    omega (arith, c.self.invariant, within, c.bytes_of-had.ensures)

pub invariant_of-self : goal.invariant_of-self
invariant_of-self c =
    let n = c.args.one.now.to in
    let old = c.self.inside.lines.items in
    let new = c.put_one.new.lines.items in
    let within : bytes_for (line_of old n) ≤ bytes_in_all old = bytes_within n old in
    let change : bytes_in_all new + bytes_for (line_of old n) ≡ bytes_in_all old + bytes_for (line_of new n) =
    bytes_put c.args.one.now old new c.in-Ok.ensures in
    omega (arith, c.self.invariant, within, change, c.bytes_of-had.ensures, c.bytes_of-has.ensures)
