use Rattle.std.proofs.Common.{arith, ◌≡◌, ◌≤◌, ◌+◌}
use Rattle.std.specs.Option.{option_map}
use Rattle.rt_hub.specs.Lines.{bytes_for, bytes_in_all, line_of, told_more}
use Rattle.rt_hub.proofs.Totals.{bytes_change, bytes_fewer, bytes_within, over_goes}
use Rattle.rt_hub.proofs.lines.Waiting.check_one.Goals as goal

pub overflow_sub-self : goal.overflow_sub-self
overflow_sub-self c =
    let n = c.args.connection in
    let old = c.self.inside.lines.items in
    let new = c.check_one.new.lines.items in
    let fewer : bytes_for (line_of new n) ≤ bytes_for (line_of old n) =
    bytes_fewer (option_map (told_more c.args.bounds)) n old new (over_goes c.args.bounds) c.check_one.ensures in
    omega (arith, fewer, c.bytes_of-had.ensures, c.bytes_of-has.ensures)

pub overflow_sub-self-2 : goal.overflow_sub-self-2
overflow_sub-self-2 c =
    let old = c.self.inside.lines.items in
    let within : bytes_for (line_of old c.args.connection) ≤ bytes_in_all old = bytes_within c.args.connection old in
    omega (arith, c.self.invariant, within, c.bytes_of-had.ensures)

pub invariant_of-self : goal.invariant_of-self
invariant_of-self c =
    let n = c.args.connection in
    let old = c.self.inside.lines.items in
    let new = c.check_one.new.lines.items in
    let fewer : bytes_for (line_of new n) ≤ bytes_for (line_of old n) =
    bytes_fewer (option_map (told_more c.args.bounds)) n old new (over_goes c.args.bounds) c.check_one.ensures in
    let change : bytes_in_all new + bytes_for (line_of old n) ≡ bytes_in_all old + bytes_for (line_of new n) =
    bytes_change (option_map (told_more c.args.bounds)) n old new c.check_one.ensures in
    omega (arith, c.self.invariant, fewer, change, c.bytes_of-had.ensures, c.bytes_of-has.ensures)
