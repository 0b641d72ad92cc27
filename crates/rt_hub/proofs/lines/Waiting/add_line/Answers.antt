use Rattle.std.proofs.Common.{arith, ◌≡◌, ◌+◌, ap, ◌∙◌, Some}
use Rattle.rt_hub.specs.Lines.{bytes_for, bytes_in_all, empty_line, line_of}
use Rattle.rt_hub.proofs.Totals.{bytes_change, own_line}
use Rattle.rt_hub.proofs.lines.Waiting.add_line.Goals as goal

pub invariant_of-self : goal.invariant_of-self
invariant_of-self c =
    let n = c.args.connection in
    let old = c.self.inside.lines.items in
    let new = c.add_line.new.lines.items in
    let change : bytes_in_all new + bytes_for (line_of old n) ≡ bytes_in_all old + bytes_for (line_of new n) =
    bytes_change (λ l. Some empty_line) n old new c.in-Ok.ensures in
    let none : bytes_for (line_of old n) ≡ 0 =
    ap (λ xs. bytes_for (line_of xs n)) c.self.view_is ∙ ap bytes_for c.requires.none in
    let empty : bytes_for (line_of new n) ≡ 0 =
    ap bytes_for (own_line (λ l. Some empty_line) n old new c.in-Ok.ensures) in
    omega (arith, c.self.invariant, change, none, empty)
