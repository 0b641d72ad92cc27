use Rattle.std.proofs.Common.{rules, ◌≡◌, ◌+◌, arith, length, drop, map, Some, ap, string_bytes}
use Rattle.std.specs.List.{slice_get}
use Rattle.rt_hub.specs.Lines.{bytes_in}
use Rattle.rt_hub.proofs.Bytes.{first_bytes}
use Rattle.rt_hub.proofs.lines.Line.next.Goals as goal

pub overflow_sub-self : goal.overflow_sub-self
overflow_sub-self c =
    let items = c.self.inside.waiting.items in
    let first : slice_get items 0 ≡ Some c.in_ok-text.text = search rules in
    let parts : bytes_in (map string_bytes items)
    ≡ length (string_bytes c.in_ok-text.text) + bytes_in (map string_bytes (drop 1 items)) =
    first_bytes items c.in_ok-text.text first in
    omega (arith, c.self.invariant, parts, c.len.ensures)

pub invariant_of-self-2 : goal.invariant_of-self-2
invariant_of-self-2 c =
    let items = c.self.inside.waiting.items in
    let first : slice_get items 0 ≡ Some c.in_ok-text.text = search rules in
    let parts : bytes_in (map string_bytes items)
    ≡ length (string_bytes c.in_ok-text.text) + bytes_in (map string_bytes (drop 1 items)) =
    first_bytes items c.in_ok-text.text first in
    let left : c.pop_front.new.self.items ≡ drop 1 items = search rules in
    let rest : bytes_in (map string_bytes c.pop_front.new.self.items)
    ≡ bytes_in (map string_bytes (drop 1 items)) =
    ap (λ x. bytes_in (map string_bytes x)) left in
    omega (arith, c.self.invariant, parts, c.len.ensures, rest)
