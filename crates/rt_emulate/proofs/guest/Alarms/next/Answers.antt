use Rattle.std.proofs.Common.{sym, ap, ◌∙◌}
use Rattle.std.specs.BinaryHeap.{heap_items}
use Rattle.rt_emulate.specs.inside.Alarms.{next_time}
use Rattle.rt_emulate.proofs.Alarms.{first_is_next}
use Rattle.rt_emulate.proofs.guest.Alarms.next.Goals as goal

pub returns-in-Some : goal.returns-in-Some
returns-in-Some c =
    sym (first_is_next (heap_items c.self.inside.all) c.in-Some.field-0.now c.in-Some.ensures.item.3.0
    c.in-Some.ensures.lookup (c.in-Some.ensures.greatest c.self.invariant))
    ∙ ap next_time c.self.view_is
