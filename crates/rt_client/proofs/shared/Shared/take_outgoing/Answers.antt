use Rattle.std.proofs.Common.{rules}
use Rattle.rt_client.specs.Shared.{IsWhole}
use Rattle.rt_client.proofs.shared.Shared.take_outgoing.Goals as goal

pub invariant_of-self-2 : goal.invariant_of-self-2
invariant_of-self-2 c =
    let kept : IsWhole c.in-Some.held = search rules in
    c.keeping_law.ensures.taken c.in-Some.held c.take_outgoing.new.self c.take_outgoing.result kept c.take_outgoing.ensures
