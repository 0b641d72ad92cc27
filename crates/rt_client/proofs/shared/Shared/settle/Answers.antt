use Rattle.std.proofs.Common.{◌≡◌, Some, sym, subst, rules}
use Rattle.rt_client.specs.Settling.{HandsDue, Settles}
use Rattle.rt_client.specs.Shared.{IsWhole}
use Rattle.rt_client.proofs.Seated.{locked_of, seated_of}
use Rattle.rt_client.proofs.Settled.{seat_settled}
use Rattle.rt_client.proofs.shared.Shared.settle.Goals as goal

pub invariant_of-self-2 : goal.invariant_of-self-2
invariant_of-self-2 c =
    let kept : IsWhole c.in-Some.held = search rules in
    c.keeping_law.ensures.settled c.in-Some.held c.settle.new.self c.seat.inside.number c.seat.inside.inbox c.settle.new.inbox kept c.settle.ensures

pub returns-clause-settled : goal.returns-clause-settled
returns-clause-settled c =
    let shared = c.self.inside in
    let seat = c.seat.inside in
    let old : c.args.self.now ≡ locked_of shared.number shared.ids shared.stopped (Some c.in-Some.held) = search rules in
    let chair : c.args.seat.now ≡ seated_of seat.client seat.number seat.inbox = search rules in
    let own : c.seat.inside.client ≡ c.self.inside.number = search rules in
    let hands : HandsDue c.in-Some.held c.seat.inside.number c.seat.inside.inbox c.settle.new.self c.settle.new.inbox = c.settle.ensures in
    let new = locked_of shared.number shared.ids shared.stopped (Some c.settle.new.self) in
    let left = seated_of seat.client seat.number c.settle.new.inbox in
    subst (λ l. Settles l c.args.seat.now new left) (sym old)
    (subst (λ s. Settles (locked_of shared.number shared.ids shared.stopped (Some c.in-Some.held)) s new left) (sym chair)
    (seat_settled shared.number shared.ids shared.stopped seat.client seat.number seat.inbox c.settle.new.inbox c.in-Some.held c.settle.new.self own hands))
