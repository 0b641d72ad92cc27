use Rattle.std.proofs.Common.{◌≡◌, Some, None, sym, subst, rules, IsTrue, is_some}
use Rattle.rt_world.specs.declared.step.Step.{Step}
use Rattle.rt_client.specs.declared.error.ClientError.TheVariants.{Core, NoMemory}
use Rattle.rt_client.specs.Lanes.{lane_of}
use Rattle.rt_client.specs.Calls.{Made, Refuses, LacksMemory}
use Rattle.rt_client.specs.Settling.{Closes, RefusesClose}
use Rattle.rt_client.proofs.Seated.{locked_of, seated_of}
use Rattle.rt_client.proofs.Settled.{seat_closed, seat_stays, seat_fails}
use Rattle.rt_client.proofs.shared.Shared.close_seat.Goals as goal

pub returns-in-Ok-clause-closed : goal.returns-in-Ok-clause-closed
returns-in-Ok-clause-closed c =
    let shared = c.self.inside in
    let seat = c.seat.inside in
    let new = locked_of shared.number shared.ids shared.stopped (Some c.close.new.self) in
    let old : c.args.self.now ≡ locked_of shared.number shared.ids shared.stopped (Some c.in-Some.held) = search rules in
    let chair : c.args.seat ≡ seated_of seat.client seat.number seat.inbox = search rules in
    let own : c.seat.inside.client ≡ c.self.inside.number = search rules in
    let has : IsTrue (is_some (lane_of c.in-Some.held.lanes c.seat.inside.number)) = search rules in
    let made : Made c.in-Some.held (Step.CloseSeat c.seat.inside.number) c.in-Ok._done c.close.new.self = search rules in
    subst (λ l. Closes l c.args.seat new) (sym old)
    (subst (λ s. Closes (locked_of shared.number shared.ids shared.stopped (Some c.in-Some.held)) s new) (sym chair)
    (seat_closed shared.number shared.ids shared.stopped seat.client seat.number seat.inbox c.in-Some.held c.close.new.self c.in-Ok._done own has made))

pub returns-in-Err-Core-clause-refused : goal.returns-in-Err-Core-clause-refused
returns-in-Err-Core-clause-refused c =
    let shared = c.self.inside in
    let seat = c.seat.inside in
    let new = locked_of shared.number shared.ids shared.stopped (Some c.close.new.self) in
    let old : c.args.self.now ≡ locked_of shared.number shared.ids shared.stopped (Some c.in-Some.held) = search rules in
    let chair : c.args.seat ≡ seated_of seat.client seat.number seat.inbox = search rules in
    let own : c.seat.inside.client ≡ c.self.inside.number = search rules in
    let has : IsTrue (is_some (lane_of c.in-Some.held.lanes c.seat.inside.number)) = search rules in
    let refused : Refuses c.in-Some.held (Step.CloseSeat c.seat.inside.number) (Core c.in-Err-Core.refused) c.close.new.self = search rules in
    subst (λ l. RefusesClose l c.args.seat (Core c.in-Err-Core.refused) new) (sym old)
    (subst (λ s. RefusesClose (locked_of shared.number shared.ids shared.stopped (Some c.in-Some.held)) s (Core c.in-Err-Core.refused) new) (sym chair)
    (seat_stays shared.number shared.ids shared.stopped seat.client seat.number seat.inbox c.in-Some.held c.close.new.self c.in-Err-Core.refused own has refused))

pub returns-in-Err-NoMemory-clause-refused : goal.returns-in-Err-NoMemory-clause-refused
returns-in-Err-NoMemory-clause-refused c =
    let shared = c.self.inside in
    let seat = c.seat.inside in
    let new = locked_of shared.number shared.ids shared.stopped c.take.new.self in
    let old : c.args.self.now ≡ locked_of shared.number shared.ids shared.stopped (Some c.in-Some.held) = search rules in
    let chair : c.args.seat ≡ seated_of seat.client seat.number seat.inbox = search rules in
    let own : c.seat.inside.client ≡ c.self.inside.number = search rules in
    let has : IsTrue (is_some (lane_of c.in-Some.held.lanes c.seat.inside.number)) = search rules in
    let lacks : LacksMemory c.in-Some.held (Step.CloseSeat c.seat.inside.number) = search rules in
    let none : c.take.new.self ≡ None = search rules in
    subst (λ l. RefusesClose l c.args.seat NoMemory new) (sym old)
    (subst (λ s. RefusesClose (locked_of shared.number shared.ids shared.stopped (Some c.in-Some.held)) s NoMemory new) (sym chair)
    (seat_fails shared.number shared.ids shared.stopped seat.client seat.number seat.inbox c.in-Some.held c.take.new.self own has none lacks))
