use Rattle.std.proofs.Common.{◌≡◌, Some, None, sym, subst, rules}
use Rattle.rt_client.specs.declared.error.ClientError.TheVariants.{Core, NoMemory}
use Rattle.rt_client.specs.Lanes.{lane_of, HasRoom}
use Rattle.rt_client.specs.Calls.{Called, RefusesCalled, MakesCall, RefusesCall}
use Rattle.rt_client.proofs.Seated.{locked_of, seated_of, seat_made, seat_refused, seat_gave_up}
use Rattle.rt_client.proofs.shared.try_call.Goals as goal

pub returns-clause-made : goal.returns-clause-made
returns-clause-made c =
    let shared = c.shared.inside in
    let seat = c.seat.inside in
    let old : c.args.shared.now ≡ locked_of shared.number shared.ids shared.stopped (Some c.in-Some.held) = search rules in
    let chair : c.args.seat.now ≡ seated_of seat.client seat.number seat.inbox = search rules in
    let own : c.seat.inside.client ≡ c.shared.inside.number = search rules in
    let made : Called c.in-Some.held c.seat.inside.number c.seat.inside.inbox c.args.call c.in-Ok.done c.called.new.self c.called.new.inbox = search rules in
    let new = locked_of shared.number shared.ids shared.stopped (Some c.called.new.self) in
    let left = seated_of seat.client seat.number c.called.new.inbox in
    subst (λ l. MakesCall l c.args.seat.now c.args.call c.in-Ok.done new left) (sym old)
    (subst (λ s. MakesCall (locked_of shared.number shared.ids shared.stopped (Some c.in-Some.held)) s c.args.call c.in-Ok.done new left) (sym chair)
    (seat_made shared.number shared.ids shared.stopped seat.client seat.number seat.inbox c.called.new.inbox c.in-Some.held c.called.new.self c.args.call c.in-Ok.done own made))

pub returns-in-Err-Core-clause-refused : goal.returns-in-Err-Core-clause-refused
returns-in-Err-Core-clause-refused c =
    let shared = c.shared.inside in
    let seat = c.seat.inside in
    let old : c.args.shared.now ≡ locked_of shared.number shared.ids shared.stopped (Some c.in-Some.held) = search rules in
    let chair : c.args.seat.now ≡ seated_of seat.client seat.number seat.inbox = search rules in
    let own : c.seat.inside.client ≡ c.shared.inside.number = search rules in
    let has : HasRoom c.seat.inside.inbox (lane_of c.in-Some.held.lanes c.seat.inside.number) = search rules in
    let made : RefusesCalled c.in-Some.held c.seat.inside.number c.seat.inside.inbox c.args.call (Core c.in-Err-Core.refused) c.called.new.self c.called.new.inbox = search rules in
    let new = locked_of shared.number shared.ids shared.stopped (Some c.called.new.self) in
    let left = seated_of seat.client seat.number c.called.new.inbox in
    subst (λ l. RefusesCall l c.args.seat.now c.args.call (Core c.in-Err-Core.refused) new left) (sym old)
    (subst (λ s. RefusesCall (locked_of shared.number shared.ids shared.stopped (Some c.in-Some.held)) s c.args.call (Core c.in-Err-Core.refused) new left) (sym chair)
    (seat_refused shared.number shared.ids shared.stopped seat.client seat.number seat.inbox c.called.new.inbox c.in-Some.held c.called.new.self c.args.call c.in-Err-Core.refused own has made))

pub returns-in-Err-NoMemory-clause-refused : goal.returns-in-Err-NoMemory-clause-refused
returns-in-Err-NoMemory-clause-refused c =
    let shared = c.shared.inside in
    let seat = c.seat.inside in
    let old : c.args.shared.now ≡ locked_of shared.number shared.ids shared.stopped (Some c.in-Some.held) = search rules in
    let chair : c.args.seat.now ≡ seated_of seat.client seat.number seat.inbox = search rules in
    let own : c.seat.inside.client ≡ c.shared.inside.number = search rules in
    let has : HasRoom c.seat.inside.inbox (lane_of c.in-Some.held.lanes c.seat.inside.number) = search rules in
    let made : RefusesCalled c.in-Some.held c.seat.inside.number c.seat.inside.inbox c.args.call NoMemory c.called.new.self c.called.new.inbox = search rules in
    let none : c.take.new.self ≡ None = search rules in
    let new = locked_of shared.number shared.ids shared.stopped c.take.new.self in
    let left = seated_of seat.client seat.number c.called.new.inbox in
    subst (λ l. RefusesCall l c.args.seat.now c.args.call NoMemory new left) (sym old)
    (subst (λ s. RefusesCall (locked_of shared.number shared.ids shared.stopped (Some c.in-Some.held)) s c.args.call NoMemory new left) (sym chair)
    (seat_gave_up shared.number shared.ids shared.stopped seat.client seat.number seat.inbox c.called.new.inbox c.in-Some.held c.called.new.self c.take.new.self c.args.call own has none made))
