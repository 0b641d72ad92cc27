use Rattle.std.proofs.Common.{rules, ◌≡◌, ◌+◌, ◌<◌, Some, None, refl, sym, ap, subst, ◌∙◌}
use Rattle.rt_sync.specs.Core.{world_in}
use Rattle.rt_mail.specs.Lanes.{new_ring}
use Rattle.rt_client.specs.Lanes.{lane_of}
use Rattle.rt_client.specs.Opened.{AreOpenBelow, OpensSeat}
use Rattle.rt_client.specs.Shared.{IsWhole}
use Rattle.rt_client.proofs.Called.{held_of}
use Rattle.rt_client.proofs.Seated.{locked_of, seated_of, seat_opened}
use Rattle.rt_client.proofs.Unknown.{opening_stays_whole}
use Rattle.rt_client.proofs.shared.Shared.open_seat.Goals as goal

pub returns-clause-opened : goal.returns-clause-opened
returns-clause-opened c =
    let shared = c.self.inside in
    let place = c.free_place-place.result in
    let before = held_of (world_in c.held.inside.core) c.held.inside.lanes in
    let after = held_of (world_in c.held.inside.core) c.open_at.new.self in
    let seen : c.in-Some.held ≡ held_of (world_in c.held.inside.core) c.held.inside.lanes = search rules in
    let locked : c.args.self.now ≡ locked_of shared.number shared.ids shared.stopped (Some c.in-Some.held) = search rules in
    let old : c.args.self.now ≡ locked_of shared.number shared.ids shared.stopped (Some before) = locked ∙ ap (λ h. locked_of shared.number shared.ids shared.stopped (Some h)) seen in
    let below : c.free_place-place.result < 64 = search rules in
    let free : lane_of c.held.inside.lanes (c.free_place-place.result + 1) ≡ None = search rules in
    let first : AreOpenBelow (c.free_place-place.result + 1) c.held.inside.lanes = search rules in
    let ring : c.in_ok-inbox.inbox ≡ new_ring c.args.capacity = search rules in
    subst (λ l. OpensSeat l c.args.capacity (locked_of shared.number shared.ids shared.stopped (Some after)) (seated_of shared.number (place + 1) c.in_ok-inbox.inbox)) (sym old)
    (seat_opened shared.number shared.ids shared.stopped before c.open_at.new.self place c.args.capacity c.in_ok-inbox.inbox ring below free first c.in_ok-open_at.ensures.opened)

pub invariant_of-self-2 : goal.invariant_of-self-2
invariant_of-self-2 c =
    let place = c.free_place-place.result in
    let before = held_of (world_in c.held.inside.core) c.held.inside.lanes in
    let after = held_of (world_in c.held.inside.core) c.open_at.new.self in
    let seen : c.in-Some.held ≡ before = search rules in
    let kept : IsWhole c.in-Some.held = search rules in
    let free : lane_of c.held.inside.lanes (place + 1) ≡ None = search rules in
    opening_stays_whole before after (place + 1) (subst IsWhole seen kept) free refl c.in_ok-open_at.ensures.opened
