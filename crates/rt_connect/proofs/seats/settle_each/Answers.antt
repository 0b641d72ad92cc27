use Rattle.std.proofs.Common.{rules, ◌<◌, ◌≤◌, ◌++◌, length, map, take, drop, get_or, sym, ap, subst, ◌∙◌}
use Rattle.std.proofs.Common.{add-one, append_assoc, string_bytes}
use Rattle.std.specs.Option.{option_map}
use Rattle.rt_client.specs.Delivery.{emptied}
use Rattle.rt_connect.specs.Telling.{TellsPlace}
use Rattle.rt_connect.proofs.Rounds.{all_told, at_left, place_told, step_set}
use Rattle.rt_connect.proofs.seats.settle_each.Goals as goal

pub loop-place-preserved : goal.loop-place-preserved
loop-place-preserved c =
    let f = option_map emptied in
    let ys = c.args.seats.now in
    let xs = c.loop-place.seats in
    let i = c.loop-place.place-index in
    let d = c.place-item.result in
    let h = c.loop-place.invariant in
    let told = c.in_ok-settle_place.ensures.told in
    let within : c.loop-place.place-index < length c.loop-place.seats = search rules in
    let left = at_left f ys xs i d h.0 within in
    let first : TellsPlace c.loop-place.shared (get_or ys i d) told.0 c.settle_place.new.shared =
    subst (λ p. TellsPlace c.loop-place.shared p told.0 c.settle_place.new.shared) left.1 told.2 in (
      step_set f ys xs i d c.settle_place.new.place h.0 within c.in_ok-settle_place.ensures.ring
          ∙ ap (λ n. map f (take n ys) ++ drop n ys) (sym (add-one i)),
      (
        h.1.0 ++ told.0,
        told.1 ∙ ap (λ x. x ++ told.0) h.1.1
            ∙ append_assoc (string_bytes c.args.out.now) h.1.0 told.0,
        place_told c.args.shared.now ys h.1.0 told.0 i d c.loop-place.shared c.settle_place.new.shared left.0
            h.1.2 first,
      ),
    )

pub returns-clause-told : goal.returns-clause-told
returns-clause-told c =
    let h = c.loop-place.invariant in
    let over : length c.args.seats.now ≤ c.loop-place.place-index = search rules in (
      h.1.0,
      h.1.1,
      all_told c.args.shared.now c.args.seats.now h.1.0 c.loop-place.place-index c.loop-place.shared over
          h.1.2,
    )
