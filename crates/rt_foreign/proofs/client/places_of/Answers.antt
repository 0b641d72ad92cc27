use Rattle.std.proofs.Common.{◌≡◌, List, [], ◌∷◌, ◌++◌, map, sym, ap, ◌∙◌, append_assoc, rules}
use Rattle.std.proofs.lemmas.List.Elements.{All-rest}
use Rattle.rt_client.specs.Calls.{Seated}
use Rattle.rt_foreign.specs.Clients.{new_place}
use Rattle.rt_foreign.specs.Places.{OpenSeat}
use Rattle.rt_foreign.specs.Room.{CanHold}
use Rattle.rt_foreign.proofs.client.places_of.Goals as goal

one_more : (had new : List OpenSeat) (p : OpenSeat) (s : Seated) (rest left all : List Seated)
    → new ≡ had ++ p ∷ [] → p ≡ new_place s → rest ≡ s ∷ left
    → had ++ map new_place rest ≡ map new_place all → new ++ map new_place left ≡ map new_place all
one_more had new p s rest left all pushed is goes so_far =
    ap (λ ps. ps ++ map new_place left) pushed ∙ append_assoc had (p ∷ []) (map new_place left)
    ∙ ap (λ q. had ++ q ∷ map new_place left) is ∙ ap (λ xs. had ++ map new_place xs) (sym goes) ∙ so_far

pub loop-seat-preserved : goal.loop-seat-preserved
loop-seat-preserved c =
    let rest = c.loop-seat.seat-iterator.rest.items in
    let left = c.next.new.self.rest.items in
    let goes : rest ≡ c.in-Some.seat ∷ left = search rules in (
      one_more c.loop-seat.places.items c.push.new.self.items c.in_ok-new.field-0 c.in-Some.seat rest left
          c.args.seats.items c.in_ok-push.ensures.items c.in_ok-new.ensures goes c.loop-seat.invariant.0,
      All-rest CanHold c.in-Some.seat left rest goes c.loop-seat.invariant.1,
    )
