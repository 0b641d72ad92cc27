use Rattle.std.proofs.Common.{rules, ◌≡◌, ap, ◌∙◌}
use Rattle.std.specs.List.{insert}
use Rattle.rt_cover.specs.Cover.{Registered}
use Rattle.rt_cover.specs.inside.Places.{place}
use Rattle.rt_cover.proofs.PlaceLaws.{insert_place}
use Rattle.rt_cover.proofs.listeners.insert_listener.Goals as goal

pub returns : goal.returns
returns c =
    let ls = c.args.listeners.now.items in
    let l : Registered = c.args.listener in
    let items : c.insert-in_reserved_room.new.self.items ≡ insert ls c.place_of-place.result l = search rules in
    let at : c.place_of-place.result ≡ place l.0 ls = c.place_of-place.ensures.first ∙ (λ i. place (c.number.ensures i) (c.deref.ensures.value i)) in
    items ∙ ap (λ p. insert ls p l) at ∙ insert_place l.0 l.1 ls c.requires.rise c.requires.free
