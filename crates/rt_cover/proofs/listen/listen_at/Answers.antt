use Rattle.std.proofs.Common.{◌≡◌, true, false, get_or, sym, ap, ◌∙◌, Some, rules}
use Rattle.rt_cover.specs.inside.Places.{tag_place, does_stand_kept}
use Rattle.rt_cover.proofs.TagPlaceLaws.{find-there, find-not_there, stands_within}
use Rattle.rt_cover.proofs.listen.listen_at.Goals as goal

pub returns-then-not-stands_at : goal.returns-then-not-stands_at
returns-then-not-stands_at c =
    let t = c.args.tag in
    let ks = c.args.kept.now in
    let at : c.place_of-place.result ≡ tag_place t ks = c.place_of-place.ensures.first in
    let there : does_stand_kept ks c.place_of-place.result t ≡ false = search rules in
    sym (find-not_there t ks c.requires (ap (λ p. does_stand_kept ks p t) (sym at) ∙ there))

pub bounds-kept-place : goal.bounds-kept-place
bounds-kept-place c =
    let t = c.args.tag in
    let ks = c.args.kept.now in
    let there : does_stand_kept ks c.place_of-place.result t ≡ true = search rules in
    stands_within t ks c.place_of-place.result there

pub returns : goal.returns
returns c =
    let t = c.args.tag in
    let ks = c.args.kept.now in
    let one = c.index-kept-place.result in
    let at : c.place_of-place.result ≡ tag_place t ks = c.place_of-place.ensures.first in
    let there : does_stand_kept ks c.place_of-place.result t ≡ true = search rules in
    ap Some c.index-kept-place.is
    ∙ ap (λ q. Some (get_or ks q one)) at
    ∙ sym (find-there t ks one (ap (λ p. does_stand_kept ks p t) (sym at) ∙ there))
