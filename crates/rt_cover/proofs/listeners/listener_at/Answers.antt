use Rattle.std.proofs.Common.{◌≡◌, true, false, get_or, sym, ap, ◌∙◌, Some, rules}
use Rattle.rt_cover.specs.inside.Places.{place, does_stand}
use Rattle.rt_cover.proofs.FoundLaws.{find-there, find-not_there, stands_within}
use Rattle.rt_cover.proofs.listeners.listener_at.Goals as goal

pub returns-then-not-stands_at : goal.returns-then-not-stands_at
returns-then-not-stands_at c =
    let t = c.args.number in
    let ks = c.args.listeners.now in
    let at : c.place_of-place.result ≡ place t ks = c.place_of-place.ensures.first in
    let there : does_stand ks c.place_of-place.result t ≡ false = search rules in
    sym (find-not_there t ks c.requires (ap (λ p. does_stand ks p t) (sym at) ∙ there))

pub bounds-listeners-place : goal.bounds-listeners-place
bounds-listeners-place c =
    let t = c.args.number in
    let ks = c.args.listeners.now in
    let there : does_stand ks c.place_of-place.result t ≡ true = search rules in
    stands_within t ks c.place_of-place.result there

pub returns : goal.returns
returns c =
    let t = c.args.number in
    let ks = c.args.listeners.now in
    let one = c.index-listeners-place.result in
    let at : c.place_of-place.result ≡ place t ks = c.place_of-place.ensures.first in
    let there : does_stand ks c.place_of-place.result t ≡ true = search rules in
    ap Some c.index-listeners-place.is
    ∙ ap (λ q. Some (get_or ks q one)) at
    ∙ sym (find-there t ks one (ap (λ p. does_stand ks p t) (sym at) ∙ there))
