use Rattle.std.proofs.Common.{◌≡◌, ◌<◌, ◌+◌, ◌++◌, true, false, length, take, drop, get_or, sym, ap, subst, ◌∙◌, rules}
use Rattle.rt_cover.specs.inside.Places.{place, does_stand, IsTakenOut}
use Rattle.rt_cover.proofs.FoundLaws.{find-not_there, stands_within}
use Rattle.rt_cover.proofs.LeaveLaws.{without_none, without_that, taken_at, stands_as}
use Rattle.rt_cover.proofs.change.take_one.Goals as goal

pub returns-then-not-stands_at-clause-left : goal.returns-then-not-stands_at-clause-left
returns-then-not-stands_at-clause-left c =
    let t = c.args.number in
    let ks = c.args.listeners.now.items in
    let at : c.place_of-place.result ≡ place t ks = c.place_of-place.ensures.first ∙ ap (place t) c.deref.ensures.value in
    let there : does_stand ks c.place_of-place.result t ≡ false =
    ap (λ xs. does_stand xs c.place_of-place.result t) (sym c.deref-2.ensures.value) ∙ sym c.stands_at.ensures ∙ c.if-not-stands_at.true in
    without_none t ks (find-not_there t ks c.requires (ap (λ p. does_stand ks p t) (sym at) ∙ there))

pub remove-requires : goal.remove-requires
remove-requires c =
    let t = c.args.number in
    let ks = c.args.listeners.now.items in
    let there : does_stand ks c.place_of-place.result t ≡ true =
    ap (λ xs. does_stand xs c.place_of-place.result t) (sym c.deref-2.ensures.value) ∙ sym c.stands_at.ensures ∙ c.if-not-stands_at.false in
    subst (λ n. c.place_of-place.result < n) (sym (c.args.listeners.now).ok.0) (stands_within t ks c.place_of-place.result there)

pub returns-clause-left : goal.returns-clause-left
returns-clause-left c =
    let t = c.args.number in
    let ks = c.args.listeners.now.items in
    let i = c.place_of-place.result in
    let there : does_stand ks i t ≡ true =
    ap (λ xs. does_stand xs i t) (sym c.deref-2.ensures.value) ∙ sym c.stands_at.ensures ∙ c.if-not-stands_at.false in
    without_that ks c.remove.new.self.items c.remove.result t c.requires (stands_as t ks i c.remove.result there c.remove.ensures.value)
    (taken_at ks c.remove.new.self.items i c.remove.result (stands_within t ks i there) c.remove.ensures.value c.remove.ensures.by_index.2)

pub returns-clause-taken : goal.returns-clause-taken
returns-clause-taken c =
    let t = c.args.number in
    let ks = c.args.listeners.now.items in
    let i = c.place_of-place.result in
    let there : does_stand ks i t ≡ true =
    ap (λ xs. does_stand xs i t) (sym c.deref-2.ensures.value) ∙ sym c.stands_at.ensures ∙ c.if-not-stands_at.false in
    taken_at ks c.remove.new.self.items i c.remove.result (stands_within t ks i there) c.remove.ensures.value c.remove.ensures.by_index.2
