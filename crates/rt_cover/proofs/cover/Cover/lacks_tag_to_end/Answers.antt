use Rattle.std.proofs.Common.{◌≡◌, ap, ◌≤◌, ◌+◌, ◌-◌, length, nat_lt, sym, subst, ◌∙◌, arith}
use Rattle.std.specs.List.{count_by}
use Rattle.rt_cover.specs.State.{Cover}
use Rattle.rt_cover.specs.inside.Endings.{by_number, starts}
use Rattle.rt_cover.specs.inside.Sound.{IsSound}
use Rattle.rt_cover.proofs.StartLaws.{lacks_by_room, none_lacks}
use Rattle.rt_cover.proofs.cover.Cover.lacks_tag_to_end.Goals as goal

pub returns-then-listeners-room : goal.returns-then-listeners-room
returns-then-listeners-room g c =
    let old : Cover = c.args.self.now in
    let sound : IsSound old = subst IsSound c.self.view_is c.self.invariant in
    let next : old.next_tag ≡ c.self.inside.given + 1 = (λ i. (sym c.self.view_is i).next_tag) in
    let last : c.self.inside.last_tag ≡ old.last_tag = (λ i. (c.self.view_is i).last_tag) in
    let is : (c.self.inside.last_tag - c.self.inside.given) + c.self.inside.given ≡ old.last_tag = omega (arith, next, last, sound.next) in
    let same : length old.listeners ≡ length c.self.inside.listeners = (λ i. length (sym c.self.view_is i).listeners) in
    let count : length c.as_slice-listeners.result.now ≡ length c.self.inside.listeners = ap length c.as_slice-listeners.ensures in
    let few : length old.listeners ≤ c.self.inside.last_tag - c.self.inside.given = omega (arith, c.if-listeners-room.true, count, same) in
    sym (none_lacks old c.self.inside.given (c.self.inside.last_tag - c.self.inside.given) (by_number (g.E.EndedListeners.ended c.args.ending.now)) sound next is few)

pub returns : goal.returns
returns g c =
    let old : Cover = c.args.self.now in
    let sound : IsSound old = subst IsSound c.self.view_is c.self.invariant in
    let next : old.next_tag ≡ c.self.inside.given + 1 = (λ i. (sym c.self.view_is i).next_tag) in
    let last : c.self.inside.last_tag ≡ old.last_tag = (λ i. (c.self.view_is i).last_tag) in
    let is : (c.self.inside.last_tag - c.self.inside.given) + c.self.inside.given ≡ old.last_tag = omega (arith, next, last, sound.next) in
    let ls : c.as_slice-listeners.result.now ≡ old.listeners = c.as_slice-listeners.ensures ∙ (λ i. (c.self.view_is i).listeners) in
    let kept : c.as_slice.result.now ≡ old.kept = c.as_slice.ensures ∙ (λ i. (c.self.view_is i).kept) in
    c.exceeds.ensures
    ∙ (λ i. nat_lt (c.self.inside.last_tag - c.self.inside.given) (count_by (starts (by_number (g.E.EndedListeners.ended c.args.ending.now)) (kept i) (ls i)) (ls i)))
    ∙ lacks_by_room old c.self.inside.given (c.self.inside.last_tag - c.self.inside.given) (by_number (g.E.EndedListeners.ended c.args.ending.now)) sound next is
