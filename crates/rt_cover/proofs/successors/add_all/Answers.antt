use Rattle.std.proofs.Common.{rules, ◌≡◌, ◌<◌, ◌≤◌, ◌||◌, ℕ, Bool, List, length, drop, refl, sym, ap, subst, ◌∙◌, arith}
use Rattle.std.specs.List.{list_any}
use Rattle.std.proofs.lemmas.List.{length-drop}
use Rattle.rt_cover.specs.inside.Endings.{by_number, begins_at}
use Rattle.rt_cover.proofs.AnyLaws.{any_front, any_done}
use Rattle.rt_cover.proofs.successors.add_all.Goals as goal

pub loop-rest-init : goal.loop-rest-init
loop-rest-init g c = λ p. refl

pub loop-rest-smaller : goal.loop-rest-smaller
loop-rest-smaller g c =
    let rest : List ℕ = c.loop-rest.rest.now in
    let n : ℕ = c.in_ok-count.count in
    let less : 0 < n = c.in_ok-count.ensures.some in
    let within : n ≤ length rest = c.in_ok-count.ensures.within in
    let left : length c.behind-rest.result.now ≡ length (drop n rest) = ap length c.behind-rest.ensures in
    omega (arith, less, within, left, length-drop n rest)

pub loop-rest-preserved : goal.loop-rest-preserved
loop-rest-preserved g c = λ p.
    let begins : ℕ → Bool = begins_at (by_number (g.E.EndedListeners.ended c.args.ending.now)) c.args.listeners.now p in
    let old : Bool = list_any p c.loop-rest.numbers.items in
    let all : Bool = list_any p c.args.numbers.now.items || list_any begins c.args.supplied.now in
    subst (λ (xs : List ℕ). (list_any p c.add_next.new.numbers.items || list_any begins xs) ≡ all) (sym c.behind-rest.ensures)
    (any_front begins old (list_any p c.add_next.new.numbers.items) all c.loop-rest.rest.now c.in_ok-count.count
    (c.in_ok-count.ensures.numbers p) (c.loop-rest.invariant p))

pub returns : goal.returns
returns g c = λ p.
    let begins : ℕ → Bool = begins_at (by_number (g.E.EndedListeners.ended c.args.ending.now)) c.args.listeners.now p in
    let none : length c.loop-rest.rest.now ≡ 0 = search rules in
    any_done begins (list_any p c.loop-rest.numbers.items) (list_any p c.args.numbers.now.items || list_any begins c.args.supplied.now) c.loop-rest.rest.now none (c.loop-rest.invariant p)
