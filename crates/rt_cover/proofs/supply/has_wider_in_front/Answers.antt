use Rattle.std.proofs.Common.{rules, ◌≡◌, ◌+◌, ◌-◌, ◌≤◌, ℕ, List, [], Option, true, false, length, get_or, sym, ap, subst, arith, ◌∙◌}
use Rattle.std.specs.List.Sorted.{IsPartitionPoint}
use Rattle.rt_query.specs.Queries.{Query}
use Rattle.rt_cover.specs.inside.Widest.{Entry, is_taken_in_at, is_in_front}
use Rattle.rt_cover.proofs.WidestLaws.{by_widest, none_in_front}
use Rattle.rt_cover.proofs.supply.has_wider_in_front.Goals as goal

pub returns-then-count-eq0 : goal.returns-then-count-eq0
returns-then-count-eq0 c = λ ended are.
    none_in_front ended c.args.query.now c.args.entries.now c.count_in_front-count.result (search rules) c.count_in_front-count.ensures.within c.count_in_front-count.ensures.point

pub returns : goal.returns
returns c = λ ended are.
    let q : Query = c.args.query.now in
    let es : List Entry = c.args.entries.now in
    let places : List (Option ℕ) = c.args.places.now in
    let n : ℕ = c.count_in_front-count.result in
    let d : Entry = (q, []) in
    let some : 1 ≤ n = search rules in
    let whole : (n - 1) + 1 ≡ n = omega (arith, some) in
    let within : (n - 1) + 1 ≤ length es = omega (arith, whole, c.count_in_front-count.ensures.within) in
    c.takes_in_at.ensures d
    ∙ by_widest ended q es places (n - 1) d _ are within
    (subst (IsPartitionPoint (λ (e : Entry). is_in_front q e ≡ true) (λ (e : Entry). is_in_front q e ≡ false) es) (sym whole) c.count_in_front-count.ensures.point)
