use Rattle.std.proofs.Common.{◌≡◌, ◌<◌, ◌+◌, ◌==◌, not, take, sym, subst}
use Rattle.std.specs.List.{list_any, All, AllPairs}
use Rattle.std.proofs.lemmas.List.{take_more}
use Rattle.std.proofs.lemmas.List.Elements.{All-filter}
use Rattle.std.proofs.lemmas.List.Kept.{AllPairs-filter}
use Rattle.rt_query.specs.Supply.{form}
use Rattle.rt_cover.specs.Cover.{Registered}
use Rattle.rt_cover.proofs.LeaveLaws.{left_more}
use Rattle.rt_cover.proofs.SupplyLaws.{all_left}
use Rattle.rt_cover.proofs.listeners.Listeners.end_each.Goals as goal

pub loop-number-init : goal.loop-number-init
loop-number-init c = sym (all_left c.args.self.now)

pub end_one-requires-clause-rise : goal.end_one-requires-clause-rise
end_one-requires-clause-rise c = subst (AllPairs (λ (x y : Registered). x.0 < y.0)) (sym c.loop-number.invariant)
    (AllPairs-filter (λ (x y : Registered). x.0 < y.0) (λ (x : Registered). not (list_any (λ n. n == x.0) (take c.loop-number.number-index c.args.numbers.now))) c.args.self.now c.requires.rise)

pub end_one-requires-clause-own : goal.end_one-requires-clause-own
end_one-requires-clause-own c = subst (All (λ (x : Registered). form x.1 ≡ x.1)) (sym c.loop-number.invariant)
    (All-filter (λ (x : Registered). not (list_any (λ n. n == x.0) (take c.loop-number.number-index c.args.numbers.now))) (λ (x : Registered). form x.1 ≡ x.1) c.args.self.now c.requires.own)

pub loop-number-preserved : goal.loop-number-preserved
loop-number-preserved c =
    let ns = c.args.numbers.now in
    let i = c.loop-number.number-index in
    left_more (take i ns) (take (i + 1) ns) _ c.loop-number.self c.end_one.new.self c.args.self.now (take_more ns i _ c.loop-number-test.true) c.loop-number.invariant c.end_one.ensures
