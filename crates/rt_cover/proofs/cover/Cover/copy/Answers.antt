use Rattle.std.proofs.Common.{◌≡◌, ◌<◌, sym, subst}
use Rattle.std.specs.List.{All, AllPairs}
use Rattle.rt_query.specs.Supply.{form}
use Rattle.rt_cover.specs.Cover.{Registered}
use Rattle.rt_cover.specs.inside.Sound.{IsSound}
use Rattle.rt_cover.proofs.cover.Cover.copy.Goals as goal

pub copy-requires-clause-rise : goal.copy-requires-clause-rise
copy-requires-clause-rise c =
    let sound : IsSound c.args.self.now = subst IsSound c.self.view_is c.self.invariant in
    subst (AllPairs (λ (l m : Registered). l.0 < m.0)) (λ i. (sym c.self.view_is i).listeners) sound.listeners

pub copy-requires-clause-own : goal.copy-requires-clause-own
copy-requires-clause-own c =
    let sound : IsSound c.args.self.now = subst IsSound c.self.view_is c.self.invariant in
    subst (All (λ (l : Registered). form l.1 ≡ l.1)) (λ i. (sym c.self.view_is i).listeners) sound.forms
