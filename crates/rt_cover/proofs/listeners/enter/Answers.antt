use Rattle.std.proofs.Common.{◌≡◌, ◌<◌, ◌==◌, [], ◌∷◌, sym, subst, ◌∙◌}
use Rattle.std.specs.List.{list_any, All, AllPairs}
use Rattle.rt_query.specs.Supply.{form}
use Rattle.rt_cover.specs.Cover.{Registered}
use Rattle.rt_cover.specs.inside.Endings.{left}
use Rattle.rt_cover.specs.laws.SoundLaws.{with_listener_rises}
use Rattle.rt_cover.proofs.HeldLaws.{taken_back, with_own}
use Rattle.rt_cover.proofs.listeners.enter.Goals as goal

pub retain_left-requires-clause-rise : goal.retain_left-requires-clause-rise
retain_left-requires-clause-rise c =
    let l : Registered = c.args.listener in
    subst (AllPairs (λ (x y : Registered). x.0 < y.0)) (sym c.in_ok-insert.ensures.items) (with_listener_rises c.args.listeners.now l.0 l.1 c.requires.rise)

pub retain_left-requires-clause-own : goal.retain_left-requires-clause-own
retain_left-requires-clause-own c =
    let l : Registered = c.args.listener in
    subst (All (λ (x : Registered). form x.1 ≡ x.1)) (sym c.in_ok-insert.ensures.items) (with_own c.args.listeners.now l.0 l.1 c.requires.forms c.requires.own)

pub returns-in-Err-clause-same_items : goal.returns-in-Err-clause-same_items
returns-in-Err-clause-same_items c =
    let l : Registered = c.args.listener in
    c.retain_left.ensures
    ∙ (λ i. left (λ (x : Registered). list_any (λ m. m == x.0) (c.number-number.ensures i ∷ [])) (c.in_ok-insert.ensures.items i))
    ∙ taken_back c.args.listeners.now l.0 l.1 c.requires.rise c.requires.free
