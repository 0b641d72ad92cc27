use Rattle.std.specs.List.Sorted.{IsSorted}
use Rattle.std.proofs.Common.{rules, ◌≡◌, ◌∙◌, List, map, sym, ap, subst, IfOk, OnOk, Result, Ok, Err}
use Rattle.rt_query.specs.Queries.{Query}
use Rattle.rt_cache.specs.Brought.{Brought}
use Rattle.rt_cache.specs.Recover.{recover, is_moved}
use Rattle.rt_cover.specs.Cover.{Tagged}
use Rattle.rt_cover.specs.State.{Cover}
use Rattle.rt_world.specs.World.{listening}
use Rattle.rt_sync.specs.inside.Losing.{HasLost}
use Rattle.rt_sync.specs.inside.Moving.{AreHad, had_cmp, is_moved_among}
use Rattle.rt_sync.proofs.Moved.{just_moved}
use Rattle.rt_sync.proofs.steps.losses.lose_ended.Goals as goal

pub returns-clause-brought : goal.returns-clause-brought
returns-clause-brought c = on_ok c.moved.result c.in_ok-lose.ensures
  where
    on_ok : {A E P : Type 0} (r : Result A E) → P → OnOk r P
    on_ok (Ok x) p = p
    on_ok (Err e) p = tt

pub returns-clause-moved : goal.returns-clause-moved
returns-clause-moved c =
    let was : Cover = c.requires.0 in
    let is : Cover = c.args.cover.now in
    let h : HasLost was is c.args.numbers.now c.args.listeners.now.listeners c.args.ended.items c.args.delta.now c.args.brought.now = c.requires.1 in
    let lent : c.deref.result.now ≡ c.args.ended.items = search rules in
    let told : c.deref-2.result.now ≡ c.in_ok-had.had.items = search rules in
    let had : AreHad c.args.brought.now c.args.listeners.now.listeners c.args.ended.items c.in_ok-had.had.items =
    subst (λ (fs : List Query). AreHad c.args.brought.now c.args.listeners.now.listeners fs c.in_ok-had.had.items) lent c.in_ok-had.ensures in
    let made : c.lose.new.brought ≡ recover (listening is.listeners) (map (λ (k : Tagged). k.form) is.kept) c.args.brought.now = c.in_ok-lose.ensures in
    if_ok c.moved.result c.moved.ensures (λ x m q here.
    m q
    ∙ (λ i. is_moved_among (made i) (told i) q)
    ∙ just_moved was is c.args.numbers.now c.args.listeners.now.listeners c.args.ended.items c.args.delta.now c.args.brought.now h c.apart_law.ensures.plains c.in_ok-had.had.items had q here
    ∙ ap (λ (x : Brought). is_moved c.args.brought.now x q) (sym made))
  where
    if_ok : {X E : Type 0} {P Q : X → Type 0} (r : Result X E) → IfOk r P → ((x : X) → P x → Q x) → IfOk r Q
    if_ok (Ok x) p f = f x p
    if_ok (Err e) p f = p

pub moved-requires : goal.moved-requires
moved-requires c = subst (IsSorted had_cmp) (sym c.deref-2.ensures.value) c.in_ok-had.ensures.order
