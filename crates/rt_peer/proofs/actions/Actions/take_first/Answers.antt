use Rattle.std.proofs.Common.{◌≡◌, ◌∷◌, None, is_some, ap, sym, ◌∙◌, rules}
use mathlib.Core.Bool.{true≢false}
use Rattle.std.specs.List.{filter}
use Rattle.std.specs.Map.{lookup}
use Rattle.std.specs.BTreeMap.{is_at as key_is}
use Rattle.rt_peer.specs.Turns.{without_first}
use Rattle.rt_peer.specs.inside.Placed.{deferreds_of, first_own, place_cmp}
use Rattle.rt_peer.proofs.PutBehind.{first_absent, first_found, first_taken, own}
use Rattle.rt_peer.proofs.actions.Actions.take_first.Goals as goal

pub returns-in_default-clause-none : goal.returns-in_default-clause-none
returns-in_default-clause-none c =
    let none : None ≡ first_own c.args.connection c.self.inside.placed = search rules in
    ap (filter (own c.args.connection)) (sym c.self.view_is) ∙ first_absent c.args.connection c.self.inside.placed none

pub returns-in_default-take-clause-none : goal.returns-in_default-take-clause-none
returns-in_default-take-clause-none c =
    let es = c.self.inside.placed in
    let none : None ≡ lookup (key_is (place_cmp c.in-Some.place)) es = search rules in
    absurd (true≢false (sym (first_found c.args.connection c.in-Some.place es c.in-Some.ensures) ∙ ap is_some (sym none)))

pub returns-in_default-take-clause-same : goal.returns-in_default-take-clause-same
returns-in_default-take-clause-same c =
    let es = c.self.inside.placed in
    let none : None ≡ lookup (key_is (place_cmp c.in-Some.place)) es = search rules in
    absurd (true≢false (sym (first_found c.args.connection c.in-Some.place es c.in-Some.ensures) ∙ ap is_some (sym none)))

pub returns-clause-some : goal.returns-clause-some
returns-clause-some c =
    let n = c.args.connection in
    ap (filter (own n)) (sym c.self.view_is)
    ∙ (first_taken n c.in-Some.place c.in-Some-take.entries c.self.inside.placed c.in-Some.ensures c.in-Some-take.ensures.entries).0
    ∙ (λ i. sym c.new.ensures i ∷ filter (own n) (deferreds_of (sym c.take.ensures.left i)))

pub returns-clause-left : goal.returns-clause-left
returns-clause-left c =
    let n = c.args.connection in
    ap deferreds_of c.take.ensures.left
    ∙ (first_taken n c.in-Some.place c.in-Some-take.entries c.self.inside.placed c.in-Some.ensures c.in-Some-take.ensures.entries).1
    ∙ ap (without_first (own n) 1) c.self.view_is
