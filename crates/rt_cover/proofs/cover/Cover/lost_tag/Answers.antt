use Rattle.std.proofs.Common.{◌≡◌, ◌<◌, ◌&&◌, ◌==◌, Bool, true, false, ℕ, Some, None, IfSome, IfNone, sym, ap, subst, ◌∙◌}
use Rattle.std.specs.List.{find, list_any, AllPairs}
use Rattle.std.specs.Option.{option_copied}
use Rattle.rt_query.specs.Queries.{Query}
use Rattle.rt_query.specs.QueryEq.{query_eq}
use Rattle.rt_query.specs.Supply.{form}
use Rattle.rt_cover.specs.Cover.{Registered, Tagged}
use Rattle.rt_cover.specs.State.{Cover}
use Rattle.rt_cover.specs.inside.Endings.{by_number, is_first, is_left_form}
use Rattle.rt_cover.specs.inside.Sound.{IsSound}
use Rattle.rt_cover.proofs.ChangeLaws.{none_lost_by, seen_lost_by, left_lost_by, lost_tag_is}
use Rattle.rt_cover.proofs.HeldLaws.{own_at}
use Rattle.rt_cover.proofs.cover.Cover.lost_tag.Goals as goal

pub at-requires : goal.at-requires
at-requires g c =
    let old : Cover = c.args.self.now in
    let sound : IsSound old = subst IsSound c.self.view_is c.self.invariant in
    subst (AllPairs (λ (l m : Registered). l.0 < m.0)) (λ i. (sym c.self.view_is i).listeners) sound.listeners

pub returns-in_default : goal.returns-in_default
returns-in_default g c = λ p.
    let old : Cover = c.args.self.now in
    let n : ℕ = c.args.number in
    let there : find (λ (l : Registered). l.0 == n) old.listeners ≡ None =
    sym (ap option_copied (sym c.in_default.is) ∙ c.at.ensures ∙ (λ i. find (λ (l : Registered). l.0 == n) (c.self.view_is i).listeners)) in
    sym (none_lost_by (by_number (g.E.EndedListeners.ended c.args.ending.now)) old.kept old.listeners p n there)

pub is_first-requires-clause-rise : goal.is_first-requires-clause-rise
is_first-requires-clause-rise g c =
    let sound : IsSound c.args.self.now = subst IsSound c.self.view_is c.self.invariant in
    subst (AllPairs (λ (l m : Registered). l.0 < m.0)) (λ i. (sym c.self.view_is i).listeners) sound.listeners

pub is_first-requires-clause-own : goal.is_first-requires-clause-own
is_first-requires-clause-own g c =
    let old : Cover = c.args.self.now in
    let sound : IsSound old = subst IsSound c.self.view_is c.self.invariant in
    let n : ℕ = c.args.number in
    own_at old.listeners sound.forms n c.in-Some.listener.now
    (sym (ap option_copied (sym c.in-Some.is) ∙ c.at.ensures ∙ (λ i. find (λ (x : Registered). x.0 == n) (c.self.view_is i).listeners)))

pub is_left-requires : goal.is_left-requires
is_left-requires g c =
    let old : Cover = c.args.self.now in
    let sound : IsSound old = subst IsSound c.self.view_is c.self.invariant in
    let n : ℕ = c.args.number in
    subst (λ f. form f ≡ f) (sym c.form-form.ensures) (own_at old.listeners sound.forms n c.in-Some.listener.now
    (sym (ap option_copied (sym c.in-Some.is) ∙ c.at.ensures ∙ (λ i. find (λ (x : Registered). x.0 == n) (c.self.view_is i).listeners))))

pub returns-then-not-is_first : goal.returns-then-not-is_first
returns-then-not-is_first g c = λ p.
    let old : Cover = c.args.self.now in
    let sound : IsSound old = subst IsSound c.self.view_is c.self.invariant in
    let n : ℕ = c.args.number in
    let l : Registered = c.in-Some.listener.now in
    let there : find (λ (x : Registered). x.0 == n) old.listeners ≡ Some l =
    sym (ap option_copied (sym c.in-Some.is) ∙ c.at.ensures ∙ (λ i. find (λ (x : Registered). x.0 == n) (c.self.view_is i).listeners)) in
    let later : is_first old.listeners l ≡ false = sym (c.is_first.ensures ∙ (λ i. is_first (c.self.view_is i).listeners l)) ∙ c.if-not-is_first.true in
    sym (seen_lost_by old sound (by_number (g.E.EndedListeners.ended c.args.ending.now)) p n l there later)

pub returns-then-is_left : goal.returns-then-is_left
returns-then-is_left g c = λ p.
    let old : Cover = c.args.self.now in
    let sound : IsSound old = subst IsSound c.self.view_is c.self.invariant in
    let ends : Registered → Bool = by_number (g.E.EndedListeners.ended c.args.ending.now) in
    let n : ℕ = c.args.number in
    let l : Registered = c.in-Some.listener.now in
    let there : find (λ (x : Registered). x.0 == n) old.listeners ≡ Some l =
    sym (ap option_copied (sym c.in-Some.is) ∙ c.at.ensures ∙ (λ i. find (λ (x : Registered). x.0 == n) (c.self.view_is i).listeners)) in
    let left : is_left_form ends old.listeners l.1 ≡ true = sym (c.is_left.ensures ∙ (λ i. is_left_form ends (c.self.view_is i).listeners (c.form-form.ensures i))) ∙ c.if-is_left.true in
    sym (left_lost_by old sound ends p n l there left)

pub returns : goal.returns
returns g c = λ p.
    let old : Cover = c.args.self.now in
    let sound : IsSound old = subst IsSound c.self.view_is c.self.invariant in
    let ends : Registered → Bool = by_number (g.E.EndedListeners.ended c.args.ending.now) in
    let n : ℕ = c.args.number in
    let l : Registered = c.in-Some.listener.now in
    let there : find (λ (x : Registered). x.0 == n) old.listeners ≡ Some l =
    sym (ap option_copied (sym c.in-Some.is) ∙ c.at.ensures ∙ (λ i. find (λ (x : Registered). x.0 == n) (c.self.view_is i).listeners)) in
    let first : is_first old.listeners l ≡ true = sym (c.is_first.ensures ∙ (λ i. is_first (c.self.view_is i).listeners l)) ∙ c.if-not-is_first.false in
    let out : is_left_form ends old.listeners l.1 ≡ false = sym (c.is_left.ensures ∙ (λ i. is_left_form ends (c.self.view_is i).listeners (c.form-form.ensures i))) ∙ c.if-is_left.false in
    let some : IfSome c.tag_of.result (λ t. list_any (λ (k : Tagged). query_eq k.form l.1 && k.tag == t) old.kept ≡ true) =
    subst (λ (x : Query × Cover). IfSome c.tag_of.result (λ t. list_any (λ (k : Tagged). query_eq k.form x.0 && k.tag == t) x.1.kept ≡ true)) (λ i. (c.form-form.ensures i, c.self.view_is i)) c.tag_of.ensures.some in
    let none : IfNone c.tag_of.result (list_any (λ (k : Tagged). query_eq k.form l.1) old.kept ≡ false) =
    subst (λ (x : Query × Cover). IfNone c.tag_of.result (list_any (λ (k : Tagged). query_eq k.form x.0) x.1.kept ≡ false)) (λ i. (c.form-form.ensures i, c.self.view_is i)) c.tag_of.ensures.none in
    lost_tag_is old sound ends p n l there first out c.tag_of.result some none
