use Rattle.std.proofs.Common.{true, ◌==◌, ◌&&◌, not, Some, None, cond, refl, sym, ap, subst, ◌∙◌, inl, inr, ⊎_elim}
use Rattle.std.specs.Option.{IsSome}
use Rattle.std.specs.Ordering.{nat_cmp}
use Rattle.std.specs.BTreeMap.{get}
use Rattle.rt_tree.specs.PathTree.{key_cmp, path_eq, null}
use Rattle.rt_tree.specs.Assignments.{is_at_or_above}
use Rattle.rt_writes.specs.declared.spots.Spot.TheViews.{out-Spot, roll-Spot, out-roll-Spot}
use Rattle.rt_writes.specs.inside.Spots.{below_of}
use Rattle.rt_writes.proofs.SpotLaws.{layer, here_kept, below_kept, changes_root, changes_below, forgets_still, from_none, get_absent, get_removed, get_set, bare_place, bare_under, bare_full, same_both, place_in, under_in, full_in, here_in}
use Rattle.rt_writes.proofs.KeptLaws.{keeps_root, keeps_below, tree_in}
use Rattle.rt_writes.proofs.spots.Spot.+forget.Goals as goal

pub returns-in_default-clause-forgets : goal.returns-in_default-clause-forgets
returns-in_default-clause-forgets t c =
    rw (out-roll-Spot (layer c.args.self.now c.strike.new.self))
    (changes_root (λ now before. not now && before) forgets_still None true c.args.self.now c.strike-in_default.new.numbers c.strike.new.self c.args.id
    (λ j. c.strike-in_default.ensures j ∙ ap (λ s. cond (c.args.id == j) None (get nat_cmp s j)) (here_kept c.args.self.now c.strike.new.self))
    c.strike.ensures.all c.strike.ensures.full c.args.keys.now c.in_default.ensures.cases)

pub returns-in_default-get_mut-clause-forgets : goal.returns-in_default-get_mut-clause-forgets
returns-in_default-get_mut-clause-forgets t c =
    let kept = below_kept c.args.self.now c.strike.new.self in
    let none = c.in_default-get_mut.ensures.value ∙ ap (λ m. get key_cmp m c.in-Some.key.now) kept in
    rw (out-roll-Spot (layer c.args.self.now c.strike.new.self))
    (changes_below (λ now before. not now && before) forgets_still None true c.args.self.now c.strike.new.self c.get_mut.follows.lender-at-none
    c.in-Some.key.now c.in-Some.rest.now c.args.id None c.strike.ensures.all c.strike.ensures.full
    (get_absent (get key_cmp (below_of c.args.self.now)) (get key_cmp c.get_mut.follows.lender-at-none) c.in-Some.key.now
    (λ x. ap (λ m. get key_cmp m x) (c.get_mut.follows.holds-at-none ∙ kept)) (sym none))
    (λ q j. same_both (path_eq c.in-Some.rest.now q && (c.args.id == j)) None ∙ ap (λ o. cond (path_eq c.in-Some.rest.now q && (c.args.id == j)) None (place_in o q j)) none)
    (λ q j. from_none (is_at_or_above q c.in-Some.rest.now && (c.args.id == j)) ∙ ap (λ o. not (is_at_or_above q c.in-Some.rest.now && (c.args.id == j)) && under_in o q j) none)
    (λ q j. from_none ((is_at_or_above q c.in-Some.rest.now && true) && (c.args.id == j)) ∙ ap (λ o. not ((is_at_or_above q c.in-Some.rest.now && true) && (c.args.id == j)) && full_in o q j) none)
    c.args.keys.now c.in-Some.ensures.cases.0)

pub returns-then-is_bare-clause-forgets : goal.returns-then-is_bare-clause-forgets
returns-then-is_bare-clause-forgets t c =
    let kept = below_kept c.args.self.now c.strike.new.self in
    let found = c.in-Some-get_mut.ensures.value ∙ ap (λ m. get key_cmp m c.in-Some.key.now) kept in
    let bare = c.if-is_bare.ensures refl in
    let lent = c.get_mut.follows.lender c.forget.new.self in
    let then = out-roll-Spot (record {
      here = (out-Spot (roll-Spot (layer c.args.self.now c.strike.new.self))).here;
      under = (out-Spot (roll-Spot (layer c.args.self.now c.strike.new.self))).under;
      below = c.get_mut.follows.lender c.forget.new.self;
    }) in
    rw (then, out-roll-Spot (layer c.args.self.now c.strike.new.self))
    (changes_below (λ now before. not now && before) forgets_still None true c.args.self.now c.strike.new.self c.remove.new.self
    c.in-Some.key.now c.in-Some.rest.now c.args.id None c.strike.ensures.all c.strike.ensures.full
    (get_removed (get key_cmp (below_of c.args.self.now)) (get key_cmp lent) (get key_cmp c.remove.new.self) c.in-Some.key.now (Some c.forget.new.self)
    (get_set _ lent (below_of c.args.self.now) c.in-Some.key.now c.in-Some.key.now (Some c.forget.new.self) refl kept
    ((c.get_mut.follows.holds c.forget.new.self).3 (subst IsSome c.in-Some-get_mut.ensures.value refl)).0)
    (get_set _ c.remove.new.self lent c.in-Some.key.now c.in-Some.key.now None refl (ap (λ r. r.below) then) c.remove.ensures.updates.0))
    (λ q j. sym (bare_place c.forget.new.self bare.here bare.below q j) ∙ c.forget.ensures.forgets.places q j
    ∙ ap (λ o. cond (path_eq c.in-Some.rest.now q && (c.args.id == j)) None (place_in o q j)) found)
    (λ q j. sym (bare_under c.forget.new.self bare.under.all bare.below q j) ∙ c.forget.ensures.forgets.under q j
    ∙ ap (λ o. not (is_at_or_above q c.in-Some.rest.now && (c.args.id == j)) && under_in o q j) found)
    (λ q j. sym (bare_full c.forget.new.self bare.under.full bare.below q j) ∙ c.forget.ensures.forgets.full q j
    ∙ ap (λ o. not ((is_at_or_above q c.in-Some.rest.now && true) && (c.args.id == j)) && full_in o q j) found)
    c.args.keys.now c.in-Some.ensures.cases.0)

pub returns-else-is_bare-clause-forgets : goal.returns-else-is_bare-clause-forgets
returns-else-is_bare-clause-forgets t c =
    let kept = below_kept c.args.self.now c.strike.new.self in
    let found = c.in-Some-get_mut.ensures.value ∙ ap (λ m. get key_cmp m c.in-Some.key.now) kept in
    rw (out-roll-Spot (layer c.args.self.now c.strike.new.self))
    (changes_below (λ now before. not now && before) forgets_still None true c.args.self.now c.strike.new.self (c.get_mut.follows.lender c.forget.new.self)
    c.in-Some.key.now c.in-Some.rest.now c.args.id (Some c.forget.new.self) c.strike.ensures.all c.strike.ensures.full
    (get_set _ (c.get_mut.follows.lender c.forget.new.self) (below_of c.args.self.now) c.in-Some.key.now c.in-Some.key.now (Some c.forget.new.self) refl kept
    ((c.get_mut.follows.holds c.forget.new.self).3 (subst IsSome c.in-Some-get_mut.ensures.value refl)).0)
    (λ q j. c.forget.ensures.forgets.places q j ∙ ap (λ o. cond (path_eq c.in-Some.rest.now q && (c.args.id == j)) None (place_in o q j)) found)
    (λ q j. c.forget.ensures.forgets.under q j ∙ ap (λ o. not (is_at_or_above q c.in-Some.rest.now && (c.args.id == j)) && under_in o q j) found)
    (λ q j. c.forget.ensures.forgets.full q j ∙ ap (λ o. not ((is_at_or_above q c.in-Some.rest.now && true) && (c.args.id == j)) && full_in o q j) found)
    c.args.keys.now c.in-Some.ensures.cases.0)

pub returns-in_default-clause-trees : goal.returns-in_default-clause-trees
returns-in_default-clause-trees t c =
    rw (out-roll-Spot (layer c.args.self.now c.strike.new.self))
    (keeps_root c.args.self.now c.strike-in_default.new.numbers c.strike.new.self null c.args.keys.now c.args.id c.is_set_after-is_hidden.result
    c.in_default.ensures.cases c.strike.ensures.tree c.is_set_after-is_hidden.ensures)

pub returns-in_default-get_mut-clause-trees : goal.returns-in_default-get_mut-clause-trees
returns-in_default-get_mut-clause-trees t c =
    let kept = below_kept c.args.self.now c.strike.new.self in
    let none = c.in_default-get_mut.ensures.value ∙ ap (λ m. get key_cmp m c.in-Some.key.now) kept in
    rw (out-roll-Spot (layer c.args.self.now c.strike.new.self))
    (keeps_below c.args.self.now c.strike.new.self c.get_mut.follows.lender-at-none
    c.in-Some.key.now c.in-Some.rest.now null None c.args.id c.is_set_after-is_hidden.result
    (get_absent (get key_cmp (below_of c.args.self.now)) (get key_cmp c.get_mut.follows.lender-at-none) c.in-Some.key.now
    (λ x. ap (λ m. get key_cmp m x) (c.get_mut.follows.holds-at-none ∙ kept)) (sym none))
    (λ q v e. cc)
    c.strike.ensures.tree c.is_set_after-is_hidden.ensures c.args.keys.now c.in-Some.ensures.cases.0)

pub returns-then-is_bare-clause-trees : goal.returns-then-is_bare-clause-trees
returns-then-is_bare-clause-trees t c =
    let kept = below_kept c.args.self.now c.strike.new.self in
    let lent = c.get_mut.follows.lender c.forget.new.self in
    let then = out-roll-Spot (record {
      here = (out-Spot (roll-Spot (layer c.args.self.now c.strike.new.self))).here;
      under = (out-Spot (roll-Spot (layer c.args.self.now c.strike.new.self))).under;
      below = c.get_mut.follows.lender c.forget.new.self;
    }) in
    rw (then, out-roll-Spot (layer c.args.self.now c.strike.new.self))
    (keeps_below c.args.self.now c.strike.new.self c.remove.new.self
    c.in-Some.key.now c.in-Some.rest.now null None c.args.id c.is_set_after-is_hidden.result
    (get_removed (get key_cmp (below_of c.args.self.now)) (get key_cmp lent) (get key_cmp c.remove.new.self) c.in-Some.key.now (Some c.forget.new.self)
    (get_set _ lent (below_of c.args.self.now) c.in-Some.key.now c.in-Some.key.now (Some c.forget.new.self) refl kept
    ((c.get_mut.follows.holds c.forget.new.self).3 (subst IsSome c.in-Some-get_mut.ensures.value refl)).0)
    (get_set _ c.remove.new.self lent c.in-Some.key.now c.in-Some.key.now None refl (ap (λ r. r.below) then) c.remove.ensures.updates.0))
    (λ q v e. cc)
    c.strike.ensures.tree c.is_set_after-is_hidden.ensures c.args.keys.now c.in-Some.ensures.cases.0)

pub returns-else-is_bare-clause-trees : goal.returns-else-is_bare-clause-trees
returns-else-is_bare-clause-trees t c =
    let kept = below_kept c.args.self.now c.strike.new.self in
    let found = c.in-Some-get_mut.ensures.value ∙ ap (λ m. get key_cmp m c.in-Some.key.now) kept in
    rw (out-roll-Spot (layer c.args.self.now c.strike.new.self))
    (keeps_below c.args.self.now c.strike.new.self (c.get_mut.follows.lender c.forget.new.self)
    c.in-Some.key.now c.in-Some.rest.now null (Some c.forget.new.self) c.args.id c.is_set_after-is_hidden.result
    (get_set _ (c.get_mut.follows.lender c.forget.new.self) (below_of c.args.self.now) c.in-Some.key.now c.in-Some.key.now (Some c.forget.new.self) refl kept
    ((c.get_mut.follows.holds c.forget.new.self).3 (subst IsSome c.in-Some-get_mut.ensures.value refl)).0)
    (λ q v e.
    let it = c.forget.ensures.trees q v e in
    (sym (ap (λ o. tree_in o q) found) ∙ it.0, ⊎_elim (λ g. inl g) (λ g. inr (g.0, g.1, sym (ap (λ o. here_in o q g.0) found) ∙ g.2)) it.1))
    c.strike.ensures.tree c.is_set_after-is_hidden.ensures c.args.keys.now c.in-Some.ensures.cases.0)
