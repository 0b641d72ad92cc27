use Rattle.std.proofs.Common.{◌==◌, ◌&&◌, ◌||◌, Some, cond, not, refl, sym, ap, subst, ◌∙◌, inl, inr, ⊎_elim}
use Rattle.std.specs.Option.{IsSome}
use Rattle.std.specs.Ordering.{nat_cmp}
use Rattle.std.specs.BTreeMap.{get, is_at}
use Rattle.std.specs.Map.{lookup}
use Rattle.rt_tree.specs.PathTree.{key_cmp, path_eq, is_null}
use Rattle.rt_tree.specs.Assignments.{is_at_or_above}
use Rattle.rt_writes.specs.declared.spots.Spot.TheViews.{out-Spot, roll-Spot, out-roll-Spot}
use Rattle.rt_writes.specs.inside.Spots.{below_of, here_of}
use Rattle.rt_writes.proofs.SpotLaws.{on_ok, layer, here_kept, below_kept, changes_root, changes_below, adds_still, get_set, place_in, under_in, full_in}
use Rattle.std.proofs.lemmas.Result.{on_err_weaker}
use Rattle.rt_writes.proofs.KeptLaws.{trees_root, trees_below, tree_in, on_err}
use Rattle.rt_writes.proofs.BackLaws.{kept_root, kept_below, other_all, other_full}
use Rattle.rt_writes.proofs.spots.Spot.+add.Goals as goal

pub returns-in_default-clause-adds : goal.returns-in_default-clause-adds
returns-in_default-clause-adds t c =
    rw (out-roll-Spot (layer c.args.self.now c.note.new.self))
    (on_ok c.note-in_default.result
    (λ h. changes_root (λ now before. now || before) adds_still (Some c.args.place) (not (is_null c.args.tree.now)) c.args.self.now c.note-in_default.new.numbers c.note.new.self c.args.id
    (λ j. h j ∙ ap (λ s. cond (c.args.id == j) (Some c.args.place) (get nat_cmp s j)) (here_kept c.args.self.now c.note.new.self))
    c.in_ok-note.ensures.all c.in_ok-note.ensures.full c.args.keys.now c.in_default.ensures.cases)
    c.note-in_default.ensures.added)

pub returns-in-Some-get_mut-clause-adds : goal.returns-in-Some-get_mut-clause-adds
returns-in-Some-get_mut-clause-adds t c =
    let kept = below_kept c.args.self.now c.note.new.self in
    let found = c.in-Some-get_mut.ensures.value ∙ ap (λ m. get key_cmp m c.in-Some.key.now) kept in
    rw (out-roll-Spot (layer c.args.self.now c.note.new.self))
    (on_ok c.add.result
    (λ h. changes_below (λ now before. now || before) adds_still (Some c.args.place) (not (is_null c.args.tree.now)) c.args.self.now c.note.new.self (c.get_mut.follows.lender c.add.new.self)
    c.in-Some.key.now c.in-Some.rest.now c.args.id (Some c.add.new.self) c.in_ok-note.ensures.all c.in_ok-note.ensures.full
    (get_set _ (c.get_mut.follows.lender c.add.new.self) (below_of c.args.self.now) c.in-Some.key.now c.in-Some.key.now (Some c.add.new.self) refl kept
    ((c.get_mut.follows.holds c.add.new.self).3 (subst IsSome c.in-Some-get_mut.ensures.value refl)).0)
    (λ q j. h.places q j ∙ ap (λ o. cond (path_eq c.in-Some.rest.now q && (c.args.id == j)) (Some c.args.place) (place_in o q j)) found)
    (λ q j. h.under q j ∙ ap (λ o. (is_at_or_above q c.in-Some.rest.now && (c.args.id == j)) || under_in o q j) found)
    (λ q j. h.full q j ∙ ap (λ o. ((is_at_or_above q c.in-Some.rest.now && (not (is_null c.args.tree.now))) && (c.args.id == j)) || full_in o q j) found)
    c.args.keys.now c.in-Some.ensures.cases.0)
    c.add.ensures.adds)

pub returns-clause-adds : goal.returns-clause-adds
returns-clause-adds t c =
    let kept = below_kept c.args.self.now c.note.new.self in
    let none = c.in_default-get_mut.ensures.value ∙ ap (λ m. get key_cmp m c.in-Some.key.now) kept in
    let then = out-roll-Spot (record {
      here = (out-Spot (roll-Spot (layer c.args.self.now c.note.new.self))).here;
      under = (out-Spot (roll-Spot (layer c.args.self.now c.note.new.self))).under;
      below = c.get_mut.follows.lender-at-none;
    }) in
    rw (then, out-roll-Spot (layer c.args.self.now c.note.new.self))
    (changes_below (λ now before. now || before) adds_still (Some c.args.place) (not (is_null c.args.tree.now)) c.args.self.now c.note.new.self c.insert.new.self
    c.in-Some.key.now c.in-Some.rest.now c.args.id (Some c.add-2.new.self) c.in_ok-note.ensures.all c.in_ok-note.ensures.full
    (get_set _ c.insert.new.self (below_of c.args.self.now) c.in_ok-key.key c.in-Some.key.now (Some c.add-2.new.self)
    c.in_ok-key.ensures (ap (λ r. r.below) then ∙ c.get_mut.follows.holds-at-none ∙ kept) c.in_ok-insert.ensures.updates.0)
    (λ q j. c.in_ok-add.ensures.adds.places q j ∙ ap (λ x. cond (path_eq c.in-Some.rest.now q && (c.args.id == j)) (Some c.args.place) x) (c.new-child.ensures.place q j ∙ ap (λ o. place_in o q j) none))
    (λ q j. c.in_ok-add.ensures.adds.under q j ∙ ap (λ b. (is_at_or_above q c.in-Some.rest.now && (c.args.id == j)) || b) (c.new-child.ensures.under q j ∙ ap (λ o. under_in o q j) none))
    (λ q j. c.in_ok-add.ensures.adds.full q j ∙ ap (λ b. ((is_at_or_above q c.in-Some.rest.now && (not (is_null c.args.tree.now))) && (c.args.id == j)) || b) (c.new-child.ensures.full q j ∙ ap (λ o. full_in o q j) none))
    c.args.keys.now c.in-Some.ensures.cases.0)

pub returns-in_default-clause-trees : goal.returns-in_default-clause-trees
returns-in_default-clause-trees t c =
    rw (out-roll-Spot (layer c.args.self.now c.note.new.self))
    (on_ok c.note-in_default.result
    (λ h. trees_root c.args.self.now c.note-in_default.new.numbers c.note.new.self c.args.tree.now c.args.keys.now c.in_default.ensures.cases c.in_ok-note.ensures.tree)
    c.note-in_default.ensures.added)

pub returns-in-Some-get_mut-clause-trees : goal.returns-in-Some-get_mut-clause-trees
returns-in-Some-get_mut-clause-trees t c =
    let kept = below_kept c.args.self.now c.note.new.self in
    let found = c.in-Some-get_mut.ensures.value ∙ ap (λ m. get key_cmp m c.in-Some.key.now) kept in
    rw (out-roll-Spot (layer c.args.self.now c.note.new.self))
    (on_ok c.add.result
    (λ h. trees_below c.args.self.now c.note.new.self (c.get_mut.follows.lender c.add.new.self)
    c.in-Some.key.now c.in-Some.rest.now c.args.tree.now c.add.new.self
    (get_set _ (c.get_mut.follows.lender c.add.new.self) (below_of c.args.self.now) c.in-Some.key.now c.in-Some.key.now (Some c.add.new.self) refl kept
    ((c.get_mut.follows.holds c.add.new.self).3 (subst IsSome c.in-Some-get_mut.ensures.value refl)).0)
    (λ q v e. let it = h q v e in (it.0, it.1, ⊎_elim (λ g. inl g) (λ g. inr (sym (ap (λ o. tree_in o q) found) ∙ g)) it.2))
    c.args.keys.now c.in-Some.ensures.cases.0 c.in_ok-note.ensures.tree)
    c.add.ensures.trees)

pub returns-clause-trees : goal.returns-clause-trees
returns-clause-trees t c =
    let kept = below_kept c.args.self.now c.note.new.self in
    let then = out-roll-Spot (record {
      here = (out-Spot (roll-Spot (layer c.args.self.now c.note.new.self))).here;
      under = (out-Spot (roll-Spot (layer c.args.self.now c.note.new.self))).under;
      below = c.get_mut.follows.lender-at-none;
    }) in
    rw (then, out-roll-Spot (layer c.args.self.now c.note.new.self))
    (trees_below c.args.self.now c.note.new.self c.insert.new.self
    c.in-Some.key.now c.in-Some.rest.now c.args.tree.now c.add-2.new.self
    (get_set _ c.insert.new.self (below_of c.args.self.now) c.in_ok-key.key c.in-Some.key.now (Some c.add-2.new.self)
    c.in_ok-key.ensures (ap (λ r. r.below) then ∙ c.get_mut.follows.holds-at-none ∙ kept) c.in_ok-insert.ensures.updates.0)
    (λ q v e. let it = c.in_ok-add.ensures.trees q v e in (it.0, it.1, ⊎_elim (λ g. inl g) (λ g. cc (sym g ∙ c.new-child.ensures.trees q)) it.2))
    c.args.keys.now c.in-Some.ensures.cases.0 c.in_ok-note.ensures.tree)

pub returns-in_err-note-clause-kept : goal.returns-in_err-note-clause-kept
returns-in_err-note-clause-kept t c =
    on_err c.from_residual.result
    (kept_root c.args.self.now (here_of c.args.self.now) c.note.new.self (below_of c.args.self.now) c.args.keys.now c.args.id
    (λ j e. refl) c.in_err-note.ensures.kept_all c.in_err-note.ensures.kept_full (λ x. refl))

pub returns-in_default-clause-kept : goal.returns-in_default-clause-kept
returns-in_default-clause-kept t c =
    rw (out-roll-Spot (layer c.args.self.now c.note.new.self))
    (on_err_weaker c.note-in_default.result
    (λ h. kept_root c.args.self.now c.note-in_default.new.numbers c.note.new.self (below_of c.args.self.now) c.args.keys.now c.args.id
    (λ j e. h j ∙ ap (λ s. get nat_cmp s j) (here_kept c.args.self.now c.note.new.self))
    (other_all c.args.self.now c.note.new.self c.args.id c.in_ok-note.ensures.all)
    (other_full c.args.self.now c.note.new.self c.args.id (not (is_null c.args.tree.now)) c.in_ok-note.ensures.full)
    (λ x. refl))
    c.note-in_default.ensures.kept)

pub returns-in-Some-get_mut-clause-kept : goal.returns-in-Some-get_mut-clause-kept
returns-in-Some-get_mut-clause-kept t c =
    let kept = below_kept c.args.self.now c.note.new.self in
    let found = c.in-Some-get_mut.ensures.value ∙ ap (λ m. get key_cmp m c.in-Some.key.now) kept in
    rw (out-roll-Spot (layer c.args.self.now c.note.new.self))
    (on_err_weaker c.add.result
    (λ h. kept_below c.args.self.now c.note.new.self (c.get_mut.follows.lender c.add.new.self)
    c.in-Some.key.now c.in-Some.rest.now _ c.add.new.self c.args.id
    (other_all c.args.self.now c.note.new.self c.args.id c.in_ok-note.ensures.all)
    (other_full c.args.self.now c.note.new.self c.args.id (not (is_null c.args.tree.now)) c.in_ok-note.ensures.full)
    (get_set _ (c.get_mut.follows.lender c.add.new.self) (below_of c.args.self.now) c.in-Some.key.now c.in-Some.key.now (Some c.add.new.self) refl kept
    ((c.get_mut.follows.holds c.add.new.self).3 (subst IsSome c.in-Some-get_mut.ensures.value refl)).0)
    (sym found) h c.args.keys.now c.in-Some.ensures.cases.0)
    c.add.ensures.kept)

pub returns-in_err-add-clause-kept : goal.returns-in_err-add-clause-kept
returns-in_err-add-clause-kept t c =
    let kept = below_kept c.args.self.now c.note.new.self in
    rw (out-roll-Spot (layer c.args.self.now c.note.new.self))
    (on_err _
    (kept_root c.args.self.now (here_of c.args.self.now) c.note.new.self c.get_mut.follows.lender-at-none c.args.keys.now c.args.id (λ j e. refl)
    (other_all c.args.self.now c.note.new.self c.args.id c.in_ok-note.ensures.all)
    (other_full c.args.self.now c.note.new.self c.args.id (not (is_null c.args.tree.now)) c.in_ok-note.ensures.full)
    (λ x. ap (λ m. get key_cmp m x) (c.get_mut.follows.holds-at-none ∙ kept))))

pub returns-in_err-key-clause-kept : goal.returns-in_err-key-clause-kept
returns-in_err-key-clause-kept t c =
    let kept = below_kept c.args.self.now c.note.new.self in
    rw (out-roll-Spot (layer c.args.self.now c.note.new.self))
    (on_err _
    (kept_root c.args.self.now (here_of c.args.self.now) c.note.new.self c.get_mut.follows.lender-at-none c.args.keys.now c.args.id (λ j e. refl)
    (other_all c.args.self.now c.note.new.self c.args.id c.in_ok-note.ensures.all)
    (other_full c.args.self.now c.note.new.self c.args.id (not (is_null c.args.tree.now)) c.in_ok-note.ensures.full)
    (λ x. ap (λ m. get key_cmp m x) (c.get_mut.follows.holds-at-none ∙ kept))))

pub returns-in_err-insert-clause-kept : goal.returns-in_err-insert-clause-kept
returns-in_err-insert-clause-kept t c =
    let kept = below_kept c.args.self.now c.note.new.self in
    let then = out-roll-Spot (record {
      here = (out-Spot (roll-Spot (layer c.args.self.now c.note.new.self))).here;
      under = (out-Spot (roll-Spot (layer c.args.self.now c.note.new.self))).under;
      below = c.get_mut.follows.lender-at-none;
    }) in
    rw (then, out-roll-Spot (layer c.args.self.now c.note.new.self))
    (on_err _
    (kept_root c.args.self.now (here_of c.args.self.now) c.note.new.self c.insert.new.self c.args.keys.now c.args.id (λ j e. refl)
    (other_all c.args.self.now c.note.new.self c.args.id c.in_ok-note.ensures.all)
    (other_full c.args.self.now c.note.new.self c.args.id (not (is_null c.args.tree.now)) c.in_ok-note.ensures.full)
    (λ x. ap (λ es. lookup (is_at (key_cmp x)) es) c.in_err-insert.ensures.err
    ∙ ap (λ m. get key_cmp m x) (ap (λ r. r.below) then ∙ c.get_mut.follows.holds-at-none ∙ kept))))
