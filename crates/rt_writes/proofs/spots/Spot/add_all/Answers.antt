use Rattle.std.proofs.Common.{◌≡◌, ◌++◌, ◌∷◌, [], take, length, Some, refl, sym, ap, subst, ◌∙◌, ◌||◌, ◌+◌, arith, rules}
use Rattle.std.proofs.lemmas.List.{take_more, take_all, length-take}
use Rattle.rt_writes.specs.inside.Spots.{is_full, AddsTrees}
use Rattle.rt_writes.proofs.SpotLaws.{changes_none, changes_more, adds_still, adds_join, adds_tell}
use Rattle.std.proofs.lemmas.List.Folds.{list_any_at}
use Rattle.rt_tree.specs.PathTree.{path_eq}
use Rattle.rt_tree.specs.Assignments.{is_at_or_above}
use Rattle.rt_writes.proofs.KeptLaws.{trees_none, trees_more, on_err}
use Rattle.rt_writes.proofs.BackLaws.{adds_keep, at_some, kept_both, on_some, some_taken}
use Rattle.rt_writes.proofs.spots.Spot.add_all.Goals as goal

pub loop-entry-init : goal.loop-entry-init
loop-entry-init c = (refl, changes_none (λ now before. now || before) adds_still is_full c.args.self.now c.args.id, trees_none c.args.self.now)

pub loop-entry-preserved : goal.loop-entry-preserved
loop-entry-preserved c =
    let keys = c.keys.ensures.keys in
    let more = take_more c.args.entries.now c.loop-entry.entry-index c.entry-item.result c.loop-entry-test.true ∙ ap (λ a. take c.loop-entry.entry-index c.args.entries.now ++ a ∷ []) (sym c.entry-item.is) in
    let place : c.loop-entry.place ≡ c.loop-entry.entry-index = c.loop-entry.invariant.0 in
    let next : c.loop-entry.place + 1 ≡ c.loop-entry.entry-index + 1 = omega (arith, place) in
    let reached : length (take c.loop-entry.entry-index c.args.entries.now) ≡ c.loop-entry.entry-index = omega (arith, length-take c.loop-entry.entry-index c.args.entries.now, c.loop-entry-test.true) in (
      next,
      changes_more (λ now before. now || before) adds_join is_full (Some c.loop-entry.place) (adds_tell c.loop-entry.place) c.args.self.now c.loop-entry.self c.add.new.self
          (take c.loop-entry.entry-index c.args.entries.now) (take (c.loop-entry.entry-index + 1) c.args.entries.now) c.entry-item.result c.args.id
          (λ i e. let same : c.loop-entry.place ≡ i = cc in omega (arith, same, place, reached))
          c.loop-entry.invariant.1 (rw (sym keys) c.in_ok-add.ensures.adds) more,
      trees_more c.args.self.now c.loop-entry.self c.add.new.self (take c.loop-entry.entry-index c.args.entries.now) (take (c.loop-entry.entry-index + 1) c.args.entries.now) c.entry-item.result
          c.loop-entry.invariant.2 (rw (sym keys) c.in_ok-add.ensures.trees) more,
    )

pub returns-clause-trees : goal.returns-clause-trees
returns-clause-trees c =
    let all : take c.loop-entry.entry-index c.args.entries.now ≡ c.args.entries.now = take_all c.loop-entry.entry-index c.args.entries.now (omega arith) in
    subst (AddsTrees c.args.self.now c.loop-entry.self) all c.loop-entry.invariant.2

pub returns-in_err-add-clause-kept : goal.returns-in_err-add-clause-kept
returns-in_err-add-clause-kept c =
    let es = c.args.entries.now in
    let before = take c.loop-entry.entry-index es in
    on_err _
    (kept_both (at_some es) (on_some es) (at_some before) (on_some before) (path_eq c.entry-item.result.0) (λ q. is_at_or_above q c.entry-item.result.0)
    c.args.self.now c.loop-entry.self c.add.new.self c.args.id
    (λ q. some_taken (λ a. path_eq a.0 q) c.loop-entry.entry-index es)
    (λ q. some_taken (λ a. is_at_or_above q a.0) c.loop-entry.entry-index es)
    (λ q e. list_any_at (λ a. path_eq a.0 q) es c.loop-entry.entry-index c.entry-item.result (search rules) (ap (λ a. path_eq a.0 q) (sym c.entry-item.is) ∙ e))
    (λ q e. list_any_at (λ a. is_at_or_above q a.0) es c.loop-entry.entry-index c.entry-item.result (search rules) (ap (λ a. is_at_or_above q a.0) (sym c.entry-item.is) ∙ e))
    (adds_keep c.args.self.now c.loop-entry.self before c.args.id c.loop-entry.invariant.1 c.loop-entry.invariant.2)
    (rw (sym c.keys.ensures.keys) c.in_err-add.ensures.kept))
