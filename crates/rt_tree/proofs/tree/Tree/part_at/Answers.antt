use Rattle.std.proofs.Common.{◌≡◌, ◌==◌, [], ◌∷◌, None, Some, lit<, not, cond, refl, sym, ap, subst, ◌∙◌}
use Rattle.std.specs.List.{filter, slice_split}
use Rattle.std.proofs.lemmas.Iterator.Splits.{YieldsList-from_str_split}
use Rattle.rt_tree.specs.Path.{path_keys, is_nonempty}
use Rattle.rt_tree.specs.Trees.{sub, non_null}
use Rattle.rt_tree.proofs.PathLemmas.{Coming, comes_next, comes_none, filter-empty, filter-some}
use Rattle.rt_tree.proofs.Named.{part_goes_on, part_ends, part_found}
use Rattle.rt_tree.proofs.tree.Tree.part_at.Goals as goal

pub loop-name-init : goal.loop-name-init
loop-name-init c = (
  _,
  subst (λ it. Coming it (slice_split (λ b. b == 47) c.args.path.now)) (sym c.into_iter-name-iterator.ensures.into_iter_gives)
      (YieldsList-from_str_split 47 c.args.path.now (lit< tt) c.split-name-items.ensures.text c.split-name-items.ensures.has_more c.split-name-items.ensures.pattern).runs,
  refl,
)

-- an empty piece counts for nothing
pub loop-name-preserved-then-is_empty : goal.loop-name-preserved-then-is_empty
loop-name-preserved-then-is_empty c =
    let kept = c.loop-name.invariant in
    let part = c.loop-name.part.now in
    let next = comes_next c.loop-name.name-iterator c.next.new.self c.in-Some.name kept.0 kept.1 c.in-Some.ensures.steps in (
      next.0,
      next.2,
      kept.2 ∙ ap (λ names. sub part (filter is_nonempty names)) next.1
          ∙ ap (sub part) (filter-empty c.in-Some.name.now next.0 (ap not (sym c.is_empty.ensures ∙ c.if-is_empty.true))),
    )

-- the child of the next name
pub loop-name-preserved : goal.loop-name-preserved
loop-name-preserved c =
    let kept = c.loop-name.invariant in
    let part = c.loop-name.part.now in
    let next = comes_next c.loop-name.name-iterator c.next.new.self c.in-Some.name kept.0 kept.1 c.in-Some.ensures.steps in (
      next.0,
      next.2,
      kept.2 ∙ ap (λ names. sub part (filter is_nonempty names)) next.1
          ∙ ap (sub part) (filter-some c.in-Some.name.now next.0 (ap not (sym c.is_empty.ensures ∙ c.if-is_empty.false)))
          ∙ part_goes_on part c.in-Some-child.child.now c.in-Some.name.now (filter is_nonempty next.0) c.in-Some-child.ensures,
    )

-- there is none
pub returns-in-None-child : goal.returns-in-None-child
returns-in-None-child c =
    let kept = c.loop-name.invariant in
    let part = c.loop-name.part.now in
    let next = comes_next c.loop-name.name-iterator c.next.new.self c.in-Some.name kept.0 kept.1 c.in-Some.ensures.steps in
    part_ends part c.in-Some.name.now (filter is_nonempty next.0) c.in-None-child.ensures
    ∙ ap non_null (sym (kept.2 ∙ ap (λ names. sub part (filter is_nonempty names)) next.1
    ∙ ap (sub part) (filter-some c.in-Some.name.now next.0 (ap not (sym c.is_empty.ensures ∙ c.if-is_empty.false)))))

-- no name is left
pub returns-then-is_null : goal.returns-then-is_null
returns-then-is_null c =
    let kept = c.loop-name.invariant in
    let part = c.loop-name.part.now in
    let none = comes_none c.loop-name.name-iterator c.next.new.self kept.0 kept.1 c.in-None.ensures.steps in
    sym (ap non_null (kept.2 ∙ part_found part (filter is_nonempty kept.0) (ap (filter is_nonempty) none))
    ∙ ap (λ b. cond b None (Some part)) (sym c.is_null.ensures ∙ c.if-is_null.true))

pub returns-else-is_null : goal.returns-else-is_null
returns-else-is_null c =
    let kept = c.loop-name.invariant in
    let part = c.loop-name.part.now in
    let none = comes_none c.loop-name.name-iterator c.next.new.self kept.0 kept.1 c.in-None.ensures.steps in
    sym (ap non_null (kept.2 ∙ part_found part (filter is_nonempty kept.0) (ap (filter is_nonempty) none))
    ∙ ap (λ b. cond b None (Some part)) (sym c.is_null.ensures ∙ c.if-is_null.false))
