use Rattle.std.proofs.Common.{◌≡◌, length, Some, None, arith, ap, ◌∙◌}
use Rattle.rt_tree.specs.PathTree.{child_of}
use Rattle.rt_tree.specs.Children.{children_of}
use Rattle.rt_peer.specs.Lengths.{capped}
use Rattle.rt_peer.proofs.TextLengths.{are_at, below, child_fits, child_there, whole-both, whole-came, whole-gone, whole-none}
use Rattle.rt_peer.proofs.write.+changed.Goals as goal

pub changed-requires : goal.changed-requires
changed-requires t c =
    let B = c.args.before.now in
    let A = c.args.after.now in
    let k = c.in-Some.key.now in
    let p = c.in-Some.rest.now in
    let at =
    are_at B A c.args.keys.now k p c.in-Some-children.ensures.object c.in-Some-children-2.ensures.object
    c.in-Some-children.ensures.allowed c.in-Some-children-2.ensures.allowed c.in-Some.ensures.cases.0 c.requires.put in
    let old : child_of (children_of B) k ≡ Some c.in-Some-Some.old.now =
    child_there B k c.in-Some-children.olds.now.entries (Some c.in-Some-Some.old.now) c.in-Some-children.ensures.children c.in-Some-Some.ensures.value in
    let new : child_of (children_of A) k ≡ Some c.in-Some-Some.new.now =
    child_there A k c.in-Some-children-2.news.now.entries (Some c.in-Some-Some.new.now) c.in-Some-children-2.ensures.children c.in-Some-Some.ensures'.value in (
      omega (arith, c.decreases, ap length c.in-Some.ensures.cases.0),
      (
        omega (arith, child_fits B A k p c.args.whole c.in-Some-Some.old.now at c.requires.counted old),
        (c.requires.exact, below B A k p c.in-Some-Some.old.now c.in-Some-Some.new.now at.differs old new),
      ),
    )

pub overflow_sub-result : goal.overflow_sub-result
overflow_sub-result t c =
    let B = c.args.before.now in
    let A = c.args.after.now in
    let k = c.in-Some.key.now in
    let p = c.in-Some.rest.now in
    let at =
    are_at B A c.args.keys.now k p c.in-Some-children.ensures.object c.in-Some-children-2.ensures.object
    c.in-Some-children.ensures.allowed c.in-Some-children-2.ensures.allowed c.in-Some.ensures.cases.0 c.requires.put in
    let old : child_of (children_of B) k ≡ Some c.in-Some-None.old.now =
    child_there B k c.in-Some-children.olds.now.entries (Some c.in-Some-None.old.now) c.in-Some-children.ensures.children c.in-Some-None.ensures.value in
    omega (
      arith,
      child_fits B A k p c.args.whole c.in-Some-None.old.now at c.requires.counted old,
      c.text_len.ensures,
      c.entry_len.ensures,
    )

pub returns-in-Some-Some : goal.returns-in-Some-Some
returns-in-Some-Some t c =
    let B = c.args.before.now in
    let A = c.args.after.now in
    let k = c.in-Some.key.now in
    let p = c.in-Some.rest.now in
    let at =
    are_at B A c.args.keys.now k p c.in-Some-children.ensures.object c.in-Some-children-2.ensures.object
    c.in-Some-children.ensures.allowed c.in-Some-children-2.ensures.allowed c.in-Some.ensures.cases.0 c.requires.put in
    let old : child_of (children_of B) k ≡ Some c.in-Some-Some.old.now =
    child_there B k c.in-Some-children.olds.now.entries (Some c.in-Some-Some.old.now) c.in-Some-children.ensures.children c.in-Some-Some.ensures.value in
    let new : child_of (children_of A) k ≡ Some c.in-Some-Some.new.now =
    child_there A k c.in-Some-children-2.news.now.entries (Some c.in-Some-Some.new.now) c.in-Some-children-2.ensures.children c.in-Some-Some.ensures'.value in
    c.changed.ensures
    ∙ ap capped (whole-both B A k p c.args.whole c.in-Some-Some.old.now c.in-Some-Some.new.now at c.requires.counted old new)

pub returns-in-Some-None : goal.returns-in-Some-None
returns-in-Some-None t c =
    let B = c.args.before.now in
    let A = c.args.after.now in
    let k = c.in-Some.key.now in
    let p = c.in-Some.rest.now in
    let at =
    are_at B A c.args.keys.now k p c.in-Some-children.ensures.object c.in-Some-children-2.ensures.object
    c.in-Some-children.ensures.allowed c.in-Some-children-2.ensures.allowed c.in-Some.ensures.cases.0 c.requires.put in
    let old : child_of (children_of B) k ≡ Some c.in-Some-None.old.now =
    child_there B k c.in-Some-children.olds.now.entries (Some c.in-Some-None.old.now) c.in-Some-children.ensures.children c.in-Some-None.ensures.value in
    let new : child_of (children_of A) k ≡ None =
    child_there A k c.in-Some-children-2.news.now.entries None c.in-Some-children-2.ensures.children c.in-Some-None.ensures'.value in
    omega (
      arith,
      whole-gone B A k p c.args.whole c.in-Some-None.old.now at c.requires.counted old new,
      child_fits B A k p c.args.whole c.in-Some-None.old.now at c.requires.counted old,
      c.requires.exact,
      c.text_len.ensures,
      c.entry_len.ensures,
    )

pub returns-in-None-Some : goal.returns-in-None-Some
returns-in-None-Some t c =
    let B = c.args.before.now in
    let A = c.args.after.now in
    let k = c.in-Some.key.now in
    let p = c.in-Some.rest.now in
    let at =
    are_at B A c.args.keys.now k p c.in-Some-children.ensures.object c.in-Some-children-2.ensures.object
    c.in-Some-children.ensures.allowed c.in-Some-children-2.ensures.allowed c.in-Some.ensures.cases.0 c.requires.put in
    let old : child_of (children_of B) k ≡ None =
    child_there B k c.in-Some-children.olds.now.entries None c.in-Some-children.ensures.children c.in-None-Some.ensures.value in
    let new : child_of (children_of A) k ≡ Some c.in-None-Some.new.now =
    child_there A k c.in-Some-children-2.news.now.entries (Some c.in-None-Some.new.now) c.in-Some-children-2.ensures.children c.in-None-Some.ensures'.value in
    omega (
      arith,
      whole-came B A k p c.args.whole c.in-None-Some.new.now at c.requires.counted old new,
      c.text_len-in-None-Some.ensures,
      c.entry_len-in-None-Some.ensures,
      c.saturating_add.ensures,
    )

pub returns-in-None-None : goal.returns-in-None-None
returns-in-None-None t c =
    let B = c.args.before.now in
    let A = c.args.after.now in
    let k = c.in-Some.key.now in
    let p = c.in-Some.rest.now in
    let at =
    are_at B A c.args.keys.now k p c.in-Some-children.ensures.object c.in-Some-children-2.ensures.object
    c.in-Some-children.ensures.allowed c.in-Some-children-2.ensures.allowed c.in-Some.ensures.cases.0 c.requires.put in
    let old : child_of (children_of B) k ≡ None =
    child_there B k c.in-Some-children.olds.now.entries None c.in-Some-children.ensures.children c.in-None-None.ensures.value in
    let new : child_of (children_of A) k ≡ None =
    child_there A k c.in-Some-children-2.news.now.entries None c.in-Some-children-2.ensures.children c.in-None-None.ensures'.value in
    omega (arith, whole-none B A k p c.args.whole at c.requires.counted old new, c.requires.exact)
