use Rattle.std.proofs.Common.{◌≡◌, [], ◌∷◌, ap, sym, ◌∙◌, false, subst}
use Rattle.rt_tree.specs.Trees.{is_null, put, child_of, children_of, MayStandAt}
use Rattle.rt_tree.proofs.Nodes.{at-Object, kept-Object, childless}
use Rattle.rt_tree.proofs.Trees.{put-object, object_after, children_of-object}
use Rattle.rt_tree.proofs.Emptied.{children_left}
use Rattle.rt_tree.proofs.tree.Tree.replace_child.Goals as goal

pub replace_in-requires-clause-kept : goal.replace_in-requires-clause-kept
replace_in-requires-clause-kept c = kept-Object c.self.invariant c.in-Object.is

pub invariant_of-self-in-Object : goal.invariant_of-self-in-Object
invariant_of-self-in-Object c =
    let kept = kept-Object c.self.invariant c.in-Object.is in
    let es = c.in-Object.children.entries in
    let fs = c.replace_in.new.children.entries in
    object_after es fs c.args.key.now [] c.args.tree kept.full kept.allowed c.in_ok-old.ensures.ok
    (children_left es fs c.args.key.now [] c.args.tree c.in_ok-old.ensures.ok
    (subst (λ s. is_null (put s (c.args.key.now ∷ []) c.args.tree) ≡ false) (at-Object c.self.view_is c.in-Object.is) c.requires.left))
    c.in_ok-old.ensures.ordered c.requires.fits

pub returns-in-Object-clause-ok : goal.returns-in-Object-clause-ok
returns-in-Object-clause-ok c =
    rw (at-Object c.self.view_is c.in-Object.is)
    (sym (put-object c.in-Object.children.entries c.replace_in.new.children.entries c.args.key.now [] c.args.tree c.in_ok-old.ensures.ok))

pub returns-in-Object-clause-old : goal.returns-in-Object-clause-old
returns-in-Object-clause-old c =
    let whole = children_of-object c.in-Object.children.entries (kept-Object c.self.invariant c.in-Object.is) in
    c.in_ok-old.ensures.old ∙ ap (λ es. child_of es c.args.key.now) (whole ∙ ap children_of (sym (at-Object c.self.view_is c.in-Object.is)))

pub put_at-requires-clause-fits : goal.put_at-requires-clause-fits
put_at-requires-clause-fits c = subst (λ p. MayStandAt p c.args.tree) (sym c.from_ref.ensures.value) c.requires.fits

pub put_at-requires-clause-left : goal.put_at-requires-clause-left
put_at-requires-clause-left c =
    ap (λ s. is_null (put s c.from_ref.result.now c.args.tree)) c.self.view_is
    ∙ ap (λ p. is_null (put c.args.self.now p c.args.tree)) c.from_ref.ensures.value ∙ c.requires.left

-- what is no object has no child
pub returns : goal.returns
returns c = record {
  ok =
      c.in_ok-put_at.ensures.ok
      ∙ ap (λ s. put s c.from_ref.result.now c.args.tree) c.self.view_is
      ∙ ap (λ p. put c.args.self.now p c.args.tree) c.from_ref.ensures.value;
  old = childless c.self.inside.node c.args.self.now c.args.key.now c.self.view_is c.in_default.not-Object;
  err = tt;
}
