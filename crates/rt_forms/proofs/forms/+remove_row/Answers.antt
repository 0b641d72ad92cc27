use Rattle.std.proofs.Common.{rules, ◌≡◌, ◌==◌, ◌++◌, ◌∷◌, [], Some, length, sym, ap, subst, ◌∙◌, arith}
use Rattle.std.specs.List.{list_any}
use Rattle.slab.specs.Slab.{get}
use Rattle.rt_nodes.specs.Forest.{row_at}
use Rattle.rt_nodes.proofs.Near.{told_below}
use Rattle.rt_forms.specs.inside.Trees.{seen_in, IsTaken}
use Rattle.rt_forms.proofs.NodeLaws.{there_at, at_row, at_once, at_numbers}
use Rattle.rt_forms.proofs.LeaveLaws.{nothing_there, leave_good, leave_some, may_leave, prune_here, taken_here, prune_below, taken_below}
use Rattle.rt_forms.proofs.ViewLaws.{no_path}
use Rattle.rt_forms.proofs.forms.+remove_row.Goals as goal

pub returns-in_default : goal.returns-in_default
returns-in_default t c =
    absurd (nothing_there c.args.nodes.now c.args.row.first c.args.row.parent c.args.key.now _ _ c.requires.row (sym c.seek.ensures ∙ c.in_default.is) c.args.query.now c.args.rest.now c.args.number c.requires.there)

pub end_at-requires : goal.end_at-requires
end_at-requires t c =
    let s = c.args.nodes.now in
    let o = c.args.row.first in
    let spot = sym c.seek.ensures ∙ c.in-Here.is in
    let node = there_at s o c.args.row.parent c.args.key.now c.in-Here.index c.requires.row spot in
    let short : c.args.rest.now ≡ [] = no_path c.args.rest.now c.in-None.ensures.cases in (
      node.slot,
      node.there,
      ap (list_any (λ m. m == c.args.number)) (sym (at_numbers s o c.args.row.parent c.args.key.now c.in-Here.index node.slot c.requires.row c.requires.once spot node.there c.args.query.now []) ∙ ap (λ p. seen_in c.args.query.now c.args.key.now p (row_at s o)) (sym short)) ∙ c.requires.there,
      leave_some s o c.args.row.parent c.args.key.now c.in-Here.index node.slot c.requires.row c.requires.once spot node.there c.requires.good.0 c.requires.good.1,
    )

pub prune-requires-clause-head : goal.prune-requires-clause-head
prune-requires-clause-head t c =
    let s = c.args.nodes.now in
    let o = c.args.row.first in
    let spot = sym c.seek.ensures ∙ c.in-Here.is in
    let node = there_at s o c.args.row.parent c.args.key.now c.in-Here.index c.requires.row spot in
    (prune_here s o c.args.row.parent c.args.key.now c.in-Here.index node.slot c.requires.row c.requires.once spot node.there c.requires.good.0 c.requires.good.1
    c.end_at.new.nodes c.args.query.now c.args.number c.end_at.ensures).0

pub prune-requires-clause-once : goal.prune-requires-clause-once
prune-requires-clause-once t c =
    let s = c.args.nodes.now in
    let o = c.args.row.first in
    let spot = sym c.seek.ensures ∙ c.in-Here.is in
    let node = there_at s o c.args.row.parent c.args.key.now c.in-Here.index c.requires.row spot in
    (prune_here s o c.args.row.parent c.args.key.now c.in-Here.index node.slot c.requires.row c.requires.once spot node.there c.requires.good.0 c.requires.good.1
    c.end_at.new.nodes c.args.query.now c.args.number c.end_at.ensures).1

pub prune-requires-clause-there : goal.prune-requires-clause-there
prune-requires-clause-there t c =
    let s = c.args.nodes.now in
    let o = c.args.row.first in
    let spot = sym c.seek.ensures ∙ c.in-Here.is in
    let node = there_at s o c.args.row.parent c.args.key.now c.in-Here.index c.requires.row spot in
    (prune_here s o c.args.row.parent c.args.key.now c.in-Here.index node.slot c.requires.row c.requires.once spot node.there c.requires.good.0 c.requires.good.1
    c.end_at.new.nodes c.args.query.now c.args.number c.end_at.ensures).2

pub unwrap-requires : goal.unwrap-requires
unwrap-requires t c =
    let node = there_at c.args.nodes.now c.args.row.first c.args.row.parent c.args.key.now c.in-Here.index c.requires.row (sym c.seek.ensures ∙ c.in-Here.is) in
    let there : get c.args.nodes.now c.in-Here.index ≡ Some node.slot = node.there in
    search (rules, there)

pub remove_row-below-requires : goal.remove_row-below-requires
remove_row-below-requires t c =
    let s = c.args.nodes.now in
    let o = c.args.row.first in
    let slot = c.unwrap.result.now in
    let there : get s c.in-Here.index ≡ Some slot = search rules in
    let spot = sym c.seek.ensures ∙ c.in-Here.is in
    let goes = c.in-Some.ensures.cases.0 in (
      omega (arith, c.decreases, ap length goes),
      (
        at_row s o c.args.row.parent c.args.key.now c.in-Here.index slot c.requires.row c.requires.once spot there,
        (
          told_below s o c.args.row.parent c.in-Here.index slot c.requires.told there,
          (
            at_once s o c.args.row.parent c.args.key.now c.in-Here.index slot c.requires.row c.requires.once spot there,
            (
              (c.requires.good.0 ++ c.args.key.now ∷ [], leave_good s o c.args.row.parent c.args.key.now c.in-Here.index slot c.requires.row c.requires.once spot there c.requires.good.0 c.requires.good.1),
              ap (list_any (λ m. m == c.args.number)) (sym (ap (λ p. seen_in c.args.query.now c.args.key.now p (row_at s o)) goes
                  ∙ at_numbers s o c.args.row.parent c.args.key.now c.in-Here.index slot c.requires.row c.requires.once spot there c.args.query.now (c.in-Some.child.now ∷ c.in-Some.rest.now))) ∙ c.requires.there,
            ),
          ),
        ),
      ),
    )

pub leave_at-requires : goal.leave_at-requires
leave_at-requires t c =
    let s = c.args.nodes.now in
    let slot = c.unwrap.result.now in
    let there : get s c.in-Here.index ≡ Some slot = search rules in
    may_leave s c.args.row.first c.args.row.parent c.args.key.now c.in-Here.index slot c.requires.row c.requires.once (sym c.seek.ensures ∙ c.in-Here.is) there c.requires.good.0 c.requires.good.1
    c.remove_row-below.new.nodes c.remove_row-below.result c.in-Some.child.now c.in-Some.rest.now c.args.query.now c.args.number c.remove_row-below.ensures

pub prune-requires-in-Some-clause-head : goal.prune-requires-in-Some-clause-head
prune-requires-in-Some-clause-head t c =
    let s = c.args.nodes.now in
    let slot = c.unwrap.result.now in
    let there : get s c.in-Here.index ≡ Some slot = search rules in
    (prune_below s c.args.row.first c.args.row.parent c.args.key.now c.in-Here.index slot c.requires.row c.requires.once (sym c.seek.ensures ∙ c.in-Here.is) there c.requires.good.0 c.requires.good.1
    c.remove_row-below.new.nodes c.remove_row-below.result c.in-Some.child.now c.in-Some.rest.now c.args.query.now c.args.number c.remove_row-below.ensures
    c.leave_at.new.nodes c.leave_at.ensures).0

pub prune-requires-in-Some-clause-once : goal.prune-requires-in-Some-clause-once
prune-requires-in-Some-clause-once t c =
    let s = c.args.nodes.now in
    let slot = c.unwrap.result.now in
    let there : get s c.in-Here.index ≡ Some slot = search rules in
    (prune_below s c.args.row.first c.args.row.parent c.args.key.now c.in-Here.index slot c.requires.row c.requires.once (sym c.seek.ensures ∙ c.in-Here.is) there c.requires.good.0 c.requires.good.1
    c.remove_row-below.new.nodes c.remove_row-below.result c.in-Some.child.now c.in-Some.rest.now c.args.query.now c.args.number c.remove_row-below.ensures
    c.leave_at.new.nodes c.leave_at.ensures).1

pub prune-requires-in-Some-clause-there : goal.prune-requires-in-Some-clause-there
prune-requires-in-Some-clause-there t c =
    let s = c.args.nodes.now in
    let slot = c.unwrap.result.now in
    let there : get s c.in-Here.index ≡ Some slot = search rules in
    (prune_below s c.args.row.first c.args.row.parent c.args.key.now c.in-Here.index slot c.requires.row c.requires.once (sym c.seek.ensures ∙ c.in-Here.is) there c.requires.good.0 c.requires.good.1
    c.remove_row-below.new.nodes c.remove_row-below.result c.in-Some.child.now c.in-Some.rest.now c.args.query.now c.args.number c.remove_row-below.ensures
    c.leave_at.new.nodes c.leave_at.ensures).2

pub returns-in-None : goal.returns-in-None
returns-in-None t c =
    let s = c.args.nodes.now in
    let o = c.args.row.first in
    let spot = sym c.seek.ensures ∙ c.in-Here.is in
    let node = there_at s o c.args.row.parent c.args.key.now c.in-Here.index c.requires.row spot in
    let short : c.args.rest.now ≡ [] = no_path c.args.rest.now c.in-None.ensures.cases in
    subst (λ p. IsTaken s c.prune.new.nodes o c.prune.result c.args.row.parent c.args.key.now p c.args.query.now c.args.number) (sym short)
    (taken_here s o c.args.row.parent c.args.key.now c.in-Here.index node.slot c.requires.row c.requires.once spot node.there c.requires.good.0 c.requires.good.1
    c.end_at.new.nodes c.args.query.now c.args.number c.end_at.ensures c.prune.new.nodes c.prune.result c.prune.ensures.row c.prune.ensures.changed)

pub returns-in-Some : goal.returns-in-Some
returns-in-Some t c =
    let s = c.args.nodes.now in
    let o = c.args.row.first in
    let slot = c.unwrap.result.now in
    let there : get s c.in-Here.index ≡ Some slot = search rules in
    subst (λ p. IsTaken s c.prune-in-Some.new.nodes o c.prune-in-Some.result c.args.row.parent c.args.key.now p c.args.query.now c.args.number) (sym c.in-Some.ensures.cases.0)
    (taken_below s o c.args.row.parent c.args.key.now c.in-Here.index slot c.requires.row c.requires.once (sym c.seek.ensures ∙ c.in-Here.is) there c.requires.good.0 c.requires.good.1
    c.remove_row-below.new.nodes c.remove_row-below.result c.in-Some.child.now c.in-Some.rest.now c.args.query.now c.args.number c.remove_row-below.ensures
    c.leave_at.new.nodes c.leave_at.ensures c.prune-in-Some.new.nodes c.prune-in-Some.result c.prune-in-Some.ensures.row c.prune-in-Some.ensures.changed)
