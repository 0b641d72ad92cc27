use Rattle.std.proofs.Common.{rules, ◌≡◌, ◌==◌, ◌++◌, ◌∷◌, [], Some, length, sym, ap, subst, ◌∙◌, arith, refl}
use Rattle.std.specs.List.{list_any}
use Rattle.slab.specs.Slab.{get}
use Rattle.rt_nodes.specs.Forest.{row_at}
use Rattle.rt_nodes.proofs.Near.{told_below}
use Rattle.rt_forms.specs.inside.Trees.{seen_in, IsAdded}
use Rattle.rt_forms.proofs.NodeLaws.{added_new, there_at, at_row, at_once, at_numbers, at_good, at_count, at_total, added_here, may_pass, added_below}
use Rattle.rt_forms.proofs.ViewLaws.{no_path}
use Rattle.rt_forms.proofs.forms.+add_row.Goals as goal

pub returns-in-None-clause-ok : goal.returns-in-None-clause-ok
returns-in-None-clause-ok t c =
    added_new c.args.nodes.now c.grow.new.nodes c.link.new.self c.args.row.first (Some c.in_ok-index-in-Gap.index) c.args.row.parent c.in-Gap.previous c.in-Gap.next c.in_ok-index-in-Gap.index
    c.args.key.now c.args.rest.now c.args.query.now c.args.number c.requires.row c.requires.once (sym c.seek.ensures ∙ c.in-Gap.is)
    c.in_ok-index-in-Gap.ensures.grown c.in_ok-index-in-Gap.ensures.made c.link.ensures.each c.link.ensures.len (λ none. refl) (λ x some. cc (c.in-None.is, some))

pub returns-in-Some-clause-ok : goal.returns-in-Some-clause-ok
returns-in-Some-clause-ok t c =
    added_new c.args.nodes.now c.grow.new.nodes c.link.new.self c.args.row.first c.args.row.first c.args.row.parent c.in-Gap.previous c.in-Gap.next c.in_ok-index-in-Gap.index
    c.args.key.now c.args.rest.now c.args.query.now c.args.number c.requires.row c.requires.once (sym c.seek.ensures ∙ c.in-Gap.is)
    c.in_ok-index-in-Gap.ensures.grown c.in_ok-index-in-Gap.ensures.made c.link.ensures.each c.link.ensures.len (λ none. cc (c.in-Some.is, none)) (λ x some. refl)

pub add_at-requires : goal.add_at-requires
add_at-requires t c =
    let s = c.args.nodes.now in
    let o = c.args.row.first in
    let spot = sym c.seek.ensures ∙ c.in-Here.is in
    let node = there_at s o c.args.row.parent c.args.key.now c.in-Here.index c.requires.row spot in
    let short : c.args.rest.now ≡ [] = no_path c.args.rest.now c.in-None-split_first.ensures.cases in
    let le = at_count s o c.args.row.parent c.args.key.now c.in-Here.index node.slot c.requires.row c.requires.once spot node.there in (
      node.slot,
      node.there,
      ap (list_any (λ m. m == c.args.number)) (sym (at_numbers s o c.args.row.parent c.args.key.now c.in-Here.index node.slot c.requires.row c.requires.once spot node.there c.args.query.now []) ∙ ap (λ p. seen_in c.args.query.now c.args.key.now p (row_at s o)) (sym short)) ∙ c.requires.free,
      omega (arith, le, c.requires.room),
    )

pub unwrap-requires : goal.unwrap-requires
unwrap-requires t c =
    let node = there_at c.args.nodes.now c.args.row.first c.args.row.parent c.args.key.now c.in-Here.index c.requires.row (sym c.seek.ensures ∙ c.in-Here.is) in
    let there : get c.args.nodes.now c.in-Here.index ≡ Some node.slot = node.there in
    search (rules, there)

pub add_row-requires : goal.add_row-requires
add_row-requires t c =
    let s = c.args.nodes.now in
    let o = c.args.row.first in
    let slot = c.unwrap.result.now in
    let there : get s c.in-Here.index ≡ Some slot = search rules in
    let spot = sym c.seek.ensures ∙ c.in-Here.is in
    let goes = c.in-Some-split_first.ensures.cases.0 in
    let good = c.requires.good in
    let path : c.args.query.now.path ≡ good.0 ++ (c.args.key.now ∷ (c.in-Some-split_first.child.now ∷ c.in-Some-split_first.rest.now)) = good.1 ∙ ap (λ x. good.0 ++ (c.args.key.now ∷ x)) goes in
    let under = at_good s o c.args.row.parent c.args.key.now c.in-Here.index slot c.requires.row c.requires.once spot there good.0 (c.in-Some-split_first.child.now ∷ c.in-Some-split_first.rest.now) c.args.query.now path good.2 in
    let le = at_total s o c.args.row.parent c.args.key.now c.in-Here.index slot c.requires.row c.requires.once spot there good.0 good.2 in (
      omega (arith, c.decreases, ap length goes),
      (
        at_row s o c.args.row.parent c.args.key.now c.in-Here.index slot c.requires.row c.requires.once spot there,
        (
          told_below s o c.args.row.parent c.in-Here.index slot c.requires.told there,
          (
            at_once s o c.args.row.parent c.args.key.now c.in-Here.index slot c.requires.row c.requires.once spot there,
            (
              (good.0 ++ c.args.key.now ∷ [], under.0, under.2),
              (
                omega (arith, le, c.requires.room),
                ap (list_any (λ m. m == c.args.number)) (sym (ap (λ p. seen_in c.args.query.now c.args.key.now p (row_at s o)) goes
                    ∙ at_numbers s o c.args.row.parent c.args.key.now c.in-Here.index slot c.requires.row c.requires.once spot there c.args.query.now (c.in-Some-split_first.child.now ∷ c.in-Some-split_first.rest.now))) ∙ c.requires.free,
              ),
            ),
          ),
        ),
      ),
    )

pub pass_at-requires : goal.pass_at-requires
pass_at-requires t c =
    let s = c.args.nodes.now in
    let o = c.args.row.first in
    let slot = c.unwrap.result.now in
    let there : get s c.in-Here.index ≡ Some slot = search rules in
    let spot = sym c.seek.ensures ∙ c.in-Here.is in
    let le = at_count s o c.args.row.parent c.args.key.now c.in-Here.index slot c.requires.row c.requires.once spot there in
    may_pass s o c.args.row.parent c.args.key.now c.in-Here.index slot c.requires.row c.requires.once spot there
    c.add_row.new.nodes c.in_ok-below-in-Some-split_first.below c.in-Some-split_first.child.now c.in-Some-split_first.rest.now c.args.query.now c.args.number c.in_ok-below-in-Some-split_first.ensures.ok
    (omega (arith, le, c.requires.room))

pub returns-in_ok-add_at-in-None-split_first-clause-ok : goal.returns-in_ok-add_at-in-None-split_first-clause-ok
returns-in_ok-add_at-in-None-split_first-clause-ok t c =
    let s = c.args.nodes.now in
    let o = c.args.row.first in
    let spot = sym c.seek.ensures ∙ c.in-Here.is in
    let node = there_at s o c.args.row.parent c.args.key.now c.in-Here.index c.requires.row spot in
    let short : c.args.rest.now ≡ [] = no_path c.args.rest.now c.in-None-split_first.ensures.cases in
    subst (λ p. IsAdded s c.add_at.new.nodes o o c.args.row.parent c.args.key.now p c.args.query.now c.args.number) (sym short)
    (added_here s o c.args.row.parent c.args.key.now c.in-Here.index node.slot c.requires.row c.requires.once spot node.there c.add_at.new.nodes c.args.query.now c.args.number c.in_ok-add_at-in-None-split_first.ensures.ok)

pub returns-in_ok-below-in-Some-split_first-clause-ok : goal.returns-in_ok-below-in-Some-split_first-clause-ok
returns-in_ok-below-in-Some-split_first-clause-ok t c =
    let s = c.args.nodes.now in
    let o = c.args.row.first in
    let slot = c.unwrap.result.now in
    let there : get s c.in-Here.index ≡ Some slot = search rules in
    let spot = sym c.seek.ensures ∙ c.in-Here.is in
    subst (λ p. IsAdded s c.pass_at.new.nodes o o c.args.row.parent c.args.key.now p c.args.query.now c.args.number) (sym c.in-Some-split_first.ensures.cases.0)
    (added_below s o c.args.row.parent c.args.key.now c.in-Here.index slot c.requires.row c.requires.once spot there
    c.add_row.new.nodes c.in_ok-below-in-Some-split_first.below c.in-Some-split_first.child.now c.in-Some-split_first.rest.now c.args.query.now c.args.number c.in_ok-below-in-Some-split_first.ensures.ok
    c.pass_at.new.nodes c.pass_at.ensures)
