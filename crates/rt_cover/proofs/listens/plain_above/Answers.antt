use Rattle.std.proofs.Common.{◌≡◌, ℕ, ◌<◌, ◌+◌, ◌&&◌, ◌||◌, ◌==◌, true, false, length, take, subst, ◌∙◌, arith, IfSome, IfNone}
use Rattle.std.specs.List.{list_any}
use Rattle.rt_tree.specs.PathTree.{path_eq}
use Rattle.rt_cover.specs.Cover.{Tagged}
use Rattle.rt_cover.specs.inside.Index.{form_of}
use Rattle.rt_cover.proofs.ByPathLaws.{none_above, above_more}
use Rattle.rt_cover.proofs.ListenLaws.{is_plain, above_some}
use Rattle.rt_cover.proofs.listens.plain_above.Goals as goal

pub loop-count-init : goal.loop-count-init
loop-count-init c = none_above form_of c.args.path.now c.args.by_path.now

pub returns-in-Some-clause-some : goal.returns-in-Some-clause-some
returns-in-Some-clause-some c =
    let p = c.args.path.now in
    let k : ℕ = c.loop-count.count in
    let lt : k < length p + 1 = c.loop-count-test.true in
    above_some p k c.in-Some.tag c.args.by_path.now (omega (arith, lt))
    (subst (λ o. IfSome o (λ t. list_any (λ (x : Tagged). path_eq (x.form).path (take k p) && (is_plain x && x.tag == t)) c.args.by_path.now ≡ true)) c.in-Some.is c.plain_at.ensures.some)

pub loop-count-preserved : goal.loop-count-preserved
loop-count-preserved c =
    let p = c.args.path.now in
    let k : ℕ = c.loop-count.count in
    let lt : k < length p + 1 = c.loop-count-test.true in
    let none : list_any (λ (x : Tagged). path_eq (x.form).path (take k p) && is_plain x) c.args.by_path.now ≡ false =
    subst (λ o. IfNone o (list_any (λ (x : Tagged). path_eq (x.form).path (take k p) && is_plain x) c.args.by_path.now ≡ false)) c.in_default.is c.plain_at.ensures.none in
    above_more form_of p k c.args.by_path.now (omega (arith, lt)) ∙ (λ i. c.loop-count.invariant i || none i)
