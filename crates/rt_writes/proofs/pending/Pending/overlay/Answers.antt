use Rattle.std.proofs.Common.{◌≡◌, [], false, sym, ap, subst, arith, ◌∙◌}
use Rattle.std.specs.Prelude.{IfOk, IfSome}
use Rattle.std.specs.Option.{option_copied}
use Rattle.rt_tree.specs.PathTree.{PathTree}
use Rattle.rt_writes.specs.Writes.{IsShallow, overlay, sets_whole}
use Rattle.rt_writes.specs.inside.ByNumber.{writes_of}
use Rattle.rt_writes.specs.inside.Spots.{spot_at, after, IsAbove, IsLast, IsMergedAt}
use Rattle.rt_writes.specs.laws.ShallowLaws.{shallow-overlay}
use Rattle.rt_writes.proofs.NumberLaws.{merged_pending, rising_of}
use Rattle.rt_writes.proofs.LayLaws.{merged_at}
use Rattle.rt_writes.proofs.TopLaws.{laid_below, laid_alone, none_later}
use Rattle.rt_writes.proofs.pending.Pending.overlay.Goals as goal

pub returns-in-Some-clause-shallow : goal.returns-in-Some-clause-shallow
returns-in-Some-clause-shallow c =
    let is : (t : PathTree) → c.in-Some.after ≡ overlay c.args.path.now t c.args.self.now =
    subst (λ o. IfSome o (λ u. (t : PathTree) → u ≡ overlay c.args.path.now t c.args.self.now)) c.in-Some.is c.in_ok-after.ensures.overlay in
    subst (λ u. IsShallow (c.args.path.now, u)) (sym (is c.args.tree))
    (shallow-overlay c.args.path.now c.args.tree c.args.self.now (omega (arith, c.keys.ensures.valid.short)) c.requires c.len-is_kept.ensures.kept.shallow)

pub lay_children-requires-clause-merged : goal.lay_children-requires-clause-merged
lay_children-requires-clause-merged c =
    subst (λ ws. IsMergedAt ws c.args.path.now c.in-Some-spot.spot.now) (sym c.self.view_is)
    (merged_at c.args.self.now c.args.path.now [] c.self.inside.merged c.in-Some-spot.spot.now (merged_pending (writes_of c.self.inside.writes) c.args.self.now c.self.inside.merged c.self.invariant c.self.view_is)
    (sym (ap option_copied (sym c.in-Some-spot.is) ∙ c.look-last.ensures.spot ∙ ap (spot_at c.self.inside.merged) c.keys.ensures.keys)))

pub lay_children-requires-clause-none : goal.lay_children-requires-clause-none
lay_children-requires-clause-none c =
    subst (λ ws. sets_whole (after c.look-last.result.0 ws) c.args.path.now ≡ false) (sym c.self.view_is)
    (none_later c.args.self.now c.self.inside.merged c.args.path.now c.look-last.result.0 (merged_pending (writes_of c.self.inside.writes) c.args.self.now c.self.inside.merged c.self.invariant c.self.view_is)
    (subst (λ p. IsLast (IsAbove c.self.inside.merged p) c.look-last.result.0) c.keys.ensures.keys c.look-last.ensures.last))

pub returns-in-Some-spot-clause-overlay : goal.returns-in-Some-spot-clause-overlay
returns-in-Some-spot-clause-overlay c =
    laid_below c.args.self.now c.self.inside.merged c.args.path.now c.args.tree c.in_ok-after-2.after c.look-last.result.0 c.lay_children.result
    (rising_of c.args.self.now c.len-is_kept.ensures.kept.rises) (merged_pending (writes_of c.self.inside.writes) c.args.self.now c.self.inside.merged c.self.invariant c.self.view_is)
    (subst (λ p. IsLast (IsAbove c.self.inside.merged p) c.look-last.result.0) c.keys.ensures.keys c.look-last.ensures.last)
    c.in_ok-after-2.ensures.overlay
    (subst (λ ws. IfOk c.lay_children.result (λ done. done ≡ overlay c.args.path.now c.in_ok-after-2.after (after c.look-last.result.0 ws))) c.self.view_is c.lay_children.ensures.laid)

pub returns-in-None-clause-overlay : goal.returns-in-None-clause-overlay
returns-in-None-clause-overlay c =
    laid_alone c.args.self.now c.self.inside.merged c.args.path.now c.args.tree c.in_ok-after-2.after c.look-last.result.0
    (rising_of c.args.self.now c.len-is_kept.ensures.kept.rises) (merged_pending (writes_of c.self.inside.writes) c.args.self.now c.self.inside.merged c.self.invariant c.self.view_is)
    (subst (λ p. IsLast (IsAbove c.self.inside.merged p) c.look-last.result.0) c.keys.ensures.keys c.look-last.ensures.last)
    c.in_ok-after-2.ensures.overlay
    (ap option_copied (sym c.in-None.is) ∙ c.look-last.ensures.spot ∙ ap (spot_at c.self.inside.merged) c.keys.ensures.keys)

pub kept-requires-clause-merged : goal.kept-requires-clause-merged
kept-requires-clause-merged c =
    merged_pending (writes_of c.self.inside.writes) c.args.self.now c.self.inside.merged c.self.invariant c.self.view_is
