use Rattle.std.proofs.Common.{◌-◌, ◌<◌, length, sym, subst}
use Rattle.std.specs.List.{All}
use Rattle.rt_writes.proofs.ByNumberLaws.{all_below, last_below}
use Rattle.rt_writes.proofs.pending.Pending.is_above_all.Goals as goal

pub returns-in-Some : goal.returns-in-Some
returns-in-Some c =
    let es = c.self.inside.writes.entries in (
      λ t. subst (All (λ w. w.id < c.args.id)) c.self.view_is (all_below es c.in-Some.last.now c.args.id c.in-Some.ensures.all_up_to t),
      λ h. last_below es (length es - 1) c.in-Some.last.now c.args.id c.in-Some.field-0-1.now c.in-Some.ensures.last
          (subst (All (λ w. w.id < c.args.id)) (sym c.self.view_is) h),
    )
