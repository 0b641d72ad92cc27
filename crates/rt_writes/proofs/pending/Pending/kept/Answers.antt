use Rattle.std.proofs.Common.{subst}
use Rattle.std.specs.Prelude.{IfOk, IfSome}
use Rattle.rt_writes.specs.inside.ByNumber.{writes_of}
use Rattle.rt_writes.specs.inside.Spots.{AreApart, IsAbove, IsLast, KeepsPart}
use Rattle.rt_writes.proofs.NumberLaws.{rising_pending}
use Rattle.rt_writes.proofs.KeptLaws.{kept_all, touches_last, on_err}
use Rattle.rt_writes.proofs.pending.Pending.kept.Goals as goal

pub returns-in-Some-clause-overlay : goal.returns-in-Some-clause-overlay
returns-in-Some-clause-overlay c =
    kept_all c.copy_kept.result c.args.self.now c.args.root.now c.args.path.now c.in-Some.number
    (rising_pending (writes_of c.self.inside.writes) c.args.self.now c.self.inside.merged c.self.invariant c.self.view_is)
    (subst AreApart c.self.view_is c.self.invariant.apart) c.requires.merged
    (subst (IsLast (IsAbove c.args.root.now c.args.path.now)) c.in-Some.is c.requires.last)
    (subst (λ p. IfOk c.copy_kept.result (λ o. IfSome o (λ u. KeepsPart c.args.root.now p c.in-Some.number u))) c.keys.ensures.keys c.copy_kept.ensures)

pub returns-in-Some-clause-touched : goal.returns-in-Some-clause-touched
returns-in-Some-clause-touched c =
    on_err c.copy_kept.result
    (touches_last c.args.self.now c.args.root.now c.args.path.now c.in-Some.number c.requires.merged
    (subst (IsLast (IsAbove c.args.root.now c.args.path.now)) c.in-Some.is c.requires.last))
