use Rattle.std.proofs.Common.{subst, ◌∙◌}
use Rattle.rt_writes.specs.inside.ByNumber.{writes_of}
use Rattle.rt_writes.specs.inside.Spots.{IsAbove, IsLast}
use Rattle.rt_writes.proofs.NumberLaws.{is_whole, merged_pending}
use Rattle.rt_writes.proofs.pending.Pending.sets_whole.Goals as goal

pub returns : goal.returns
returns c =
    c.is_some.ensures
    ∙ is_whole c.args.self.now c.self.inside.merged c.args.path.now c.look.result.0
    (merged_pending (writes_of c.self.inside.writes) c.args.self.now c.self.inside.merged c.self.invariant c.self.view_is)
    (subst (λ p. IsLast (IsAbove c.self.inside.merged p) c.look.result.0) c.keys.ensures.keys c.look.ensures.last)
