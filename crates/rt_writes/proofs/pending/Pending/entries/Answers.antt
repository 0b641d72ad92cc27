use Rattle.std.proofs.Common.{Some, ap, ◌∙◌}
use Rattle.rt_writes.specs.Writes.{entries_of}
use Rattle.rt_writes.proofs.ByNumberLaws.{entries_in}
use Rattle.rt_writes.proofs.pending.Pending.entries.Goals as goal

pub returns-in-Some : goal.returns-in-Some
returns-in-Some c =
    ap Some c.as_slice.ensures ∙ c.in-Some.ensures.value
    ∙ entries_in c.self.inside.writes.entries c.args.id ∙ ap (entries_of c.args.id) c.self.view_is

pub returns-in-None : goal.returns-in-None
returns-in-None c =
    c.in-None.ensures.value
    ∙ entries_in c.self.inside.writes.entries c.args.id ∙ ap (entries_of c.args.id) c.self.view_is
