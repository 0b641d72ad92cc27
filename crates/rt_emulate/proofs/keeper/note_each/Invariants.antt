use Rattle.std.proofs.Common.{◌≡◌, drop}
use Rattle.rt_emulate.specs.inside.Keeping.{note_all}
use Rattle.rt_emulate.proofs.keeper.note_each.Given as goal

abbrev pub invariant-loop-one : goal.invariant-loop-one
invariant-loop-one l =
    note_all l.connection l.all l.initial.journal ≡ note_all l.connection (drop l.one-index l.all) l.journal
