use Rattle.std.proofs.Common.{drop}
use Rattle.rt_emulate.specs.declared.present.Present.{Present}
use Rattle.rt_emulate.specs.inside.Guests.{NotesEach}
use Rattle.rt_emulate.proofs.present.Present.note_each.Given as goal

abbrev pub invariant-loop-connection : goal.invariant-loop-connection
invariant-loop-connection l =
    (last : Present) → NotesEach (drop l.connection-index l.connections) l.self last
    → NotesEach l.connections l.initial.self last
