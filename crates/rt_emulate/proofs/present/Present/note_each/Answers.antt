use Rattle.std.proofs.Common.{add-one, sym, subst}
use Rattle.std.proofs.Math.Seq.{drop-cons}
use Rattle.rt_emulate.specs.inside.Guests.{NotesEach}
use Rattle.rt_emulate.proofs.present.Present.note_each.Goals as goal

pub loop-connection-preserved : goal.loop-connection-preserved
loop-connection-preserved c = λ last more.
    let ns = c.args.connections.now in
    let begins = drop-cons ns c.loop-connection.connection-index 0 c.loop-connection-test.true in
    c.loop-connection.invariant last
    (subst (λ all. NotesEach all c.loop-connection.self last) (sym begins)
    (c.note_of.new.self, c.in_ok-note_of.ensures, rw add-one at more))
