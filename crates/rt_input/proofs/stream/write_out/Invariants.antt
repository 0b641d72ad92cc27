use Rattle.std.proofs.Common.{◌≤◌, length, take}
use Rattle.std.specs.Io.KnownBytes.{Appends}
use Rattle.rt_input.proofs.stream.write_out.Given as goal

abbrev pub invariant-tries : goal.invariant-tries
invariant-tries g l =
    (l.written ≤ length l.bytes)
    × Appends (g.W.Write.contents l.initial.writer) (g.W.Write.contents l.writer) (take l.written l.bytes)
