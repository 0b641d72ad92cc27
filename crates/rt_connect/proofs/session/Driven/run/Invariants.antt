use Rattle.std.proofs.Common.{ℕ, ◌+◌, ◌≡◌, ◌≤◌, List, true, Some}
use Rattle.std.specs.Io.KnownBytes.{IsAtEnd}
use Rattle.rt_input.specs.Lines.{lines_of, most_input, most_lines}
use Rattle.rt_connect.proofs.Counting.{Counts}
use Rattle.rt_connect.proofs.session.Driven.run.Given as goal

abbrev pub invariant-lines : goal.invariant-lines
invariant-lines g l =
    (g.I.Source.given l.reader ≡ g.I.Source.given l.fn.reader + l.lines.count)
    × (g.I.Source.failures l.reader ≡ g.I.Source.failures l.fn.reader)
    × (g.D.Drain.failures l.writer ≡ g.D.Drain.failures l.fn.writer)
    × (l.lines.count ≤ most_input)
    × (l.lines.ended ≡ true → IsAtEnd (g.I.Source.remaining l.reader))
    × ((text : List ℕ) → g.I.Source.remaining l.fn.reader ≡ Some text
    → Counts (lines_of text) l.lines (g.I.Source.remaining l.reader) l.bad_lines)

abbrev pub decreases-lines : goal.decreases-lines
decreases-lines g l = most_lines l.lines
