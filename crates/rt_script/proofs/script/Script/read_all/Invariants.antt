use Rattle.std.proofs.Common.{ℕ, ◌+◌, ◌≡◌, ◌≤◌, List, [], true, Some}
use Rattle.std.specs.Io.KnownBytes.{IsAtEnd}
use Rattle.rt_input.specs.Lines.{lines_of, most_input, most_lines}
use Rattle.rt_script.specs.inside.Pieces.{so_far}
use Rattle.rt_script.proofs.Runs.{Did}
use Rattle.rt_script.proofs.script.Script.read_all.Given as goal

abbrev pub invariant-lines : goal.invariant-lines
invariant-lines g l =
    (g.S.Source.given l.reader ≡ g.S.Source.given l.initial.reader + l.lines.count)
    × (g.S.Source.failures l.reader ≡ g.S.Source.failures l.initial.reader)
    × (g.D.Drain.failures l.writer ≡ g.D.Drain.failures l.initial.writer)
    × (l.lines.count ≤ most_input)
    × (l.lines.ended ≡ true → IsAtEnd (g.S.Source.remaining l.reader))
    × ((text : List ℕ) → g.S.Source.remaining l.initial.reader ≡ Some text
    → Did (lines_of text) (so_far [] l.initial.self) (g.D.Drain.contents l.initial.writer) l.lines
    (g.S.Source.remaining l.reader) l.self (g.D.Drain.contents l.writer))

abbrev pub decreases-lines : goal.decreases-lines
decreases-lines g l = most_lines l.lines
