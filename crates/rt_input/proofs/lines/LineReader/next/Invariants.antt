use Rattle.std.proofs.Common.{◌≡◌, ◌+◌, ◌-◌, ◌≤◌, ◌++◌, ℕ, List, length, false, Some}
use Rattle.rt_input.specs.Lines.{lines_of, most_input, resumed_by}
use Rattle.rt_input.proofs.lines.LineReader.next.Given as goal

abbrev pub invariant-pieces : goal.invariant-pieces
invariant-pieces g l =
    (l.self.ended ≡ false) × (l.self.count ≤ most_input) × (l.fn.self.count ≤ l.self.count)
    × ((most_input - l.self.count) + length l.self.rest
    ≤ (most_input - l.fn.self.count) + length l.fn.self.rest)
    × (g.S.Source.failures l.reader ≡ g.S.Source.failures l.fn.reader)
    × (g.S.Source.given l.reader + l.fn.self.count ≡ g.S.Source.given l.fn.reader + l.self.count)
    × ((left : List ℕ) → g.S.Source.remaining l.fn.reader ≡ Some left → (later : List ℕ)
    × (g.S.Source.remaining l.reader ≡ Some later)
    × (lines_of (l.fn.self.rest ++ left) ≡ resumed_by l.self later))

abbrev pub decreases-pieces : goal.decreases-pieces
decreases-pieces g l = most_input - l.self.count
