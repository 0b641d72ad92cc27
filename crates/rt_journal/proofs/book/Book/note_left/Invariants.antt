use Rattle.std.proofs.Common.{◌≡◌, ◌++◌, drop, None}
use Rattle.std.specs.List.{flat_map}
use Rattle.rt_journal.specs.Entries.{line_of}
use Rattle.rt_journal.proofs.book.Book.note_left.Given as goal

abbrev pub invariant-loop-connection : goal.invariant-loop-connection
invariant-loop-connection l =
    (l.self-inside.lines.items ++ flat_map (λ n. line_of (n, None)) (drop l.connection-index l.left)
    ≡ l.fn.self.lines ++ flat_map (λ n. line_of (n, None)) l.left)
    × (l.self-inside.kept ≡ l.initial.self-inside.kept)
    × (l.self-inside.ending ≡ l.initial.self-inside.ending)
