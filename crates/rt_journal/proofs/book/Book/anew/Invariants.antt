use Rattle.std.proofs.Common.{◌≡◌, ◌++◌}
use Rattle.std.specs.List.{flat_map}
use Rattle.rt_journal.specs.Books.{anew}
use Rattle.rt_journal.proofs.Kept.{of_lines}
use Rattle.rt_journal.proofs.book.Book.anew.Given as goal

abbrev pub invariant-loop-lines : goal.invariant-loop-lines
invariant-loop-lines l =
    l.all.items ++ flat_map (λ e. e.1) (of_lines l.lines-iterator) ≡ anew l.self
