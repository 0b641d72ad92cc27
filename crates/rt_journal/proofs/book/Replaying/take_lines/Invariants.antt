use Rattle.std.proofs.Common.{◌≡◌, IfSome, IsSome, length}
use Rattle.std.specs.Option.{option_and_then}
use Rattle.rt_journal.specs.Entries.{pieces_of}
use Rattle.rt_journal.specs.Replays.{after_pieces, torn_length}
use Rattle.rt_journal.proofs.book.Replaying.take_lines.Given as goal

abbrev pub invariant-lines : goal.invariant-lines
invariant-lines l =
    IfSome l.fn.self (λ r. IsSome l.self
    × (after_pieces r (pieces_of l.journal) ≡ option_and_then (λ s. after_pieces s (pieces_of l.rest)) l.self))
    × (torn_length (pieces_of l.journal) ≡ torn_length (pieces_of l.rest))

abbrev pub decreases-lines : goal.decreases-lines
decreases-lines l = length l.rest
