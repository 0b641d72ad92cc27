use Rattle.std.proofs.Common.{◌≡◌, IfSome, IsSome, Some}
use Rattle.std.specs.Option.{option_map}
use Rattle.rt_peer.specs.Runs.{after_all}
use Rattle.rt_journal.specs.Replays.{ends_of}
use Rattle.rt_journal.proofs.book.end_all.Given as goal

abbrev pub invariant-loop-name : goal.invariant-loop-name
invariant-loop-name l =
    IfSome l.fn.peer (λ p. Some (after_all p (ends_of l.names.entries))
    ≡ option_map (λ q. after_all q (ends_of l.name-iterator)) l.peer)
