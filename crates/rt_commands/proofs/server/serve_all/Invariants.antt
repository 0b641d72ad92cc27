use Rattle.std.proofs.Common.{◌≡◌}
use Rattle.std.specs.Prelude.{IfSome}
use Rattle.rt_commands.proofs.Clients.{Left}
use Rattle.rt_commands.proofs.server.serve_all.Given as goal

abbrev pub invariant-streams : goal.invariant-streams
invariant-streams g l =
    (g.S.Streams.has_failed l.streams ≡ g.S.Streams.has_failed l.initial.streams)
    × IfSome l.initial.peer (λ p. Left l.count l.left p l.peer)
