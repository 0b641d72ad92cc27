use Rattle.std.proofs.Common.{◌≡◌}
use Rattle.std.specs.List.{All}
use Rattle.rt_peer.specs.declared.actions.ActionKey.{ActionKey}
use Rattle.rt_peer.specs.inside.Placed.{AreListed}
use Rattle.rt_peer.proofs.CutLaws.{to_leave}
use Rattle.rt_peer.proofs.actions.Actions.drop_below.Given as goal

-- the places that are left are the connection's, and list all that are still to be cut; what is to be left is that of before
abbrev pub invariant-loop-place : goal.invariant-loop-place
invariant-loop-place l = record {
  own : All (λ (p : ActionKey). p.connection ≡ l.connection) l.place-iterator;
  listed : AreListed l.connection l.path l.place-iterator l.self-inside.placed;
  leaves : to_leave l.connection l.path l.self-inside.placed ≡ to_leave l.connection l.path l.initial.self-inside.placed;
}
