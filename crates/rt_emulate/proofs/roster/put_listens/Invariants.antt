use Rattle.std.proofs.Common.{◌≡◌, None, true, length}
use Rattle.rt_hub.specs.Hubs.{listen_texts}
use Rattle.rt_emulate.specs.Clients.{listed}
use Rattle.rt_emulate.specs.inside.Rosters.{put_to}
use Rattle.rt_emulate.proofs.roster.put_listens.Given as goal

-- with what is left behind it, it is as with all
abbrev pub invariant-listens : goal.invariant-listens
invariant-listens l =
    put_to (listed l.is_first (listen_texts l.hub l.connection l.above)) l.draft
    ≡ put_to (listed true (listen_texts l.hub l.connection None)) l.initial.draft

abbrev pub decreases-listens : goal.decreases-listens
decreases-listens l = length (listen_texts l.hub l.connection l.above)
