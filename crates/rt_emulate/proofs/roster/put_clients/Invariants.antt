use Rattle.std.proofs.Common.{◌≡◌, ◌+◌, true, map, drop}
use Rattle.rt_emulate.specs.Clients.{client_text, listed}
use Rattle.rt_emulate.specs.inside.Rosters.{clients_from, clients_of, put_to}
use Rattle.rt_emulate.proofs.roster.put_clients.Given as goal

-- with what is left behind it, it is as with all
abbrev pub invariant-loop-index : goal.invariant-loop-index
invariant-loop-index l =
    put_to (listed l.is_first (map client_text (clients_from l.hub l.present (l.index + 1) (drop l.index l.present.places.items))))
    l.draft
    ≡ put_to (listed true (map client_text (clients_of l.hub l.present))) l.initial.draft
