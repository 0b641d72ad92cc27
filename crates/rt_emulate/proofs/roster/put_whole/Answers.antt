use Rattle.std.proofs.Common.{◌++◌, true, codes, map}
use Rattle.rt_emulate.specs.Clients.{client_text, listed}
use Rattle.rt_emulate.specs.inside.Rosters.{clients_of}
use Rattle.rt_emulate.proofs.RosterLaws.{put_last}
use Rattle.rt_emulate.proofs.roster.put_whole.Goals as goal

pub returns : goal.returns
returns c =
    let all = listed true (map client_text (clients_of c.args.hub.now c.args.present.now)) in
    let end = codes "],\"k\":\"clients\"}" in
    put_last c.put-2.result (codes "{\"clients\":[") (all ++ end) c.args.draft.now c.put.new.self c.put-2.new.self
    c.in_ok-put.ensures
    (put_last c.put-2.result all end c.put.new.self c.put_clients.new.draft c.put-2.new.self c.in_ok-put_clients.ensures
    c.put-2.ensures)
