use Rattle.std.proofs.Common.{◌++◌, true, codes}
use Rattle.rt_emulate.specs.Clients.{from_text, listed, number_text, origin_text}
use Rattle.rt_emulate.specs.inside.Rosters.{client_of}
use Rattle.rt_emulate.proofs.RosterLaws.{put_last}
use Rattle.rt_emulate.proofs.roster.put_client.Goals as goal

pub returns : goal.returns
returns c =
    let g = client_of c.args.hub.now c.args.connection c.args.guest.now in
    let r = c.put.result in
    let end = codes "}" in
    let number = number_text g.number in
    let origin = origin_text g.origin in
    let listens = listed true g.listens in
    put_last r (from_text g.asks g.from) (listens ++ (number ++ (origin ++ end))) c.args.draft.now c.put_from.new.draft c.put.new.self
    c.in_ok-put_from.ensures
    (put_last r listens (number ++ (origin ++ end)) c.put_from.new.draft c.put_listens.new.draft c.put.new.self
    c.in_ok-put_listens.ensures
    (put_last r number (origin ++ end) c.put_listens.new.draft c.put_number.new.draft c.put.new.self c.in_ok-put_number.ensures
    (put_last r origin end c.put_number.new.draft c.put_origin.new.draft c.put.new.self c.in_ok-put_origin.ensures c.put.ensures)))
