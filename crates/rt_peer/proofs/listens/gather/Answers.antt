use Rattle.rt_peer.proofs.SpotLaws.{kept_through, overlaps_found}
use Rattle.rt_peer.proofs.listens.gather.Goals as goal

pub returns-clause-kept : goal.returns-clause-kept
returns-clause-kept c =
    kept_through c.args.found.now.keys c.gather_above.new.found.keys c.gather_in.new.found.keys
    c.in_ok-gather_above.ensures.kept c.in_ok-gather_in.ensures.kept

pub returns-clause-found : goal.returns-clause-found
returns-clause-found c =
    overlaps_found c.args.path.now c.args.spots.now.keys c.gather_above.new.found.keys c.gather_in.new.found.keys
    c.in_ok-gather_above.ensures.found c.in_ok-gather_in.ensures.kept c.in_ok-gather_in.ensures.found
