use Rattle.std.proofs.Common.{◌==◌, not, rules}
use Rattle.std.proofs.lemmas.Fn.{filter_same}
use Rattle.rt_peer.proofs.connections.remove_number.Goals as goal

pub returns : goal.returns
returns c =
    filter_same _ (λ m. not (m == c.args.number)) _ (λ x b f' k. search rules) _ _
    c.retain.ensures.filtered
