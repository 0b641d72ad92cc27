use Rattle.std.proofs.Common.{◌≡◌, false, rules}
use Rattle.std.proofs.lemmas.Result.{on_ok_weaker}
use Rattle.rt_query.specs.Queries.{is_filtered}
use Rattle.rt_peer.proofs.ViewsLaws.{goes_plain}
use Rattle.rt_peer.proofs.pushes.push_one.Goals as goal

pub returns-else-is_filtered-clause-goes : goal.returns-else-is_filtered-clause-goes
returns-else-is_filtered-clause-goes c =
    let plain : is_filtered c.args.heard.now ≡ false = search rules in
    on_ok_weaker c.push_plain.result (λ h. goes_plain c.args.heard.now c.args.round.now.looked.entries c.args.round.now.views plain)
    c.push_plain.ensures
