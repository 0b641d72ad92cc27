use Rattle.std.proofs.Common.{◌≡◌, ◌++◌, ◌∷◌, [], ap, ◌∙◌}
use Rattle.rt_peer.specs.inside.Met.{numbers_of}
use Rattle.rt_peer.proofs.MetLaws.{noted}
use Rattle.rt_peer.proofs.write.note.Goals as goal

pub returns-in-Ok : goal.returns-in-Ok
returns-in-Ok c =
    let k = c.args.owner in
    let n = c.args.number in
    let is : c.push.new.self ≡ numbers_of c.args.met.now.entries k ++ n ∷ [] =
    c.in_ok-push.ensures ∙ ap (λ ns. ns ++ n ∷ []) c.take-numbers.ensures.taken in
    noted k n c.push.new.self c.args.met.now.entries c.take-numbers.new.met.entries c.insert.new.self.entries is
    c.take-numbers.ensures.left c.in-Ok.ensures.updates.0
