use Rattle.std.proofs.Common.{subst, sym}
use Rattle.rt_peer.specs.inside.Met.{IsMadeAt}
use Rattle.rt_peer.proofs.pushes.push_plain.Goals as goal

pub is_changed-requires : goal.is_changed-requires
is_changed-requires c =
    subst (λ p. IsMadeAt p c.args.entries.now c.args.write.now) (sym c.path.ensures) c.requires.made
