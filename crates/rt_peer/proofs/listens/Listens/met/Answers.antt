use Rattle.std.proofs.Common.{subst}
use Rattle.std.specs.List.{AllPairs}
use Rattle.std.proofs.lemmas.Result.{IfOk-weaker}
use Rattle.rt_peer.specs.inside.Met.{AreHanded}
use Rattle.rt_peer.specs.inside.Spots.{listens_of}
use Rattle.rt_peer.proofs.PlaceLaws.{Rise}
use Rattle.rt_peer.proofs.ListenLaws.{handed_listens}
use Rattle.rt_peer.proofs.OwnedLaws.{rises}
use Rattle.rt_peer.proofs.listens.Listens.met.Goals as goal

pub returns-clause-handed : goal.returns-clause-handed
returns-clause-handed c =
    let es = c.args.entries.now in
    IfOk-weaker c.entries_met.result _ _ (λ met h.
    subst (AreHanded es met.entries) c.self.view_is
    (handed_listens es c.self.inside.spots.keys (listens_of c.self.inside.by_owner.entries) met.entries c.self.invariant.1 h))
    c.entries_met.ensures

pub returns-clause-rise : goal.returns-clause-rise
returns-clause-rise c = subst (AllPairs Rise) c.self.view_is (rises c.self.inside.by_owner.entries c.self.invariant.0)
