use Rattle.std.proofs.Common.{◌≡◌, ℕ, Bool, List, subst, sym, false}
use Rattle.std.specs.Prelude.{Result, Ok, Err, OnOk, OnErr}
use Rattle.rt_peer.specs.Calls.{marked}
use Rattle.rt_peer.specs.inside.Rising.{RisesFrom}
use Rattle.rt_peer.proofs.OrderLaws.{marked_rises}
use Rattle.rt_peer.proofs.connections.Rising.mark.Goals as goal

rises : {T E : Type 0} (r : Result T E) (b : Bool) (n : ℕ) (ms ns : List ℕ) → OnOk r (ns ≡ marked b n ms)
    → OnErr r (ns ≡ marked false n ms) → RisesFrom 0 ms → RisesFrom 0 ns
rises (Ok x) b n ms ns ok err h = subst (RisesFrom 0) (sym ok) (marked_rises b n ms h)
rises (Err e) b n ms ns ok err h = subst (RisesFrom 0) (sym err) (marked_rises false n ms h)

pub invariant_of-self : goal.invariant_of-self
invariant_of-self c =
    rises c.mark.result c.args.is_there c.args.number c.self.inside.numbers.items c.mark.new.numbers.items
    c.mark.ensures.ok c.mark.ensures.err c.self.invariant
