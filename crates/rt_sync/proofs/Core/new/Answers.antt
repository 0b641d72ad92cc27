use Rattle.std.proofs.Common.{sym, subst}
use Rattle.rt_sync.specs.Core.{Held}
use Rattle.rt_sync.specs.inside.Due.{IsGood}
use Rattle.rt_sync.specs.inside.Viewed.{AreViewed}
use Rattle.rt_sync.proofs.Core.new.Goals as goal

pub invariant_of-result : goal.invariant_of-result
invariant_of-result c =
    let steady = c.steady_law.ensures.empty _ in
    record {
      tied = c.new.ensures.tied;
      good = subst (λ (h : Held). IsGood h.world) (sym c.new.ensures.held) (record {
        sound = steady.sound;
        called = steady.called;
        reached = steady.reached;
        within = c.holding_law.ensures.empty _;
      });
      viewed = subst AreViewed (sym c.new.ensures.held) (record { pairs = tt; counted = tt });
    }
