use Rattle.std.proofs.Common.{arith}
use Rattle.rt_view.proofs.SeenLaws.{kept_rising}
use Rattle.rt_view.proofs.seen.have_rising_keys.Goals as goal

pub returns : goal.returns
returns c _ = kept_rising c.args.noted.now (λ k d l. c.loop-next.invariant k d (omega arith))
