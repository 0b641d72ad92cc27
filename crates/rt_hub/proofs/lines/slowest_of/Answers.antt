use Rattle.rt_hub.proofs.Slowest.{more_looked, none_looked}
use Rattle.rt_hub.proofs.lines.slowest_of.Goals as goal

pub loop-place-init : goal.loop-place-init
loop-place-init c = none_looked c.args.lines.now.items c.args.elsewhere.now

pub loop-place-preserved : goal.loop-place-preserved
loop-place-preserved c =
    more_looked c.args.lines.now.items c.args.elsewhere.now c.loop-place.slowest c.slower-slowest.result c.loop-place.place
    c.loop-place.invariant c.slower-slowest.ensures.first c.slower-slowest.ensures.second
