use Rattle.std.proofs.Common.{arith}
use Rattle.rt_view.specs.inside.Ranged.{inside}
use Rattle.rt_view.proofs.InsideLaws.{inside-outside}
use Rattle.rt_view.proofs.window.beside.Goals as goal

pub overflow_add-low : goal.overflow_add-low
overflow_add-low c = omega (arith, c.loop-position.invariant.0, c.loop-position.invariant.2, inside-outside c.args.from.now c.args.children.now)

pub overflow_add-high : goal.overflow_add-high
overflow_add-high c =
    omega (arith, c.loop-position.invariant.1, c.loop-position.invariant.2, inside-outside c.args.to.now (inside c.args.from.now c.args.children.now), inside-outside c.args.from.now c.args.children.now)
