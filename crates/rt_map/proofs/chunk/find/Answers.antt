use Rattle.std.proofs.Common.{sym, subst, arith, ◌+◌, ◌-◌, ◌/◌, take, add-one}
use Rattle.rt_map.specs.inside.Places.{AllBelow}
use Rattle.rt_map.proofs.Order.{above_from, below_to, is_at_place}
use Rattle.rt_map.proofs.chunk.find.Goals as goal

pub loop-low-preserved-in-Less : goal.loop-low-preserved-in-Less
loop-low-preserved-in-Less g c = (
  omega arith,
  omega arith,
  c.loop-low.invariant.2,
  above_from g.met.K.Ord.total c.args.key.now c.args.entries.now (c.loop-low.low + (c.loop-low.high - c.loop-low.low) / 2) c.index-entries-middle.result (omega arith) c.requires (sym c.in-Less.ensures),
)

pub returns-in-Equal-clause-found : goal.returns-in-Equal-clause-found
returns-in-Equal-clause-found g c =
    is_at_place g.met.K.Ord.total c.args.key.now c.args.entries.now (c.loop-low.low + (c.loop-low.high - c.loop-low.low) / 2) c.index-entries-middle.result (omega arith) c.requires (sym c.in-Equal.ensures)

pub loop-low-preserved : goal.loop-low-preserved
loop-low-preserved g c =
    let middle = c.loop-low.low + (c.loop-low.high - c.loop-low.low) / 2 in (
      omega arith,
      omega arith,
      subst (λ n. AllBelow g.K.Ord.cmp c.args.key.now (take n c.args.entries.now)) (sym (add-one middle))
          (below_to g.met.K.Ord.total c.args.key.now c.args.entries.now middle c.index-entries-middle.result (omega arith) c.requires (sym c.in-Greater.ensures)),
      c.loop-low.invariant.3,
    )
