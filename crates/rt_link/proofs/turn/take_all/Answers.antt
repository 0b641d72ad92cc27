use Rattle.std.proofs.Common.{rules, ◌≡◌, length}
use Rattle.std.proofs.lemmas.List.{nil_from_length}
use Rattle.rt_link.proofs.Taken.{goes_all}
use Rattle.rt_link.proofs.turn.take_all.Goals as goal

pub returns-clause-taken : goal.returns-clause-taken
returns-clause-taken c =
    let left = c.loop-read.read-iterator.rest.items in
    let none : length left ≡ 0 = search rules in (
      c.loop-read.invariant.0,
      goes_all c.args.messages.items c.args.shared.now c.loop-read.invariant.0 left c.loop-read.shared
          c.loop-read.invariant.2 (nil_from_length left none),
      c.loop-read.invariant.1,
    )
