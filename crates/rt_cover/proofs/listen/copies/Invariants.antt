use Rattle.std.proofs.Common.{◌≡◌, ◌++◌, drop}
use Rattle.rt_cover.proofs.listen.copies.Given as goal

abbrev pub invariant-loop-listen : goal.invariant-loop-listen
invariant-loop-listen l = l.copies.items ++ drop l.listen-index l.kept ≡ l.kept
