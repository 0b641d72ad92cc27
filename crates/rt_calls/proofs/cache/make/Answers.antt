use Rattle.rt_calls.proofs.cache.make.Goals as goal

pub run-requires : goal.run-requires
run-requires c = (c.requires, c.in_ok-admit.ensures, tt)
