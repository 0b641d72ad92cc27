use Rattle.rt_foreign.proofs.item.write_value.Goals as goal

pub returns : goal.returns
returns c = rw c.in_ok-value.ensures.text at c.write.ensures.bytes
