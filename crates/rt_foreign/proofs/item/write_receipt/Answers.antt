use Rattle.rt_foreign.proofs.item.write_receipt.Goals as goal

pub returns-in-Listened : goal.returns-in-Listened
returns-in-Listened c = rw c.in-Listened.is c.write.ensures.bytes

pub returns-in-Unlistened : goal.returns-in-Unlistened
returns-in-Unlistened c = rw c.in-Unlistened.is c.write-in-Unlistened.ensures.bytes

pub returns-in-Wrote : goal.returns-in-Wrote
returns-in-Wrote c = rw c.in-Wrote.is c.write-in-Wrote.ensures.bytes
