use Rattle.rt_cover.proofs.HeldLaws.{own_at}
use Rattle.rt_cover.proofs.successors.begun.Goals as goal

pub begins-requires-clause-own : goal.begins-requires-clause-own
begins-requires-clause-own g c = own_at c.args.listeners.now c.requires.forms c.args.number c.args.listener.now c.requires.there
