use Rattle.rt_view.proofs.KnownLaws.{chain_rises}
use Rattle.rt_view.proofs.window.half_len.Goals as goal

pub returns-in-Front-clause-rises : goal.returns-in-Front-clause-rises
returns-in-Front-clause-rises c = chain_rises c.args.chain.now c.len-len.ensures.rises

pub returns-in-Behind-clause-rises : goal.returns-in-Behind-clause-rises
returns-in-Behind-clause-rises c = chain_rises c.args.chain.now c.len-len.ensures.rises
