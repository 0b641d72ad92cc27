use Rattle.std.proofs.Common.{◌∙◌, sym}
use Rattle.rt_sync.specs.declared.state.State.{State}
use Rattle.rt_sync.specs.inside.StateView.{held_of, world_of}
use Rattle.rt_sync.proofs.Counted.{same_follows}
use Rattle.rt_sync.proofs.Viewed.{unchanged}
use Rattle.rt_sync.proofs.state.State.after.Goals as goal

pub returns-in-Some-clause-made : goal.returns-in-Some-clause-made
returns-in-Some-clause-made c =
    let state : State = c.args.self.now in
    record {
      tied = c.requires.tied;
      answered = c.answer_law.ensures.refused (world_of state) c.args.step c.in-Some.error (sym c.refusal.ensures ∙ c.in-Some.is);
      follows = same_follows (held_of state) c.args.step c.requires.viewed (unchanged (held_of state) c.args.step c.requires.good.sound c.requires.viewed.pairs);
    }
