use Rattle.rt_client.specs.laws.Reflecting.{MadeReflects}
use Rattle.rt_client.proofs.Reflects.{made_reflects}
use Rattle.rt_client.proofs.Mirrored.{unmade_tells_nothing, step_reflects, closed_is_forgotten}
use Rattle.rt_client.proofs.laws.reflection_law.Goals as goal

pub returns : goal.returns
returns c =
    let made : MadeReflects = made_reflects c.select_laws.ensures.once c.turn_laws.ensures.turn c.stay_law.ensures.renewed c.note_law.ensures.batches c.refusal_law.ensures in
    record {
      made = made;
      unmade = unmade_tells_nothing;
      step = step_reflects made;
      closed = closed_is_forgotten c.stay_law.ensures.renewed;
    }
