use Rattle.rt_client.specs.laws.Showing.{StepShows, ForeseesSteps}
use Rattle.rt_client.proofs.Shown.{step_shows, snapshots_are_core}
use Rattle.rt_client.proofs.Foreseen.{foresees_at_first, foresees_what_is_opened, foresees_what_settles, foresees_what_is_called, foresees_steps, foresees_anothers_call, foresees_anothers_settling, foresees_anothers_end, foresees_messages, foresees_openings, foresees_what_stays, shows_all}
use Rattle.rt_client.proofs.laws.showing_law.Goals as goal

pub returns : goal.returns
returns c =
    let stays = c.sound_law.ensures.next in
    let one : StepShows = step_shows c.select_laws.ensures.once c.turn_laws.ensures.turn c.stay_law.ensures.renewed c.note_law.ensures.batches c.refusal_law.ensures in
    let steps : ForeseesSteps = foresees_steps stays one in
    record {
      step = one;
      steps = snapshots_are_core stays c.sound_law.ensures.worlds one;
      first = foresees_at_first c.sound_law.ensures.worlds;
      opened = foresees_what_is_opened;
      settled = foresees_what_settles;
      called = foresees_what_is_called stays one;
      made = steps;
      others = foresees_anothers_call stays one;
      beside = foresees_anothers_settling;
      ended = foresees_anothers_end steps;
      taken = foresees_messages c.sending_law.ensures.sound;
      more = foresees_openings;
      stays = foresees_what_stays;
      all = shows_all c.snapshot_law.ensures.again;
    }
