use Rattle.rt_client.proofs.Kept.{new_is_kept, step_keeps, handing_keeps}
use Rattle.rt_client.proofs.Settled.{settling_keeps, taking_keeps}
use Rattle.rt_client.proofs.Unknown.{new_is_whole, step_stays_whole, call_stays_whole, settling_stays_whole, taking_stays_whole, opening_stays_whole}
use Rattle.rt_client.proofs.laws.keeping_law.Goals as goal

pub returns : goal.returns
returns c = record {
  new = new_is_kept c.sound_law.ensures.worlds;
  step = step_keeps c.sound_law.ensures.next c.reflection_law.ensures.step;
  handing = handing_keeps;
  settling = settling_keeps;
  taking = taking_keeps c.sending_law.ensures.sound;
  whole = new_is_whole c.sound_law.ensures.worlds c.steady_law.ensures.empty c.holding_law.ensures.empty;
  made = step_stays_whole c.sound_law.ensures.next c.steady_law.ensures.next c.holding_law.ensures.within c.reflection_law.ensures.step c.reflection_law.ensures.closed;
  called = call_stays_whole c.sound_law.ensures.next c.steady_law.ensures.next c.holding_law.ensures.within c.reflection_law.ensures.step;
  settled = settling_stays_whole;
  taken = taking_stays_whole c.sending_law.ensures.sound c.sending_law.ensures.steady;
  opened = opening_stays_whole;
}
