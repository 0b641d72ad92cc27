use Rattle.rt_world.proofs.TouchLaws.{seen_are_children, unmet_are_seen, unnamed_are_seen, touch_is_enough, else_few_are_seen}
use Rattle.rt_world.proofs.laws.touch_law.Goals as goal

pub returns : goal.returns
returns c = record {
  children = seen_are_children;
  unmet = unmet_are_seen;
  unnamed = unnamed_are_seen;
  touched = touch_is_enough;
  few = else_few_are_seen;
}
