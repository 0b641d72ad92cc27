use Rattle.rt_world.proofs.KeptLaws.{listens_stay}
use Rattle.rt_world.proofs.Listeners.{number-renewed, seat-renewed, query-renewed}
use Rattle.rt_world.proofs.NamedLaws.{unmet_stays}
use Rattle.rt_world.proofs.ReachedLaws.{still_listeners}
use Rattle.rt_world.proofs.StayLaws.{changes_have_no_entries}
use Rattle.rt_world.proofs.laws.stay_law.Goals as goal

pub returns : goal.returns
returns c = record {
  listeners = still_listeners;
  entries = changes_have_no_entries;
  listens = listens_stay;
  unmet = unmet_stays;
  renewed = λ b ws l. (number-renewed b ws l, seat-renewed b ws l, query-renewed b ws l);
}
