-- What a round of a run does, put together of what its parts do.
use Rattle.std.proofs.Common.{◌≡◌, ◌≢◌, ℕ, List, refl}
use Rattle.std.specs.Prelude.{IfOk, OnOk, Option, Result, Ok, Err}
use Rattle.rt_watch.specs.Pacing.{next}
use Rattle.rt_watch.specs.Queued.{Queue}
use Rattle.rt_watch.specs.Rounds.{DoesLines, DoesWaiting, IsTurned, Rounds, WritesOut, WritesTurn, waited}
use Rattle.rt_watch.specs.declared.effect.WatchFault.{WatchFault}
use Rattle.rt_watch.specs.declared.terminal.WatchNext.{WatchNext}
use Rattle.rt_watch.specs.declared.terminal.WatchNext.TheVariants.{GoOn}
use Rattle.rt_watch.specs.declared.terminal.Terminal.{Terminal}
use Rattle.rt_watch.specs.declared.watched.LinkStanding.TheVariants.{Opening}
use Rattle.rt_watch.specs.declared.watched.Watched.{Watched}
use Rattle.rt_watch.proofs.Faulting.{still, of_link_writes, after_input_writes}

-- lines that wait are done and written
pub waiting_done : {N : Type 0} (answer : Result Unit WatchFault) (queue : Queue)
    (had has : Option (List ℕ)) (old new : Watched N) (mid : Terminal) → old.standing ≢ Opening
    → OnOk answer (DoesLines queue old.terminal mid) → WritesOut mid had has new.terminal
    → new ≡ record old { terminal = new.terminal } → OnOk answer (DoesWaiting queue had has old new)
waiting_done (Err why) queue had has old new mid begun lines written rest = tt
waiting_done (Ok done) queue had has old new mid begun lines written rest = record {
  opening = λ opening. absurd (begun opening);
  does = λ also. record { mid = mid; lines = lines; written = written; rest = rest };
}

-- what the run does next where the connection has come about or gone
pub turn_changed : {N : Type 0} (had has : Option (List ℕ)) (enough : Option ℕ) (old mid new : Watched N)
    → IsTurned old mid → WritesOut mid.terminal had has new.terminal
    → new ≡ record mid { terminal = new.terminal } → new.standing ≢ old.standing
    → WritesTurn had has enough old GoOn new
turn_changed had has enough old mid new turned written rest differs = record {
  mid = mid;
  turned = turned;
  written = written;
  rest = rest;
  quiet = 0;
  goes = (λ also. refl, λ same. absurd (differs same));
}

-- what the run does next where nothing changed
pub turn_written : {N : Type 0} (answer : Result WatchNext WatchFault) (had has : Option (List ℕ))
    (enough : Option ℕ) (old mid new : Watched N) → IsTurned old mid
    → WritesOut mid.terminal had has new.terminal → new ≡ record mid { terminal = new.terminal }
    → new.standing ≡ old.standing
    → IfOk answer (λ n. (quiet : ℕ)
    × (n ≡ next (waited new.standing new.terminal.has_ended new.waits) new.terminal.has_ended quiet enough))
    → IfOk answer (λ n. WritesTurn had has enough old n new)
turn_written (Err why) had has enough old mid new turned written rest same goes = tt
turn_written (Ok n) had has enough old mid new turned written rest same goes = record {
  mid = mid;
  turned = turned;
  written = written;
  rest = rest;
  quiet = goes.0;
  goes = (λ differs. absurd (differs same), λ also. goes.1);
}

-- both, one after the other
pub rounds : {N : Type 0} (answer : Result WatchNext WatchFault) (queue : Queue)
    (had between has : Option (List ℕ)) (enough : Option ℕ) (old mid new : Watched N)
    → IfOk answer (λ n. WritesTurn between has enough mid n new) → DoesWaiting queue had between old mid
    → IfOk answer (λ n. Rounds queue had has enough old n new)
rounds (Err why) queue had between has enough old mid new turned waiting = tt
rounds (Ok n) queue had between has enough old mid new turned waiting = record {
  mid = mid;
  between = between;
  waiting = waiting;
  turned = turned;
}

-- so of what waits
pub ruleset waits = (still, of_link_writes, after_input_writes, waiting_done)
