-- What a round of a run does: the lines that wait, and a turn of its connection.
use Rattle.std.specs.Prelude.{◌≡◌, ◌≢◌, ◌⊎◌, ◌++◌, ℕ, List, [], Bool, true, false, is_some, if◌then◌else◌}
use Rattle.std.specs.Prelude.{Option, Some, None, Result, Ok, string_bytes}
use Rattle.std.specs.Io.KnownBytes.{Appends as Writes}
use Rattle.std.specs.declared.net.socket_addr.SocketAddr.{SocketAddr}
use Rattle.rt_input.specs.declared.fault.ConsoleError.TheVariants.{NoMemory}
use Rattle.rt_lines.specs.inside.Appending.{Appends}
use Rattle.rt_connect.specs.Doing.{disconnected}
use Rattle.rt_link.specs.Carrying.{Carried, PassesOver, Turns, is_open}
use Rattle.rt_link.specs.declared.connection.LinkTurn.{LinkTurn}
use Rattle.rt_watch.specs.Faults.{after_end}
use Rattle.rt_watch.specs.Pacing.{left_by, next}
use Rattle.rt_watch.specs.Queued.{Queue}
use Rattle.rt_watch.specs.Watching.{PrintsLines, PrintsNews, bad_with, numbered}
use Rattle.rt_watch.specs.declared.effect.WatchFault.{WatchFault}
use Rattle.rt_watch.specs.declared.effect.WatchFault.TheVariants.{NotConnected, Ended}
use Rattle.rt_watch.specs.declared.terminal.WatchNext.{WatchNext}
use Rattle.rt_watch.specs.declared.terminal.WatchNext.TheVariants.{GoOn}
use Rattle.rt_watch.specs.declared.terminal.Terminal.{Terminal}
use Rattle.rt_watch.specs.declared.watched.Left.{Left}
use Rattle.rt_watch.specs.declared.watched.Left.TheVariants as left
use Rattle.rt_watch.specs.declared.watched.LinkStanding.{LinkStanding}
use Rattle.rt_watch.specs.declared.watched.LinkStanding.TheVariants.{Opening, Open, Waiting, Again, Gone}
use Rattle.rt_watch.specs.declared.watched.Watched.{Watched}

-- ---- lines

-- all lines that wait are done, in order, and the end of the input is noted with them
pub record DoesLines (queue : Queue) (old new : Terminal) : Type 0 where
  pub text : List ℕ
  pub printed : Appends old.printed new.printed text
  pub lines : PrintsLines queue.lines old.number old.seats.items text new.seats.items
  pub counted : new.bad_lines ≡ bad_with queue.lines old.bad_lines
  pub number : new.number ≡ numbered queue.lines old.number
  pub ended : new.has_ended ≡ (if is_some queue.ended then true else old.has_ended)
  pub goes_on : after_end queue.ended ≡ Ok tt

-- ---- a turn of the connection

-- a connection that stands has come about
abbrev pub opened : Bool → LinkStanding → LinkStanding
opened stands was = if stands then Open else was

-- whether there is a connection, or one is begun
abbrev pub is_carried : LinkStanding → Bool
is_carried Opening = true
is_carried Open = true
is_carried Waiting = false
is_carried Again = true
is_carried Gone = false

-- where a run stands whose connection is gone: another one is to come, but where there is to be one alone
abbrev pub lost_by : Bool → LinkStanding
lost_by is_once = if is_once then Gone else Waiting

-- what is printed then: nothing where another one did not come about either
abbrev pub said_lost : LinkStanding → List ℕ
said_lost Again = []
said_lost standing = disconnected

-- the connection is gone, which is printed
abbrev pub IsLost : Bool → ℕ → LinkStanding → ℕ → LinkStanding → List ℕ → Type 0
IsLost is_once waits old new_waits new text =
    (new_waits ≡ waits) × (new ≡ lost_by is_once) × (text ≡ said_lost old)

-- what a turn leaves: for how long it is waited, or the connection is gone
abbrev pub IsNoted : Left → Bool → ℕ → LinkStanding → ℕ → LinkStanding → List ℕ → Type 0
IsNoted (left.Waits most) is_once waits old new_waits new text =
    (new_waits ≡ most) × (new ≡ old) × (text ≡ [])
IsNoted (left.Unreached why) is_once waits old new_waits new text =
    (old ≢ Opening) × IsLost is_once waits old new_waits new text
IsNoted (left.Lost why) is_once waits old new_waits new text =
    IsLost is_once waits old new_waits new text

-- why a run ends with it: nothing listens there, or memory lacks for what is printed
abbrev pub EndsBy : Left → SocketAddr → WatchFault → Type 0
EndsBy (left.Waits most) address e = ⊥
EndsBy (left.Unreached why) address e = (e ≡ NotConnected address why) ⊎ (e ≡ Ended NoMemory)
EndsBy (left.Lost why) address e = e ≡ Ended NoMemory

-- once a turn of the connection was made, it is printed what its messages say, and then noted what it leaves
pub record NotesTurn {N : Type 0} (turn : LinkTurn) (old new : Watched N) : Type 0 where
  pub news : List ℕ
  pub says : List ℕ
  pub told : PrintsNews old.connection.passed old.terminal.seats.items news new.terminal.seats.items
  pub noted : IsNoted (left_by turn) old.is_once old.waits
      (opened (is_open old.connection.standing) old.standing) new.waits new.standing says
  pub printed : Appends old.terminal.printed new.terminal.printed (news ++ says)
  pub rest : new ≡ record old {
    terminal = record old.terminal { seats = new.terminal.seats; printed = new.terminal.printed };
    connection = record old.connection { passed = [] };
    standing = new.standing;
    waits = new.waits;
  }

-- so of a connection that stood so, and which a turn has carried on
pub record TakesTurn {N : Type 0} (old new : Watched N) : Type 0 where
  pub turn : LinkTurn
  pub carried : Carried
  pub stands : Turns old.connection.standing turn carried.standing
  pub passed : PassesOver old.connection carried.passed
  pub notes : NotesTurn turn (record old { connection = carried }) new

-- ---- a round

-- what is printed is written, and nothing waits to be
pub record WritesOut (old : Terminal) (had has : Option (List ℕ)) (new : Terminal) : Type 0 where
  pub written : Writes had has (string_bytes old.printed)
  pub nothing_waits : string_bytes new.printed ≡ []
  pub rest : new ≡ record old { printed = new.printed; quiet_since = new.quiet_since }

-- the lines that wait are done, and what is printed of them is written
pub record WritesLines {N : Type 0} (queue : Queue) (had has : Option (List ℕ)) (old new : Watched N)
    : Type 0 where
  pub mid : Terminal
  pub lines : DoesLines queue old.terminal mid
  pub written : WritesOut mid had has new.terminal
  pub rest : new ≡ record old { terminal = new.terminal }

-- so once the connection has come about or is gone, and nothing is done before
pub record DoesWaiting {N : Type 0} (queue : Queue) (had has : Option (List ℕ)) (old new : Watched N)
    : Type 0 where
  pub opening : old.standing ≡ Opening → (new ≡ old) × (has ≡ had)
  pub does : old.standing ≢ Opening → WritesLines queue had has old new

-- a connection is carried on that isn't gone
pub record IsTurned {N : Type 0} (old new : Watched N) : Type 0 where
  pub gone : is_carried old.standing ≡ false → new ≡ old
  pub turned : is_carried old.standing ≡ true → TakesTurn old new

-- for how long a connection is waited for, or for the next one while lines come; not where there is none
abbrev pub waited : LinkStanding → Bool → ℕ → Option ℕ
waited Opening has_ended waits = Some waits
waited Open has_ended waits = Some waits
waited Waiting has_ended waits = if has_ended then None else Some waits
waited Again has_ended waits = Some waits
waited Gone has_ended waits = None

-- the run goes on at once where the connection has come about or is gone now, and else by what is waited for
abbrev pub IsNext : {N : Type 0} → LinkStanding → Watched N → ℕ → Option ℕ → WatchNext → Type 0
IsNext was now quiet enough n =
    (now.standing ≢ was → n ≡ GoOn)
    × (now.standing ≡ was → n ≡ next (waited now.standing now.terminal.has_ended now.waits)
    now.terminal.has_ended quiet enough)

-- the connection is carried on, and what is printed of it is written
pub record WritesTurn {N : Type 0} (had has : Option (List ℕ)) (enough : Option ℕ) (old : Watched N)
    (n : WatchNext) (new : Watched N) : Type 0 where
  pub mid : Watched N
  pub turned : IsTurned old mid
  pub written : WritesOut mid.terminal had has new.terminal
  pub rest : new ≡ record mid { terminal = new.terminal }
  pub quiet : ℕ
  pub goes : IsNext old.standing new quiet enough n

-- both, one after the other
pub record Rounds {N : Type 0} (queue : Queue) (had has : Option (List ℕ)) (enough : Option ℕ)
    (old : Watched N) (n : WatchNext) (new : Watched N) : Type 0 where
  pub mid : Watched N
  pub between : Option (List ℕ)
  pub waiting : DoesWaiting queue had between old mid
  pub turned : WritesTurn between has enough mid n new
