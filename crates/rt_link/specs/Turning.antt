-- What a turn of a connection leaves to be done.
use Rattle.std.specs.Prelude.{◌≡◌, ◌*◌, ℕ, ◌==◌, if◌then◌else◌, ⊤, Bool, true, false, Result, Ok, Err}
use Rattle.std.specs.declared.time.Duration.{Duration}
use Rattle.std.specs.Duration.{as_nanos}
use Rattle.rt_socket.specs.declared.wire.Pause.{Pause}
use Rattle.rt_socket.specs.declared.wire.Pause.TheVariants as pause
use Rattle.rt_socket.specs.declared.wire.Lost.TheVariants as lost
use Rattle.rt_socket.specs.declared.patience.Patience.{Patience}
use Rattle.rt_socket.specs.declared.patience.Patience.TheVariants as patience
use Rattle.rt_socket.specs.declared.wire.Flushed.{Flushed}
use Rattle.rt_socket.specs.declared.wire.Flushed.TheVariants as flush
use Rattle.rt_link.specs.declared.connection.LinkTurn.{LinkTurn}
use Rattle.rt_link.specs.declared.connection.LinkTurn.TheVariants as turn
use Rattle.rt_link.specs.declared.error.LinkFault.{LinkFault}
use Rattle.rt_link.specs.declared.link.Parting.{Parting}
use Rattle.rt_link.specs.declared.link.Parting.TheVariants as parting
use Rattle.rt_link.specs.declared.link.LinkEnd.TheVariants as ending
use Rattle.rt_link.specs.declared.link.LinkNext.{LinkNext}
use Rattle.rt_link.specs.declared.link.LinkNext.TheVariants.{GoOn, Sleep, End}
use Rattle.rt_link.specs.declared.turn.SentOff.{SentOff}
use Rattle.rt_link.specs.declared.turn.SentOff.TheVariants as sent

-- a stream is idle only where more of its bytes may be read, and none are there
abbrev pub paced : ℕ → Pause → Pause
paced left pause.Idle = if left == 0 then pause.More else pause.Idle
paced left pause.More = pause.More
paced left (pause.Ended why) = pause.Ended why

-- what a wire has taken is on its way, or will be
abbrev pub is_sent : Flushed → Bool
is_sent flush.Done = true
is_sent flush.Blocked = true
is_sent (flush.Failed why) = false

-- where more is to be read there may be more, unless the wire takes nothing any more
abbrev pub is_there_more : SentOff → SentOff
is_there_more sent.Done = sent.More
is_there_more sent.More = sent.More
is_there_more (sent.Lost why) = sent.Lost why

-- what a run does after a turn: it ends where it was told to stop, or where the connection ends
abbrev pub next : LinkTurn → Bool → LinkNext
next t true = End ending.Stopped
next (turn.Idle most) false = Sleep most
next turn.More false = GoOn
next (turn.NotOpened why) false = End (ending.NotOpened why)
next (turn.Ended why) false = End (ending.Ended why)

-- what is done after a turn of a connection that is left: it is over once the connection is gone
abbrev pub left_by : LinkTurn → Parting
left_by (turn.Idle most) = parting.Sleep most
left_by turn.More = parting.GoOn
left_by (turn.NotOpened why) = parting.Over
left_by (turn.Ended why) = parting.Over

-- a server that is left is waited for, up to so many milliseconds, or no longer
abbrev pub AwaitsEnd : Patience → Bool → LinkTurn → Type 0
AwaitsEnd (patience.Wait millis) true t = t ≡ turn.More
AwaitsEnd (patience.Wait millis) false t =
    (most : Duration) × (as_nanos most ≡ millis * 1000000) × (t ≡ turn.Idle most)
AwaitsEnd patience.Ping is_more t = t ≡ turn.Ended lost.Silent
AwaitsEnd patience.GiveUp is_more t = t ≡ turn.Ended lost.Silent

-- so where the wire takes what this side has still to send
abbrev pub SeesOff : Flushed → Patience → Bool → LinkTurn → Type 0
SeesOff flush.Done p is_more t = AwaitsEnd p is_more t
SeesOff flush.Blocked p is_more t = AwaitsEnd p is_more t
SeesOff (flush.Failed why) p is_more t = t ≡ turn.Ended why

-- one that is left is waited for, or is over
abbrev pub Parts : LinkTurn → Type 0
Parts (turn.Idle most) = ⊤
Parts turn.More = ⊤
Parts (turn.NotOpened why) = ⊥
Parts (turn.Ended why) = ⊤

-- it is waited for
abbrev pub is_awaited : Result LinkTurn LinkFault → Bool
is_awaited (Ok (turn.Idle most)) = true
is_awaited (Ok turn.More) = true
is_awaited (Ok (turn.NotOpened why)) = false
is_awaited (Ok (turn.Ended why)) = false
is_awaited (Err why) = false
