-- When a run sleeps, and when it ends, and what a turn of its connection leaves.
use Rattle.std.specs.Prelude.{◌-◌, ◌/◌, ◌^◌, ℕ, nat_le, min, if◌then◌else◌, Bool, true, false, Option, Some, None}
use Rattle.std.specs.Duration.{as_nanos}
use Rattle.std.specs.IoError.{error_kind}
use Rattle.std.specs.declared.io.ErrorKind.{ErrorKind}
use Rattle.std.specs.declared.io.ErrorKind.TheVariants.{ConnectionRefused}
use Rattle.std.specs.declared.time.Duration.{Duration}
use Rattle.rt_link.specs.declared.connection.LinkTurn.{LinkTurn}
use Rattle.rt_link.specs.declared.connection.LinkTurn.TheVariants as turn
use Rattle.rt_socket.specs.declared.wire.Lost.{Lost}
use Rattle.rt_socket.specs.declared.wire.Lost.TheVariants as why
use Rattle.rt_watch.specs.declared.watched.Left.{Left}
use Rattle.rt_watch.specs.declared.watched.Left.TheVariants as left
use Rattle.rt_watch.specs.declared.terminal.WatchNext.{WatchNext}
use Rattle.rt_watch.specs.declared.terminal.WatchNext.TheVariants.{Sleep, End}

-- what a run does next that did all that it could: its connection waits for so long, none where there is
-- none; its input has ended or not; nothing was printed for so many milliseconds, of which so many are
-- enough, none where none are
abbrev pub next : Option ℕ → Bool → ℕ → Option ℕ → WatchNext
next None true quiet enough = End
next None false quiet enough = Sleep (2 ^ 64 - 1)
next (Some most) false quiet enough = Sleep most
next (Some most) true quiet None = Sleep most
next (Some most) true quiet (Some enough) =
    if nat_le enough quiet then End else Sleep (min most (enough - quiet))

-- how many milliseconds it is, as far as 64 bits count
abbrev pub millis_of : Duration → ℕ
millis_of time = min (as_nanos time / 1000000) (2 ^ 64 - 1)

-- whether nothing listens there
abbrev pub refuses : ErrorKind → Bool
refuses ConnectionRefused = true
refuses kind = false

-- whether a connection does not come about since nothing listens there: not where the stream is closed or
-- reset before the handshake is done
abbrev pub is_refused : Lost → Bool
is_refused (why.Unreachable e) = refuses (error_kind e)
is_refused e = false

-- what is left where no connection comes about
abbrev pub unopened : Lost → Left
unopened e = if is_refused e then left.Unreached e else left.Lost e

-- what a turn of the connection leaves: it waits so long at most, nothing listens there, or it is gone
abbrev pub left_by : LinkTurn → Left
left_by (turn.Idle most) = left.Waits (millis_of most)
left_by turn.More = left.Waits 0
left_by (turn.NotOpened e) = unopened e
left_by (turn.Ended e) = left.Lost e
