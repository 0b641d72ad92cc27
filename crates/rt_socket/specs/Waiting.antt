-- How long a silent server is waited for, and how long is waited between connections, in milliseconds.
use Rattle.std.specs.Prelude.{◌-◌, ◌*◌, ◌/◌, ◌||◌, ℕ, nat_le, nat_lt, if◌then◌else◌, Bool, true, false}
use Rattle.rt_socket.specs.declared.patience.TheConstants.{PING_MS, SILENCE_MS}
use Rattle.rt_socket.specs.declared.patience.TheConstants.{FIRST_WAIT_MS, LASTING_MS, MOST_WAIT_MS}
use Rattle.rt_socket.specs.declared.patience.Patience.{Patience}
use Rattle.rt_socket.specs.declared.patience.Patience.TheVariants.{Wait, Ping, GiveUp}

-- up to a limit it is waited for what is left of it
abbrev pub up_to : ℕ → ℕ → Patience
up_to limit silent = if nat_lt silent limit then Wait (limit - silent) else GiveUp

-- where the connection stands, and the server was asked whether it is there or not
abbrev pub for_silence : ℕ → Bool → Patience
for_silence silent true = up_to SILENCE_MS silent
for_silence silent false =
    if nat_lt silent PING_MS then Wait (PING_MS - silent)
    else if nat_lt silent SILENCE_MS then Ping else GiveUp

-- the wait between connections: it begins with a second, also behind one that stood long enough, and doubles
-- up to a bound
abbrev pub wait_after : ℕ → ℕ → ℕ
wait_after waited stood =
    if nat_le LASTING_MS stood || nat_lt waited FIRST_WAIT_MS then FIRST_WAIT_MS
    else if nat_lt waited (MOST_WAIT_MS / 2) then waited * 2 else MOST_WAIT_MS
