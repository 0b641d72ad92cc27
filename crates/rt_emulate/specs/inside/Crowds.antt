-- How much waits for all connections together, and who is ended where that is too much.
use Rattle.std.specs.Prelude.{◌≡◌, ◌==◌, ◌+◌, ◌<◌, nat_lt, sum, if◌then◌else◌, ℕ, Bool, true, false, List, Option, Some, None}
use Rattle.rt_hub.specs.Hubs.{Hub, IsSlowest, count_of}
use Rattle.rt_hub.specs.Lines.{bytes_in_all}
use Rattle.rt_hub.specs.declared.refusal.TheConstants.{MAX_WAITING_IN_ALL}

-- from now on so many bytes are on their way to that connection
abbrev pub Counts : ℕ → ℕ → List ℕ → List ℕ → Type 0
Counts n bytes old new = 0 < n → (m : ℕ) → count_of new m ≡ (if n == m then bytes else count_of old m)

-- more bytes than may wait for all, in the hub or taken by sockets and not sent
abbrev pub is_too_much : ℕ → List ℕ → Bool
is_too_much waits on_way = nat_lt MAX_WAITING_IN_ALL (waits + sum on_way)

-- that one is ended for which the most wait, where that is so
abbrev pub IsCrowder : Hub → List ℕ → Option ℕ → Type 0
IsCrowder h on_way None = is_too_much (bytes_in_all h.lines) on_way ≡ false
IsCrowder h on_way (Some n) = (is_too_much (bytes_in_all h.lines) on_way ≡ true) × IsSlowest h.lines on_way n
