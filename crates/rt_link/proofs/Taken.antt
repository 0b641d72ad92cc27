-- Messages of the server, taken one after another.
use Rattle.std.proofs.Common.{◌≡◌, List, [], ◌++◌, Result, refl, sym, subst, append-nil}
use Rattle.rt_wire.specs.declared.error.WireError.{WireError}
use Rattle.rt_wire.specs.declared.server.ServerMessage.{ServerMessage}
use Rattle.rt_client.specs.Calls.{Locked}
use Rattle.rt_link.specs.Taking.{TakesAll}
use Rattle.rt_link.specs.declared.turn.Passed.{Passed}

-- what is left to take, after so many were passed over, makes all of it
abbrev pub Goes : List (Result ServerMessage WireError) → Locked → List Passed
    → List (Result ServerMessage WireError) → Locked → Type 0
Goes all old so left now =
    (rest : List Passed) (new : Locked) → TakesAll left now rest new → TakesAll all old (so ++ rest) new

-- all were taken
pub goes_all : (all : List (Result ServerMessage WireError)) (old : Locked) (so : List Passed)
    (left : List (Result ServerMessage WireError)) (now : Locked) → Goes all old so left now → left ≡ []
    → TakesAll all old so now
goes_all all old so left now goes none =
    subst (λ ps. TakesAll all old ps now) (append-nil so)
    (goes [] now (subst (λ l. TakesAll l now [] now) (sym none) (refl, refl)))
