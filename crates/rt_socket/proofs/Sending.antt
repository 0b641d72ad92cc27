-- What a socket has taken, by its answer, and what is done behind what it gave.
use Rattle.std.proofs.Common.{◌≡◌, ℕ, List, Option, refl, subst, sym}
use Rattle.std.specs.Prelude.{IfOk, OnOk, None, MatchResult, Result, Ok, Err}
use Rattle.std.specs.declared.alloc.AllocError.{AllocError}
use Rattle.tungstenite.specs.Socket.{Reads, Socket}
use Rattle.tungstenite.specs.declared.message.Message.{Message}
use Rattle.tungstenite.specs.declared.error.Error.{Error}
use Rattle.tungstenite.specs.declared.error.Error.TheVariants as error
use Rattle.rt_socket.specs.Hearing.{heard_from, taken_by}
use Rattle.rt_socket.specs.Sockets.{GoesBehind, Hears}
use Rattle.rt_socket.specs.declared.wire.Lost.{Lost}
use Rattle.rt_socket.specs.declared.wire.Heard.{Heard}
use Rattle.rt_socket.specs.declared.wire.Heard.TheVariants.{Text, Binary, Sign, Nothing, Ended}

-- what it was given stands there where it says that
pub write_sends : (W : Type 0) (answer : Result Unit Error) → OnOk answer W
    → IfOk (taken_by answer) (λ lost. lost ≡ None → W)
write_sends W (Ok done) ok = λ same. ok
write_sends W (Err error.ConnectionClosed) ok = λ same. cc
write_sends W (Err error.AlreadyClosed) ok = λ same. cc
write_sends W (Err (error.Io why)) ok = λ same. cc
write_sends W (Err (error.Capacity why)) ok = λ same. cc
write_sends W (Err (error.Protocol why)) ok = λ same. cc
write_sends W (Err error.WriteBufferFull) ok = λ same. cc
write_sends W (Err error.Utf8) ok = λ same. cc
write_sends W (Err error.AttackAttempt) ok = λ same. cc
write_sends W (Err (error.Handshake why)) ok = λ same. cc
write_sends W (Err error.HandshakeIncomplete) ok = λ same. cc
write_sends W (Err error.JunkAfterRequest) ok = λ same. cc
write_sends W (Err error.CustomResponseSuccessful) ok = λ same. cc
write_sends W (Err error.Url) ok = λ same. cc
write_sends W (Err (error.Http why)) ok = λ same. cc
write_sends W (Err (error.Refused why)) ok = λ same. cc
write_sends W (Err error.OutOfMemory) ok = tt

-- behind what is no end nothing is done
pub behind_others : {S : Type 0} (contents : S → Option (List ℕ)) (heard : Heard)
    (old new : Socket S) → ((why : Lost) → heard ≡ Ended why → ⊥) → new ≡ old
    → GoesBehind contents heard old new
behind_others contents (Text words) old new not_end same = same
behind_others contents Binary old new not_end same = same
behind_others contents Sign old new not_end same = same
behind_others contents Nothing old new not_end same = same
behind_others contents (Ended why) old new not_end same = absurd (not_end why refl)

-- what one read gave is heard
pub hears_ok : {S : Type 0} (remaining contents : S → Option (List ℕ)) (old mid new : Socket S)
    (given : Result Message Error) (heard : Heard) → Reads remaining old mid given
    → heard_from given ≡ Ok heard → GoesBehind contents heard mid new
    → Hears remaining contents old (Ok heard) new
hears_ok remaining contents old mid new given heard reads says behind = record {
  given = given;
  mid = mid;
  reads = reads;
  says = sym says;
  behind = behind;
}

-- or memory lacked for it
pub hears_err : {S : Type 0} (remaining contents : S → Option (List ℕ)) (old new : Socket S)
    (given : Result Message Error) (heard : Result Heard AllocError) → Reads remaining old new given
    → heard ≡ heard_from given → heard ≡ Err (record {}) → Hears remaining contents old heard new
hears_err remaining contents old new given heard reads says fails = record {
  given = given;
  mid = new;
  reads = reads;
  says = says;
  behind =
      subst (λ r. MatchResult r (λ h. GoesBehind contents h new new) (λ e. new ≡ new)) (sym fails) refl;
}
