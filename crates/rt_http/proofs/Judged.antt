-- A head that is no handshake.
use Rattle.std.proofs.Common.{◌≡◌, ◌∙◌, ℕ, List, Result, Ok, Err, ap}
use Rattle.websocket.specs.Handshake.{Answers}
use Rattle.websocket.specs.declared.handshake.failure.HandshakeError.{HandshakeError}
use Rattle.rt_http.specs.Handshakes.{IsJudged, refused_for}
use Rattle.rt_http.specs.declared.fault.Refusal.{Refusal}

pub judged_err : (key : Result (List ℕ) HandshakeError) (why : HandshakeError) (e : Refusal) (size : ℕ)
    → Answers (Err why) key → e ≡ refused_for why → IsJudged key size (Err e)
judged_err (Ok key) why e size h same = (h.0, same ∙ ap refused_for h.1)
judged_err (Err other) why e size h same = let is : why ≡ other = cc in ap Err (same ∙ ap refused_for is)
