-- What a text of the server makes of a client, and prints.
use Rattle.std.proofs.Common.{◌≡◌, ◌≢◌, ℕ, List, Result, Ok, Err, inr, refl, sym, subst}
use Rattle.std.specs.Prelude.{OnOk}
use Rattle.rt_wire.specs.declared.error.WireError.{WireError}
use Rattle.rt_wire.specs.declared.server.ServerMessage.{ServerMessage}
use Rattle.rt_world.specs.Calls.{step_of_message}
use Rattle.rt_client.specs.Calls.{Locked, RefusesOn}
use Rattle.rt_client.specs.declared.error.ClientError.{ClientError}
use Rattle.rt_client.specs.declared.error.ClientError.TheVariants.{NoMemory}
use Rattle.rt_connect.specs.Printing.{refusal_text}
use Rattle.rt_connect.specs.Taking.{Takes}

on_both : {A E : Type 0} (P R Q : Type 0) (r : Result A E) → (P → R → Q) → OnOk r P → OnOk r R → OnOk r Q
on_both P R Q (Ok x) f h k = f h k
on_both P R Q (Err e) f h k = h

-- a message is refused, and printed why
pub refused : {A E : Type 0} (P : List ℕ → Type 0) (r : Result A E) (read : Result ServerMessage WireError)
    (m : ServerMessage) (old new : Locked) (why : ClientError) → read ≡ Ok m
    → RefusesOn old (step_of_message m) why new → OnOk r (P (refusal_text why)) → OnOk r (why ≢ NoMemory)
    → OnOk r ((x : List ℕ) × P x × Takes read old new x)
refused P r read m old new why is h told other =
    on_both (P (refusal_text why)) (why ≢ NoMemory) ((x : List ℕ) × P x × Takes read old new x) r (λ p n. (
      refusal_text why,
      p,
      subst (λ q. Takes q old new (refusal_text why)) (sym is) (inr (why, h, n, refl)),
    )) told other
