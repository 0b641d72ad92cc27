-- What is printed of a client that is behind a lock, and what is sent for it.
use Rattle.std.proofs.Common.{◌≡◌, ◌++◌, ℕ, List, Option, Some, None, Result, Ok, Err}
use Rattle.std.proofs.Common.{refl, sym, ap, subst, ◌∙◌, append_assoc, string_bytes}
use Rattle.std.specs.Prelude.{OnOk, IfOk, IfSome, String, Bool, if◌then◌else◌, is_some}
use Rattle.std.specs.declared.alloc.Global.{Global}
use Rattle.rt_socket.specs.declared.wire.Lost.{Lost as SocketLost}
use Rattle.rt_world.specs.declared.step.Step.TheVariants.{Connected, Disconnected}
use Rattle.rt_client.specs.Calls.{Locked}
use Rattle.rt_lines.specs.inside.Appending.{Appends}
use Rattle.rt_connect.specs.declared.link.Lost.{Lost}
use Rattle.rt_connect.specs.declared.link.ServerEvent.{ServerEvent}
use Rattle.rt_connect.specs.declared.link.ServerEvent.TheVariants as heard
use Rattle.rt_connect.specs.declared.link.ServerFrame.{ServerFrame}
use Rattle.rt_connect.specs.Doing.{Seats, disconnected}
use Rattle.rt_connect.specs.Driving.{HasSent, PrintsHeard, PrintsLost, PrintsStep}
use Rattle.rt_connect.specs.Driving.{PrintsTaken, PrintsTold, goes_on}
use Rattle.rt_connect.specs.Ending.{end_text}
use Rattle.rt_connect.specs.Sending.{Linked}

-- what is so of the value that was behind the lock is so of some
pub at_some_time : {A E : Type 0} (P : List ℕ → Type 0) (Q : Locked → Locked → List ℕ → Type 0)
    (r : Result A E) (old new : Locked) → OnOk r ((x : List ℕ) × P x × Q old new x)
    → OnOk r ((x : List ℕ) × P x × ((a b : Locked) × Q a b x))
at_some_time P Q (Ok v) old new h = (h.0, h.1, (old, new, h.2))
at_some_time P Q (Err e) old new h = tt

-- one text behind another
pub both : (o m n a b : List ℕ) → m ≡ o ++ a → n ≡ m ++ b → n ≡ o ++ (a ++ b)
both o m n a b first second = second ∙ ap (λ x. x ++ b) first ∙ append_assoc o a b

-- the client is told that the connection is gone, and then the seats are told
pub lost_text : {A E : Type 0} (o m n why : List ℕ) (seats now : Seats) (r : Result A E) → now ≡ seats
    → m ≡ o ++ (disconnected ++ why) → PrintsStep Disconnected why
    → OnOk r ((told : List ℕ) × (n ≡ m ++ told) × PrintsTold now told)
    → OnOk r ((text : List ℕ) × (n ≡ o ++ text) × PrintsLost seats text)
lost_text o m n why seats now (Ok v) same first step h = (
  (disconnected ++ why) ++ h.0,
  both o m n (disconnected ++ why) h.0 first h.1,
  (why, h.0, step, subst (λ s. PrintsTold s h.0) same h.2, refl),
)
lost_text o m n why seats now (Err e) same first step h = tt

-- a message was heard
pub told_text : (o m n taken : List ℕ) (h : ServerEvent) (told : ServerFrame) (seats now : Seats)
    → h ≡ heard.Told told → now ≡ seats → m ≡ o ++ taken → PrintsTaken told taken
    → ((rest : List ℕ) × (n ≡ m ++ rest) × PrintsTold now rest)
    → ((text : List ℕ) × (n ≡ o ++ text) × PrintsHeard h seats text)
told_text o m n taken h told seats now is same first takes (rest, second, tells) =
    let all : PrintsHeard (heard.Told told) seats (taken ++ rest) =
    (taken, rest, takes, subst (λ s. PrintsTold s rest) same tells, refl) in (
      taken ++ rest,
      both o m n taken rest first second,
      subst (λ x. PrintsHeard x seats (taken ++ rest)) (sym is) all,
    )

-- the end was heard
pub ended_text : (o n : List ℕ) (h : ServerEvent) (why : Lost) (seats : Seats) → h ≡ heard.Ended why
    → ((text : List ℕ) × (n ≡ o ++ text) × PrintsLost seats text)
    → ((text : List ℕ) × (n ≡ o ++ text) × PrintsHeard h seats text)
ended_text o n h why seats is (text, more, lost) =
    (text, more, subst (λ x. PrintsHeard x seats text) (sym is) lost)

-- all that waited was sent, and nothing is printed of that
stood : {W A E L : Type 0} (C : W → List ℕ → Option SocketLost → W → Type 0) (r : Result A E) (new : Option L)
    (at : L → Linked W) (first : Linked W) (o m n : String Global) (why : List ℕ) → Appends o m why
    → PrintsStep Connected why → OnOk r (IfSome new (λ y. HasSent C first (at y) × (n ≡ m)))
    → OnOk r (IfSome new (λ y. HasSent C first (at y) × (text : List ℕ) × Appends o n text
    × PrintsStep Connected text))
stood C (Ok v) None at first o m n why told step h = tt
stood C (Ok v) (Some y) at first o m n why told step h = (h.0, why, ap string_bytes h.1 ∙ told, step)
stood C (Err e) new at first o m n why told step h = tt

pub began : {W A E L : Type 0} (C : W → List ℕ → Option SocketLost → W → Type 0) (r : Result A E)
    (mid new : Option L) (l : L) (at : L → Linked W) (first : Linked W) (o m n : String Global) (why : List ℕ)
    → mid ≡ Some l → at l ≡ first → Appends o m why → PrintsStep Connected why
    → IfSome mid (λ x. OnOk r (IfSome new (λ y. HasSent C (at x) (at y) × (n ≡ m))))
    → OnOk r (IfSome new (λ y. HasSent C first (at y) × (text : List ℕ) × Appends o n text
    × PrintsStep Connected text))
began C r mid new l at first o m n why is there told step h =
    stood C r new at first o m n why told step
    (subst (λ x. OnOk r (IfSome new (λ y. HasSent C x (at y) × (n ≡ m)))) there
    (subst (λ o. IfSome o (λ x. OnOk r (IfSome new (λ y. HasSent C (at x) (at y) × (n ≡ m))))) is h))

-- the connection was lost at once
gone : {A E L : Type 0} (r : Result A E) (new : Option L) (o m n why : List ℕ) (seats now : Seats)
    → now ≡ seats → m ≡ o ++ why → PrintsStep Connected why
    → OnOk r (new ≡ None → (text : List ℕ) × (n ≡ m ++ text) × PrintsLost now text)
    → OnOk r (new ≡ None → (first text : List ℕ) × (n ≡ o ++ (first ++ text)) × PrintsStep Connected first
    × PrintsLost seats text)
gone (Ok v) new o m n why seats now same first step h = λ none. (
  why,
  (h none).0,
  both o m n why (h none).0 first (h none).1,
  step,
  subst (λ s. PrintsLost s (h none).0) same (h none).2,
)
gone (Err e) new o m n why seats now same first step h = tt

pub lost_at_once : {A E L : Type 0} (r : Result A E) (mid new : Option L) (l : L) (o m n why : List ℕ)
    (seats now : Seats) → mid ≡ Some l → now ≡ seats → m ≡ o ++ why → PrintsStep Connected why
    → IfSome mid (λ x. OnOk r (new ≡ None → (text : List ℕ) × (n ≡ m ++ text) × PrintsLost now text))
    → OnOk r (new ≡ None → (first text : List ℕ) × (n ≡ o ++ (first ++ text)) × PrintsStep Connected first
    × PrintsLost seats text)
lost_at_once r mid new l o m n why seats now is same first step h =
    gone r new o m n why seats now same first step
    (subst (λ o. IfSome o (λ x. OnOk r (new ≡ None → (text : List ℕ) × (n ≡ m ++ text) × PrintsLost now text))) is h)

-- a connection stands where what was heard is no end
pub stands_so : {E L : Type 0} (r : Result Bool E) (h : ServerEvent) (old new : Option L) (l : L) → old ≡ Some l
    → IfOk r (λ s. s ≡ goes_on h) → OnOk r (new ≡ (if goes_on h then old else None))
    → IfOk r (λ s. s ≡ is_some new)
stands_so (Ok s) (heard.Told told) old new l is stands left = stands ∙ sym (ap is_some (left ∙ is))
stands_so (Ok s) (heard.Ended why) old new l is stands left = stands ∙ sym (ap is_some left)
stands_so (Err e) h old new l is stands left = tt

-- what is so of how a connection ended, where a result is one, and of what is printed of it
pub ended_so : {A E L : Type 0} (r : Result A E) (o : Option L) (why : Lost) (P : Lost → Type 0)
    (a m n text : List ℕ) → P why → m ≡ a ++ text → PrintsStep Disconnected text
    → OnOk r (n ≡ m ++ end_text why)
    → OnOk r (IfSome o (λ _. (why : Lost) × P why × (text : List ℕ) × (n ≡ a ++ (text ++ end_text why))
    × PrintsStep Disconnected text))
ended_so (Ok v) None why P a m n text so first step h = tt
ended_so (Ok v) (Some x) why P a m n text so first step h =
    (why, so, text, both a m n text (end_text why) first h, step)
ended_so (Err e) o why P a m n text so first step h = tt
