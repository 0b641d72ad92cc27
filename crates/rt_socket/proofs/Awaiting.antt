-- What is pushed, by its answer, and what is heard tick by tick.
use Rattle.std.proofs.Common.{◌≡◌, ◌<◌, ◌==◌, ◌+◌, ℕ, suc, List, [], Option, None, Some, Result, Ok, Err, true, false}
use Rattle.std.proofs.Common.{refl, sym, subst, inl, inr, arith}
use Rattle.std.specs.Prelude.{IfOk, IfErr, OnOk}
use Rattle.std.specs.declared.alloc.AllocError.{AllocError}
use Rattle.std.proofs.lemmas.Bool.{eq-eqb}
use Rattle.tungstenite.specs.Connection.{Effect, write_step}
use Rattle.tungstenite.specs.Content.{Content, ping}
use Rattle.tungstenite.specs.Failure.{WriteFails}
use Rattle.tungstenite.specs.Socket.{Socket, Writes}
use Rattle.tungstenite.specs.declared.error.Error.{Error}
use Rattle.websocket.specs.declared.error.Error.{Error as FrameError}
use Rattle.rt_socket.specs.Awaiting.{AsksIf, Awaits, IsSilent, Pushes, Ticks, is_something, lost_of}
use Rattle.rt_socket.specs.Awaiting.{sent_by, unsent_by}
use Rattle.rt_socket.specs.Hearing.{fault_of}
use Rattle.rt_socket.specs.Sockets.{Hears}
use Rattle.rt_socket.specs.declared.wire.Lost.{Lost}
use Rattle.rt_socket.specs.declared.wire.Lost.TheVariants.{Silent}
use Rattle.rt_socket.specs.declared.patience.TheConstants.{ASKING_TICK, SILENT_TICKS}
use Rattle.rt_socket.specs.declared.wire.Heard.{Heard}
use Rattle.rt_socket.specs.declared.wire.Heard.TheVariants.{Text, Binary, Sign, Nothing, Ended}

-- a failure is why it is not sent, unless memory lacks
not_pushed : {S : Type 0} (contents : S → Option (List ℕ)) (step : Result Effect FrameError) (old new : Socket S)
    (e : Error) (why : Result Lost AllocError) → WriteFails step e → unsent_by (fault_of e) ≡ why
    → IfOk (lost_of why) (λ lost. Pushes contents step old lost new)
not_pushed contents step old new e (Ok why) fails is = (e, fails, is)
not_pushed contents step old new e (Err lacking) fails is = tt

-- what a call says of a socket and a content it says of their equals
pub at_equals : {S A : Type 0} (P : Socket S → Content → A → Type 0) (a b : Socket S) (m n : Content) (answer : A)
    → a ≡ b → m ≡ n → P a m answer → P b n answer
at_equals P a b m n answer same is h = subst (λ x. P b x answer) is (subst (λ s. P s m answer) same h)

-- the step is pushed, or is not, by the answer of its write
pub pushes_by : {S : Type 0} (contents : S → Option (List ℕ)) (step : Result Effect FrameError)
    (old new : Socket S) (answer : Result Unit Error) (r : Result (Option Lost) AllocError)
    → r ≡ sent_by answer → OnOk answer (Writes contents old new step) → OnOk answer (new.output ≡ [])
    → IfErr answer (WriteFails step) → IfOk r (λ lost. Pushes contents step old lost new)
pushes_by contents step old new (Ok done) r is wrote empty fails =
    subst (λ x. IfOk x (λ lost. Pushes contents step old lost new)) (sym is) (wrote, empty)
pushes_by contents step old new (Err e) r is wrote empty fails =
    subst (λ x. IfOk x (λ lost. Pushes contents step old lost new)) (sym is)
    (not_pushed contents step old new e (unsent_by (fault_of e)) fails refl)

-- at the tick for it the step is a ping
pub asks_so : {S : Type 0} (contents : S → Option (List ℕ)) (tick : ℕ) (old new : Socket S)
    (r : Result (Option Lost) AllocError) → tick ≡ ASKING_TICK
    → IfOk r (λ lost. Pushes contents (write_step old.conn (ping [])) old lost new)
    → IfOk r (λ lost. AsksIf contents (tick == ASKING_TICK) old lost new)
asks_so contents tick old new r is h =
    subst (λ b. IfOk r (λ lost. AsksIf contents b old lost new)) (sym (eq-eqb tick ASKING_TICK is)) h

-- what is not something is nothing
is_nothing : (heard : Heard) → is_something heard ≡ false → heard ≡ Nothing
is_nothing (Text words) e = cc
is_nothing Binary e = cc
is_nothing Sign e = cc
is_nothing Nothing e = refl
is_nothing (Ended why) e = cc

next : (n : ℕ) → suc n ≡ n + 1
next n = omega arith

-- a tick passed, in which nothing came
ticks : {S : Type 0} (remaining contents : S → Option (List ℕ)) (n : ℕ) (a b c : Socket S) (heard : Heard)
    (lost : Option Lost) → is_something heard ≡ false → Hears remaining contents a (Ok heard) b
    → AsksIf contents (n == ASKING_TICK) b lost c → Ticks remaining contents n a lost c
ticks remaining contents n a b c heard lost not hears asks = record {
  mid = b;
  nothing = subst (λ h. Hears remaining contents a (Ok h) b) (is_nothing heard not) hears;
  asks = asks;
}

-- and the other side is waited for further
pub silent_more : {S : Type 0} (remaining contents : S → Option (List ℕ)) (n : ℕ) (first a b c : Socket S)
    (heard : Heard) (lost : Option Lost) → IsSilent remaining contents n first a
    → is_something heard ≡ false → Hears remaining contents a (Ok heard) b
    → AsksIf contents (n == ASKING_TICK) b lost c → lost ≡ None → IsSilent remaining contents (n + 1) first c
silent_more remaining contents n first a b c heard lost silent not hears asks none =
    subst (λ k. IsSilent remaining contents k first c) (next n) (
      a,
      silent,
      ticks remaining contents n a b c heard None not hears
          (subst (λ l. AsksIf contents (n == ASKING_TICK) b l c) none asks),
    )

-- something came
pub something_came : {S : Type 0} (remaining contents : S → Option (List ℕ)) (n : ℕ) (first a b : Socket S)
    (heard : Heard) → IsSilent remaining contents n first a → n < SILENT_TICKS → is_something heard ≡ true
    → Hears remaining contents a (Ok heard) b → Awaits remaining contents first heard b
something_came remaining contents n first a b heard silent early is hears =
    record { ticks = n; mid = a; silent = silent; comes = inl (early, is, hears) }

-- the other side can't be asked
pub cant_be_asked : {S : Type 0} (remaining contents : S → Option (List ℕ)) (n : ℕ) (first a b c : Socket S)
    (heard : Heard) (lost : Option Lost) (why : Lost) → IsSilent remaining contents n first a → n < SILENT_TICKS
    → is_something heard ≡ false → Hears remaining contents a (Ok heard) b
    → AsksIf contents (n == ASKING_TICK) b lost c → lost ≡ Some why
    → Awaits remaining contents first (Ended why) c
cant_be_asked remaining contents n first a b c heard lost why silent early not hears asks some = record {
  ticks = n;
  mid = a;
  silent = silent;
  comes = inr (inl (
    early,
    why,
    refl,
    ticks remaining contents n a b c heard (Some why) not hears
        (subst (λ l. AsksIf contents (n == ASKING_TICK) b l c) some asks),
  ));
}

-- it is given up
pub given_up : {S : Type 0} (remaining contents : S → Option (List ℕ)) (n : ℕ) (first a : Socket S)
    → IsSilent remaining contents n first a → n ≡ SILENT_TICKS → Awaits remaining contents first (Ended Silent) a
given_up remaining contents n first a silent all =
    record { ticks = n; mid = a; silent = silent; comes = inr (inr (all, refl, refl)) }

-- what is heard last is what a read gave
pub heard_last : {S : Type 0} (remaining contents : S → Option (List ℕ)) (old new : Socket S)
    (r : Result Heard AllocError) → Hears remaining contents old r new
    → IfOk r (λ heard. Hears remaining contents old (Ok heard) new)
heard_last remaining contents old new (Ok heard) h = h
heard_last remaining contents old new (Err e) h = tt
