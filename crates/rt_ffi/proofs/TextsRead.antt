-- Calls and messages that are read from texts. Where memory lacks to read one, it counts as not read.
use Rattle.std.proofs.Common.{◌≡◌, ◌⊎◌, ℕ, Option, Some, None, Result, Ok, Err, inl, inr, sym, subst}
use Rattle.std.specs.Prelude.{IfOk, IfErr, MatchOption}
use Rattle.rt_world.specs.declared.step.Call.{Call}
use Rattle.rt_lines.specs.declared.error.LineError.{LineError}
use Rattle.rt_lines.specs.declared.error.LineError.TheVariants.{NoMemory}
use Rattle.rt_foreign.specs.declared.client.Event.{Event}
use Rattle.rt_foreign.specs.declared.handle.HandleContent.{HandleContent}
use Rattle.rt_foreign.specs.Asking.{Asks, AsksFor}
use Rattle.rt_foreign.specs.Clients.{Client}
use Rattle.rt_foreign.specs.Connection.{Hears, HearsOf}
use Rattle.rt_ffi.specs.Held.{CallsClient, client_in}

-- what is read is what the texts ask for, or memory lacked
either : {A : Type 0} (P : Result A LineError → Type 0) (text read : Result A LineError)
    → IfOk read (λ x. text ≡ Ok x) → IfErr read (λ e. (text ≡ Err e) ⊎ (e ≡ NoMemory)) → P read
    → P text ⊎ P (Err NoMemory)
either P text (Ok x) is none p = inl (subst P (sym is) p)
either P text (Err e) is (inl same) p = inl (subst P (sym same) p)
either P text (Err e) is (inr lacks) p = inr (subst (λ f. P (Err f)) lacks p)

-- what holds of two clients, or where there is none, gives what follows from it
after : (t u : Type 0) (P Q : Client → Client → Type 0) → (t → u) → ((a b : Client) → P a b → Q a b)
    → (before left : Option Client) → (same : Type 0)
    → MatchOption before (t × same) (λ a. MatchOption left ⊥ (λ b. P a b))
    → MatchOption before (u × same) (λ a. MatchOption left ⊥ (λ b. Q a b))
after t u P Q g f None left same h = (g h.0, h.1)
after t u P Q g f (Some a) None same h = h
after t u P Q g f (Some a) (Some b) same h = f a b h

pub asks_read : (text read : Result Call LineError) (turned : Type 0) (seat result given : ℕ)
    (old new : Option HandleContent) → IfOk read (λ c. text ≡ Ok c)
    → IfErr read (λ e. (text ≡ Err e) ⊎ (e ≡ NoMemory))
    → CallsClient turned (λ a b. AsksFor read seat a result given b) old new
    → CallsClient turned (λ a b. Asks text seat a result given b) old new
asks_read text read turned seat result given old new is none h =
    after turned turned (λ a b. AsksFor read seat a result given b) (λ a b. Asks text seat a result given b)
    (λ h. h) (λ a b p. either (λ r. AsksFor r seat a result given b) text read is none p)
    (client_in old) (client_in new) (new ≡ old) h

pub hears_read : (text read : Result Event LineError) (turned : Type 0) (result : ℕ)
    (old new : Option HandleContent) → IfOk read (λ e. text ≡ Ok e)
    → IfErr read (λ e. (text ≡ Err e) ⊎ (e ≡ NoMemory))
    → CallsClient turned (λ a b. HearsOf read a result b) old new
    → CallsClient turned (λ a b. Hears text a result b) old new
hears_read text read turned result old new is none h =
    after turned turned (λ a b. HearsOf read a result b) (λ a b. Hears text a result b)
    (λ h. h) (λ a b p. either (λ r. HearsOf r a result b) text read is none p)
    (client_in old) (client_in new) (new ≡ old) h

-- the number that no call has is not told
pub unlistens : (read : Result Call LineError) (closed : Type 0) (seat result given : ℕ) (old new : Option HandleContent)
    → CallsClient (closed × (given ≡ 0)) (λ a b. AsksFor read seat a result given b) old new
    → CallsClient closed (λ a b. (n : ℕ) × AsksFor read seat a result n b) old new
unlistens read closed seat result given old new h =
    after (closed × (given ≡ 0)) closed (λ a b. AsksFor read seat a result given b)
    (λ a b. (n : ℕ) × AsksFor read seat a result n b) (λ h. h.0) (λ a b p. (given, p))
    (client_in old) (client_in new) (new ≡ old) h
