-- What a client shows of a listener is what its core answers.
use Rattle.std.proofs.Common.{◌≡◌, ◌==◌, ℕ, inl, inr, refl, sym, ◌∙◌, ap, subst, Option, Some, None, Ok, Err}
use Rattle.std.specs.List.{find}
use Rattle.std.specs.Option.{option_map_or}
use Rattle.rt_query.specs.Select.{Shown}
use Rattle.rt_world.specs.declared.error.CoreError.{CoreError}
use Rattle.rt_world.specs.declared.error.CoreError.TheVariants as core
use Rattle.rt_world.specs.World.{World, Listener}
use Rattle.rt_sync.specs.Core.{Views}
use Rattle.rt_client.specs.declared.error.ClientError.{ClientError}
use Rattle.rt_client.specs.declared.error.ClientError.TheVariants as error
use Rattle.rt_client.specs.Codes.{of_core}
use Rattle.rt_client.specs.Shared.{Held}
use Rattle.rt_client.specs.Calls.{Locked}
use Rattle.rt_client.specs.Viewing.{HasShown, RefusesShown, RefusesView}

shown_by : (core : Option World) (h : Held) (n : ℕ) (shown : Option Shown) → h.core ≡ core → Views core n (Ok shown) → HasShown h n shown
shown_by None h n shown is v = cc
shown_by (Some w) h n shown is (inl e) = record { world = w; core = is; view = sym e }
shown_by (Some w) h n shown is (inr e) = let wrong = e.0 in cc

pub has_shown : (h : Held) (n : ℕ) (shown : Option Shown) → Views h.core n (Ok shown) → HasShown h n shown
has_shown h n shown v = shown_by h.core h n shown refl v

-- a view is refused for a number that no listener has alone
unknown_by : (o : Option Listener) (e : CoreError) → Err e ≡ option_map_or (λ (l : Listener). Ok l.view) o (Err core.UnknownListener) → e ≡ core.UnknownListener
unknown_by None e is = cc
unknown_by (Some l) e is = cc

none_by : (core : Option World) (h : Held) (n : ℕ) (e : CoreError) (w : World) → h.core ≡ core → core ≡ Some w → Views core n (Err e) → RefusesShown h n (of_core e)
none_by None h n e w is there v = cc
none_by (Some u) h n e w is there (inl v) =
    let unknown : e ≡ core.UnknownListener = unknown_by (find (λ (l : Listener). l.number == n) u.listeners) e v in
    subst (λ x. RefusesShown h n (of_core x)) (sym unknown) (u, is, sym v ∙ ap Err unknown)
none_by (Some u) h n e w is there (inr v) =
    let lacks : e ≡ core.NoMemory = cc in
    subst (λ x. RefusesShown h n (of_core x)) (sym lacks) (u, is, v.1)

pub shows_none : (h : Held) (n : ℕ) (e : CoreError) (why : ClientError) (w : World) → h.core ≡ Some w → Views h.core n (Err e) → why ≡ of_core e → RefusesShown h n why
shows_none h n e why w there v is = subst (RefusesShown h n) (sym is) (none_by h.core h n e w refl there v)

pub refuses_view : (old : Locked) (h : Held) (n : ℕ) (why : ClientError) → old.held ≡ Some h → RefusesShown h n why → RefusesView old n why
refuses_view old h n error.Failed is r = absurd r
refuses_view old h n error.WrongSeat is r = r
refuses_view old h n error.MailboxFull is r = r
refuses_view old h n error.TooManySeats is r = r
refuses_view old h n (error.Core why) is r = (h, is, r)
refuses_view old h n error.NoMemory is r = (h, is, r)
