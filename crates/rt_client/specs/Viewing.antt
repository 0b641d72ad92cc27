-- What a client shows of a listener: the view that its core has.
use Rattle.std.specs.Prelude.{◌≡◌, ℕ, Option, Some, Ok, Err}
use Rattle.rt_query.specs.Select.{Shown}
use Rattle.rt_world.specs.World.{World}
use Rattle.rt_sync.specs.Core.{view_in, HasView}
use Rattle.rt_client.specs.declared.error.ClientError.{ClientError}
use Rattle.rt_client.specs.declared.error.ClientError.TheVariants.{Failed, WrongSeat, MailboxFull}
use Rattle.rt_client.specs.declared.error.ClientError.TheVariants.{TooManySeats, Core, NoMemory}
use Rattle.rt_client.specs.Shared.{Held}
use Rattle.rt_client.specs.Calls.{Locked, HasFailed}

-- ---- what is held

-- it is the view of the world's listener; none while nothing is known of its path
pub record HasShown (h : Held) (listener : ℕ) (shown : Option Shown) : Type 0 where
  pub world : World
  pub core : h.core ≡ Some world
  pub view : view_in world listener ≡ Ok shown

-- why there is none: the core says so, or memory lacks for a view that is there
abbrev pub RefusesShown : Held → ℕ → ClientError → Type 0
RefusesShown h listener Failed = ⊥
RefusesShown h listener WrongSeat = ⊥
RefusesShown h listener MailboxFull = ⊥
RefusesShown h listener TooManySeats = ⊥
RefusesShown h listener (Core why) =
    (w : World) × (h.core ≡ Some w) × (view_in w listener ≡ Err why)
RefusesShown h listener NoMemory = (w : World) × (h.core ≡ Some w) × HasView w listener

-- ---- the locked value

pub record ShowsView (old : Locked) (listener : ℕ) (shown : Option Shown) : Type 0 where
  pub before : Held
  pub held : old.held ≡ Some before
  pub shows : HasShown before listener shown

-- why it does not
abbrev pub RefusesView : Locked → ℕ → ClientError → Type 0
RefusesView old listener Failed = HasFailed old
RefusesView old listener WrongSeat = ⊥
RefusesView old listener MailboxFull = ⊥
RefusesView old listener TooManySeats = ⊥
RefusesView old listener (Core why) =
    (before : Held) × (old.held ≡ Some before) × RefusesShown before listener (Core why)
RefusesView old listener NoMemory =
    (before : Held) × (old.held ≡ Some before) × RefusesShown before listener NoMemory
