-- What the snapshots of a seat's thread take of it.
use Rattle.std.specs.Prelude.{◌≡◌, ◌⊎◌, ℕ, List, ◌∷◌, ◌++◌, Bool, is_some}
use Rattle.std.specs.Option.{option_and_then}
use Rattle.rt_mail.specs.declared.item.Item.{Item}
use Rattle.rt_mail.specs.Snapshots.{Known, Seen, seen_of, after_items}
use Rattle.rt_client.specs.declared.error.ClientError.{ClientError}
use Rattle.rt_client.specs.declared.error.ClientError.TheVariants as client
use Rattle.rt_client.specs.Calls.{Seated}
use Rattle.rt_client.specs.Delivery.{emptied}

-- a listener is known, and shows a value
abbrev pub is_shown : ℕ → Known → Bool
is_shown n known = is_some (option_and_then (λ (s : Seen). s.value) (seen_of n known))

-- the snapshots take all that the seat's ring held, and then what came, in order; the ring is empty
pub record SeesAll (old : Seated) (had : Known) (new : Seated) (has : Known) : Type 0 where
  pub came : List Item
  pub seen : has ≡ after_items had (old.ring.items ++ came)
  pub seat : new ≡ emptied old

-- so it is, or nothing is taken
abbrev pub Sees : Seated → Known → Seated → Known → Type 0
Sees old had new has = ((new ≡ old) × (has ≡ had)) ⊎ SeesAll old had new has

-- memory lacks for one item, which is lost: those before it are taken, and those behind it stay
pub record SeesSome (old : Seated) (had : Known) (new : Seated) (has : Known) : Type 0 where
  pub came : List Item
  pub first : List Item
  pub lost : Item
  pub rest : List Item
  pub items : old.ring.items ++ came ≡ first ++ lost ∷ rest
  pub seen : has ≡ after_items had first
  pub seat : new ≡ record old { ring = record old.ring { items = rest } }

-- why no more is taken: the client has failed, or the seat is closed or another client's; or memory lacks
abbrev pub RefusesSeeing : Seated → Known → ClientError → Seated → Known → Type 0
RefusesSeeing old had client.Failed new has = Sees old had new has
RefusesSeeing old had client.WrongSeat new has = Sees old had new has
RefusesSeeing old had client.MailboxFull new has = ⊥
RefusesSeeing old had client.TooManySeats new has = ⊥
RefusesSeeing old had (client.Core why) new has = ⊥
RefusesSeeing old had client.NoMemory new has = SeesSome old had new has
