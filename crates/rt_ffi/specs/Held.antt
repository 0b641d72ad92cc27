-- What calls make of what a handle holds.
use Rattle.std.specs.Prelude.{◌≡◌, Option, Some, None, MatchOption}
use Rattle.rt_foreign.specs.declared.handle.HandleContent.{HandleContent}
use Rattle.rt_foreign.specs.declared.handle.HandleContent.TheVariants as held
use Rattle.rt_foreign.specs.Clients.{Client}
use Rattle.rt_foreign.specs.Sessions.{Session}

-- the core that is open, if one is
abbrev pub core_in : Option HandleContent → Option Session
core_in None = None
core_in (Some (held.Core session)) = Some session
core_in (Some (held.Client client)) = None

-- a call on a core: where none is open it is turned away and nothing changes, else the core that was there
-- becomes the one that is
abbrev pub CallsCore : Type 0 → (Session → Session → Type 0) → Option HandleContent → Option HandleContent → Type 0
CallsCore turned_away makes old new =
    MatchOption (core_in old) (turned_away × (new ≡ old))
    (λ before. MatchOption (core_in new) ⊥ (λ after. makes before after))

-- the client that is open, if one is
abbrev pub client_in : Option HandleContent → Option Client
client_in None = None
client_in (Some (held.Core session)) = None
client_in (Some (held.Client client)) = Some client

-- a call on a client: as one on a core
abbrev pub CallsClient : Type 0 → (Client → Client → Type 0) → Option HandleContent → Option HandleContent → Type 0
CallsClient turned_away makes old new =
    MatchOption (client_in old) (turned_away × (new ≡ old))
    (λ before. MatchOption (client_in new) ⊥ (λ after. makes before after))
