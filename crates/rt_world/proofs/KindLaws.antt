-- What each kind of step is, said by its fields. Here alone the steps are gone over one by one: every other law asks for what stands here.
use Rattle.std.proofs.Common.{◌≡◌, ℕ, ◌<◌, Bool, true, false, not, ◌&&◌, ◌||◌, ◌==◌, ◌⊎◌, inl, inr, List, [], ◌∷◌, ◌++◌, map, length, refl, sym, ap, subst, ◌∙◌, Option, Some, None, is_some, nat_le, nat_lt}
use mathlib.Core.Bool.{true≢false}
use Rattle.std.specs.Cmp.{nat_eq_equiv}
use Rattle.std.specs.List.{filter, list_any, Contains}
use Rattle.std.proofs.lemmas.List.Folds.{Any-from_list_any, list_any_at}
use Rattle.rt_query.specs.Queries.{Query}
use Rattle.rt_cache.specs.Brought.{Brought}
use Rattle.rt_cover.specs.Runs.{Change, Add, Remove, Revoke}
use Rattle.rt_cover.specs.laws.CoverLaws.{Contains-filter, Contains-from_filter, passes-from_filter}
use Rattle.rt_cover.specs.laws.FormLaws.{same_tests}
use Rattle.rt_cover.specs.laws.KeepLaws.{Contains-map, Contains-from_map, length_of_map}
use Rattle.rt_wire.specs.declared.request.Asked.{Asked}
use Rattle.rt_wire.specs.declared.request.Asked.TheVariants.{Now, AtDisconnect}
use Rattle.rt_world.specs.declared.error.CoreError.{CoreError}
use Rattle.rt_world.specs.declared.error.CoreError.TheVariants.{UnknownListener, TooManyListeners, TooManyRequests, Overlap, EmptyUpdate, TooDeep, BadPush, AlreadyConnected, NotConnected}
use Rattle.rt_world.specs.declared.step.Step.{Step}
use Rattle.rt_world.specs.World.{Reason, Listener, World}
use Rattle.rt_world.specs.After.{kind}
use Rattle.rt_world.specs.Codes.{code_of}
use Rattle.rt_world.specs.Plain.{with_new}
use Rattle.rt_world.specs.Sound.{IsSound}
use Rattle.rt_world.specs.laws.Refused.{first_of}
use Rattle.rt_world.specs.steps.Asking.{ask, requests_with}
use Rattle.rt_world.specs.steps.Closing.{close_seat, numbers_of, unseated}
use Rattle.rt_world.specs.steps.Connection.{connected, disconnected}
use Rattle.rt_world.specs.steps.Kind.{Kind, Part}
use Rattle.rt_world.specs.steps.Listening.{listen, unlisten}
use Rattle.rt_world.specs.steps.Pushing.{push_of}
use Rattle.rt_world.specs.steps.Revoking.{is_cancelled, revoke}
use Rattle.rt_world.specs.steps.Settling.{settle}
use Rattle.rt_world.proofs.Listeners.{same_number, or_false_left, or_false_right}
use Rattle.rt_world.proofs.Numbers.{one_number}

-- ---- listeners

-- a new listener
abbrev pub first_seen : World → ℕ → Query → Listener
first_seen w seat query = record { number = w.next_listener; seat = seat; query = query; is_primed = false; view = None }

-- no limit of listeners is reached, and no tag is lacking
pub record IsRoomy (w : World) (lacks_tag : Bool) : Type 0 where
  pub listeners : nat_le w.limits.listeners (length w.listeners) ≡ false
  pub number : nat_lt w.limits.last_number w.next_listener ≡ false
  pub tag : lacks_tag ≡ false

-- all listeners stay
pub record IsStill (k : Kind) : Type 0 where
  pub change : k.change ≡ None
  pub revoked : k.revoked ≡ None
  pub registers : k.registers ≡ false
  pub listeners : (w : World) → k.listeners w ≡ w.listeners

-- one comes
pub record IsAdding (k : Kind) : Type 0 where
  pub seat : ℕ
  pub query : Query
  pub change : k.change ≡ Some (λ w. Add w.next_listener query)
  pub revoked : k.revoked ≡ None
  pub registers : k.registers ≡ true
  pub listeners : (w : World) → k.listeners w ≡ w.listeners ++ first_seen w seat query ∷ []
  pub room : (w : World) (lacks_tag : Bool) → k.has_too_many w lacks_tag ≡ false → IsRoomy w lacks_tag

-- those go that have certain numbers
pub record IsEnding (k : Kind) : Type 0 where
  pub numbers : World → List ℕ
  pub stays : World → Listener → Bool
  pub change : k.change ≡ Some (λ w. Remove (numbers w))
  pub revoked : k.revoked ≡ None
  pub registers : k.registers ≡ false
  pub listeners : (w : World) → k.listeners w ≡ filter (stays w) w.listeners
  pub others : (w : World) → IsSound w → (l : Listener) → Contains w.listeners l → stays w l ≡ not (list_any (λ n. n == l.number) (numbers w))

-- those go that are of a revoked listen
pub record IsRevoking (k : Kind) : Type 0 where
  pub tag : ℕ
  pub why : Reason
  pub change : k.change ≡ Some (λ w. Revoke tag)
  pub revoked : k.revoked ≡ Some (tag, why)
  pub registers : k.registers ≡ false
  pub listeners : (w : World) → k.listeners w ≡ filter (λ l. not (is_cancelled w tag l)) w.listeners

-- one of these it is
pub data Listening (k : Kind) : Type 0 where
  still : IsStill k → Listening k
  adding : IsAdding k → Listening k
  removing : IsEnding k → Listening k
  revoking : IsRevoking k → Listening k

-- ---- requests

-- all requests stay, those of a seat stay without it, one comes, or one goes
pub data Requesting (k : Kind) : Type 0 where
  keeping : k.settled ≡ None → k.asked ≡ None → ((w : World) → k.requests w ≡ w.requests) → Requesting k
  unseating : (seat : ℕ) → k.settled ≡ None → k.asked ≡ None → ((w : World) → k.requests w ≡ map (unseated seat) w.requests) → Requesting k
  asking : (asked : ℕ × Asked) → k.settled ≡ None → k.asked ≡ Some asked → ((w : World) → k.requests w ≡ requests_with w asked)
      → ((w : World) → k.has_too_many_requests w ≡ (nat_le w.limits.requests (length w.requests) || nat_lt w.limits.last_number w.next_request)) → Requesting k
  settling : (d : ℕ × Option Reason) → k.settled ≡ Some d → k.asked ≡ None → ((w : World) → k.requests w ≡ filter (λ r. not (r.id == d.0)) w.requests) → Requesting k

-- ---- a kind

-- it pushes, asks for and settles nothing
pub record IsAlone (k : Kind) : Type 0 where
  pub parts : k.parts ≡ []
  pub settled : k.settled ≡ None
  pub asked : k.asked ≡ None

-- the refusals with their conditions, in order
abbrev pub conditions_of : Kind → World → Bool → List (Bool × CoreError)
conditions_of k w needs_tag =
    (k.is_unknown w, UnknownListener)
    ∷ (k.has_too_many w needs_tag, TooManyListeners)
    ∷ (k.has_too_many_requests w, TooManyRequests)
    ∷ (k.has_overlap, Overlap)
    ∷ (k.is_empty, EmptyUpdate)
    ∷ (k.is_too_deep, TooDeep)
    ∷ (k.is_bad_push w, BadPush)
    ∷ (k.opens && w.is_connected, AlreadyConnected)
    ∷ (k.needs_connection && not w.is_connected, NotConnected)
    ∷ (k.has_too_many_last needs_tag, TooManyListeners)
    ∷ []

-- what comes to its listeners and requests; it is a push or has no parts; a kind that opens a connection does
-- nothing else; one that changes listeners is alone, and looks whether a tag is lacking; no other refusal than its
-- own ever holds; one that the server does not send is never stale
pub record IsOrderly (k : Kind) : Type 0 where
  pub listeners : Listening k
  pub requests : Requesting k
  pub parts : k.parts ≡ [] ⊎ k ≡ push_of k.parts
  pub opens : k.opens ≡ true → IsStill k × ((w : World) → k.requests w ≡ w.requests)
  pub alone : is_some k.change ≡ true → IsAlone k
  pub tags : is_some k.change ≡ true → (w : World) (lacks_tag : Bool) → k.has_too_many w lacks_tag ≡ false → k.has_too_many_last lacks_tag ≡ false → lacks_tag ≡ false
  pub refusals : (w : World) (needs_tag : Bool)
      → first_of (conditions_of k w needs_tag) ≡ first_of (filter (λ c. list_any (λ f. code_of f == code_of c.1) k.refusals) (conditions_of k w needs_tag))
  pub own : (k.needs_connection && not k.closes) ≡ false → (w : World) → k.is_stale w ≡ false

-- ---- each kind

no : {X : Type 0} → false ≡ true → X
no e = absurd (true≢false (sym e))

listens : (seat : ℕ) (query : Query) → IsOrderly (listen seat query)
listens seat query = record {
  listeners = adding (record {
    seat = seat;
    query = query;
    change = refl;
    revoked = refl;
    registers = refl;
    listeners = λ w. refl;
    room = λ w lacks e.
        let front = or_false_left (nat_le w.limits.listeners (length w.listeners) || nat_lt w.limits.last_number w.next_listener) lacks e in
        record {
          listeners = or_false_left (nat_le w.limits.listeners (length w.listeners)) (nat_lt w.limits.last_number w.next_listener) front;
          number = or_false_right (nat_le w.limits.listeners (length w.listeners)) (nat_lt w.limits.last_number w.next_listener) front;
          tag = or_false_right (nat_le w.limits.listeners (length w.listeners) || nat_lt w.limits.last_number w.next_listener) lacks e;
        };
  });
  requests = keeping refl refl (λ w. refl);
  parts = inl refl;
  opens = no;
  alone = λ e. record { parts = refl; settled = refl; asked = refl };
  tags = λ e w lacks many last. or_false_right (nat_le w.limits.listeners (length w.listeners) || nat_lt w.limits.last_number w.next_listener) lacks many;
  refusals = λ w b. refl;
  own = λ e w. refl;
}

pub one_ends : (n : ℕ) (l : Listener) → not (l.number == n) ≡ not (list_any (λ m. m == l.number) (n ∷ []))
one_ends n l = ap not (nat_eq_equiv.symm l.number n ∙ or_no (n == l.number))
  where
    or_no : (b : Bool) → b ≡ (b || false)
    or_no true = refl
    or_no false = refl

unlistens : (seat listener : ℕ) → IsOrderly (unlisten seat listener)
unlistens seat listener = record {
  listeners = removing (record {
    numbers = λ w. listener ∷ [];
    stays = λ w l. not (l.number == listener);
    change = refl;
    revoked = refl;
    registers = refl;
    listeners = λ w. refl;
    others = λ w h l c. one_ends listener l;
  });
  requests = keeping refl refl (λ w. refl);
  parts = inl refl;
  opens = no;
  alone = λ e. record { parts = refl; settled = refl; asked = refl };
  tags = λ e w lacks many last. many;
  refusals = λ w b. refl;
  own = λ e w. refl;
}

pub seat_ends : (w : World) (seat : ℕ) → IsSound w → (l : Listener) → Contains w.listeners l → not (l.seat == seat) ≡ not (list_any (λ m. m == l.number) (numbers_of w seat))
seat_ends w seat h l c = ap not (same_tests (l.seat == seat) (list_any (λ m. m == l.number) (numbers_of w seat)) has is)
  where
    own : List Listener
    own = filter (λ l. l.seat == seat) w.listeners

    has : (l.seat == seat) ≡ true → list_any (λ m. m == l.number) (numbers_of w seat) ≡ true
    has e =
        let m = Contains-filter (λ (x : Listener). x.seat == seat) w.listeners l c e in
        let n = Contains-map (λ (x : Listener). x.number) own m.0 l m.1 m.2 in
        list_any_at (λ m. m == l.number) (numbers_of w seat) n.0 l.number n.1 (ap (λ m. m == l.number) n.2 ∙ nat_eq_equiv.refl l.number)

    is : list_any (λ m. m == l.number) (numbers_of w seat) ≡ true → (l.seat == seat) ≡ true
    is e =
        let a = Any-from_list_any (λ m. m == l.number) (numbers_of w seat) e in
        let x = Contains-from_map (λ (y : Listener). y.number) own a.0 a.1 (subst (λ n. a.0 < n) (length_of_map (λ (y : Listener). y.number) own) a.2) a.3 in
        let number : (x.0).number ≡ l.number = x.2 ∙ same_number a.1 l.number a.4 in
        let same : x.0 ≡ l = one_number w.listeners l x.0 h.rises c (Contains-from_filter (λ (y : Listener). y.seat == seat) w.listeners x.0 x.1) number in
        subst (λ (y : Listener). (y.seat == seat) ≡ true) same (passes-from_filter (λ (y : Listener). y.seat == seat) w.listeners x.0 x.1)

closes_seat : (seat : ℕ) → IsOrderly (close_seat seat)
closes_seat seat = record {
  listeners = removing (record {
    numbers = λ w. numbers_of w seat;
    stays = λ w l. not (l.seat == seat);
    change = refl;
    revoked = refl;
    registers = refl;
    listeners = λ w. refl;
    others = λ w h l c. seat_ends w seat h l c;
  });
  requests = unseating seat refl refl (λ w. refl);
  parts = inl refl;
  opens = no;
  alone = λ e. record { parts = refl; settled = refl; asked = refl };
  tags = λ e w lacks many last. many;
  refusals = λ w b. refl;
  own = λ e w. refl;
}

revokes : (tag : ℕ) (why : Reason) → IsOrderly (revoke tag why)
revokes tag why = record {
  listeners = revoking (record {
    tag = tag;
    why = why;
    change = refl;
    revoked = refl;
    registers = refl;
    listeners = λ w. refl;
  });
  requests = keeping refl refl (λ w. refl);
  parts = inl refl;
  opens = no;
  alone = λ e. record { parts = refl; settled = refl; asked = refl };
  tags = λ e w lacks many last. last;
  refusals = λ w b. refl;
  own = λ e. absurd (true≢false e);
}

asks : (seat : ℕ) (asked : Asked) → IsOrderly (ask seat asked)
asks seat asked = record {
  listeners = still (record { change = refl; revoked = refl; registers = refl; listeners = λ w. refl });
  requests = asking (seat, asked) refl refl (λ w. refl) (λ w. refl);
  parts = inl refl;
  opens = no;
  alone = no;
  tags = no;
  refusals = λ w b. refl;
  own = λ e w. refl;
}

pushes : (parts : List Part) → IsOrderly (push_of parts)
pushes parts = record {
  listeners = still (record { change = refl; revoked = refl; registers = refl; listeners = λ w. refl });
  requests = keeping refl refl (λ w. refl);
  parts = inr refl;
  opens = no;
  alone = no;
  tags = no;
  refusals = λ w b. refl;
  own = λ e. absurd (true≢false e);
}

settles : (id : ℕ) (why : Option Reason) → IsOrderly (settle id why)
settles id why = record {
  listeners = still (record { change = refl; revoked = refl; registers = refl; listeners = λ w. refl });
  requests = settling (id, why) refl refl (λ w. refl);
  parts = inl refl;
  opens = no;
  alone = no;
  tags = no;
  refusals = λ w b. refl;
  own = λ e. absurd (true≢false e);
}

connects : IsOrderly connected
connects = record {
  listeners = still (record { change = refl; revoked = refl; registers = refl; listeners = λ w. refl });
  requests = keeping refl refl (λ w. refl);
  parts = inl refl;
  opens = λ e. (record { change = refl; revoked = refl; registers = refl; listeners = λ w. refl }, λ w. refl);
  alone = no;
  tags = no;
  refusals = λ w b. refl;
  own = λ e w. refl;
}

disconnects : IsOrderly disconnected
disconnects = record {
  listeners = still (record { change = refl; revoked = refl; registers = refl; listeners = λ w. refl });
  requests = keeping refl refl (λ w. refl);
  parts = inl refl;
  opens = no;
  alone = no;
  tags = no;
  refusals = λ w b. refl;
  own = λ e w. refl;
}

-- ---- each step

pub orderly : (s : Step) → IsOrderly (kind s)
orderly (Step.Listen seat query) = listens seat query
orderly (Step.Unlisten seat listener) = unlistens seat listener
orderly (Step.Write seat action) = asks seat (Now action)
orderly (Step.OnDisconnect seat ending) = asks seat (AtDisconnect ending)
orderly (Step.Data tag path tree) = pushes ((tag, (path, tree) ∷ []) ∷ [])
orderly (Step.DataMerge tag entries) = pushes ((tag, entries) ∷ [])
orderly (Step.Push parts) = pushes parts
orderly (Step.Accepted id) = settles id None
orderly (Step.Refused id why) = settles id (Some why)
orderly (Step.Revoked tag why) = revokes tag why
orderly Step.Connected = connects
orderly Step.Disconnected = disconnects
orderly (Step.CloseSeat seat) = closes_seat seat

-- the one that registers
pub record IsListen (s : Step) : Type 0 where
  pub seat : ℕ
  pub query : Query
  pub same : s ≡ Step.Listen seat query

-- another, with which no form comes
pub record IsNoListen (s : Step) : Type 0 where
  pub registers : (kind s).registers ≡ false
  pub forms : (b : Brought) → with_new b s ≡ b

pub listen_or_not : (s : Step) → IsListen s ⊎ IsNoListen s
listen_or_not (Step.Listen seat query) = inl (record { seat = seat; query = query; same = refl })
listen_or_not (Step.Unlisten seat listener) = inr (record { registers = refl; forms = λ b. refl })
listen_or_not (Step.Write seat action) = inr (record { registers = refl; forms = λ b. refl })
listen_or_not (Step.OnDisconnect seat ending) = inr (record { registers = refl; forms = λ b. refl })
listen_or_not (Step.Data tag path tree) = inr (record { registers = refl; forms = λ b. refl })
listen_or_not (Step.DataMerge tag entries) = inr (record { registers = refl; forms = λ b. refl })
listen_or_not (Step.Push parts) = inr (record { registers = refl; forms = λ b. refl })
listen_or_not (Step.Accepted id) = inr (record { registers = refl; forms = λ b. refl })
listen_or_not (Step.Refused id why) = inr (record { registers = refl; forms = λ b. refl })
listen_or_not (Step.Revoked tag why) = inr (record { registers = refl; forms = λ b. refl })
listen_or_not Step.Connected = inr (record { registers = refl; forms = λ b. refl })
listen_or_not Step.Disconnected = inr (record { registers = refl; forms = λ b. refl })
listen_or_not (Step.CloseSeat seat) = inr (record { registers = refl; forms = λ b. refl })

-- ---- what follows for all kinds

-- where no listener comes or goes all stay
pub is_still : (s : Step) → is_some (kind s).change ≡ false → IsStill (kind s)
is_still s e = at (orderly s).listeners
  where
    changes : (c : World → Change) → (kind s).change ≡ Some c → IsStill (kind s)
    changes c f = absurd (true≢false (sym (ap is_some f) ∙ e))

    at : Listening (kind s) → IsStill (kind s)
    at (still h) = h
    at (adding h) = changes _ h.change
    at (removing h) = changes _ h.change
    at (revoking h) = changes _ h.change

-- what asks for something registers nobody
pub asking_registers_none : (s : Step) (a : ℕ × Asked) → (kind s).asked ≡ Some a → (kind s).registers ≡ false
asking_registers_none s a e = at (orderly s).listeners
  where
    at : Listening (kind s) → (kind s).registers ≡ false
    at (still h) = h.registers
    at (adding h) = absurd (true≢false (sym (ap is_some e) ∙ ap is_some ((orderly s).alone (ap is_some h.change)).asked))
    at (removing h) = h.registers
    at (revoking h) = h.registers
