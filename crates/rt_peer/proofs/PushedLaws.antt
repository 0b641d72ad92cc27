-- What each call sends a connection, by the version that it reads.
use Rattle.std.proofs.Common.{◌≡◌, ℕ, ◌==◌, ◌&&◌, ◌||◌, Bool, true, false, cond, not}
use Rattle.std.proofs.Common.{List, [], ◌∷◌, ◌++◌, map, refl, sym, ap, ◌∙◌, append-nil, codes}
use Rattle.std.proofs.Common.{Option, Some, None, if◌then◌else◌}
use Rattle.std.specs.Prelude.{⊤}
use Rattle.std.specs.List.{AllPairs, filter, flat_map, list_any}
use Rattle.std.proofs.lemmas.List.Elements.{filter-append}
use Rattle.std.proofs.lemmas.List.Kept.{AllPairs-filter}
use Rattle.rt_tree.specs.PathTree.{PathTree}
use Rattle.rt_tree.specs.Assignments.{Assignment, is_at_or_above}
use Rattle.rt_query.specs.Queries.{is_filtered}
use Rattle.rt_wire.specs.declared.request.Asked.{Asked}
use Rattle.rt_wire.specs.declared.request.Asked.TheVariants.{Now, AtDisconnect}
use Rattle.rt_wire.specs.declared.request.Ending.TheVariants.{Run, Cancel}
use Rattle.rt_wire.specs.declared.client.ClientMessage.TheVariants.{Hello, Listen as ListenTo, Unlisten, Ask}
use Rattle.rt_wire.specs.declared.server.ServerMessage.{ServerMessage}
use Rattle.rt_wire.specs.declared.server.ServerMessage.TheVariants.{Data, Accepted, Refused, Revoked}
use Rattle.rt_peer.specs.declared.pushes.Sent.{Sent}
use Rattle.rt_peer.specs.Peers.{Deferred, Listen, Peer, is_before, is_denied, is_known}
use Rattle.rt_peer.specs.Pushes.{bundled, is_changed, joined, parts_below, parts_message, push_of, pushes, pushes_after}
use Rattle.rt_peer.specs.Pushes.{seen, together, written}
use Rattle.rt_peer.specs.Calls.{Outcome, actions_of, asked, deferred, dropped}
use Rattle.rt_peer.specs.Calls.{ended, entries_of, kept, one, refusal, unless_refused, wrote}
use Rattle.rt_peer.specs.Turns.{first_actions}
use Rattle.rt_peer.specs.laws.Orders.{ListensRise}
use Rattle.rt_peer.specs.laws.Pushed.{as_newer, as_one, by_version, is_push, messages_to, older, pushes_each}
use Rattle.rt_peer.specs.laws.Pushed.{MessagesAreByVersion, EndsAreByVersion, TurnsAreByVersion}
use Rattle.rt_peer.proofs.ToOne.{bundled-to, one_if, to-append, told, told_together}

-- ---- pushes

pushes_parts : (tag : ℕ) (parts : List Assignment) → is_push (parts_message tag parts) ≡ true
pushes_parts tag [] = refl
pushes_parts tag (a ∷ []) = refl
pushes_parts tag (a ∷ b ∷ rest) = refl

pushes_listen : (t : PathTree) (entries : List Assignment) (l : Listen) → is_push (push_of t entries l) ≡ true
pushes_listen t entries l =
    elim (is_filtered l.query || list_any (λ a. is_at_or_above a.0 l.query.path) entries) as (λ b.
    is_push (if b then Data l.tag l.query.path (seen l.query t)
    else parts_message l.tag (parts_below t l.query.path entries)) ≡ true) [
      | true ↦ refl
      | false ↦ pushes_parts l.tag (parts_below t l.query.path entries)
    ]

abbrev ArePushes : List ServerMessage → Type 0
ArePushes [] = ⊤
ArePushes (m ∷ rest) = (is_push m ≡ true) × ArePushes rest

all_pushes : (ms : List ServerMessage) → ArePushes ms → filter is_push ms ≡ ms
all_pushes [] h = refl
all_pushes (m ∷ rest) h =
    ap (λ b. cond b (m ∷ filter is_push rest) (filter is_push rest)) h.0
    ∙ ap (λ ms. m ∷ ms) (all_pushes rest h.1)

no_others : (ms : List ServerMessage) → ArePushes ms → filter (λ m. not (is_push m)) ms ≡ []
no_others [] h = refl
no_others (m ∷ rest) h =
    ap (λ b. cond (not b) (m ∷ filter (λ k. not (is_push k)) rest) (filter (λ k. not (is_push k)) rest)) h.0
    ∙ no_others rest h.1

are_pushes : (n : ℕ) (t : PathTree) (entries : List Assignment) (ls : List Listen)
    → ArePushes (messages_to n (told (push_of t entries) ls))
are_pushes n t entries [] = tt
are_pushes n t entries (l ∷ ls) =
    elim (l.connection == n) as (λ b. ArePushes (map (λ s. s.message)
    (cond b (record { to = l.connection; message = push_of t entries l }
    ∷ filter (λ s. s.to == n) (told (push_of t entries) ls))
    (filter (λ s. s.to == n) (told (push_of t entries) ls))))) [
      | true ↦ (pushes_listen t entries l, are_pushes n t entries ls)
      | false ↦ are_pushes n t entries ls
    ]

-- ---- one message that is no push of a write

one_alone : (m : ServerMessage) → as_newer (m ∷ []) ≡ m ∷ []
one_alone m =
    elim (is_push m) as (λ b. as_one (cond b (m ∷ []) []) ++ cond (not b) (m ∷ []) [] ≡ m ∷ [])
    [ true ↦ refl | false ↦ refl ]

one_same : (b : Bool) (n from : ℕ) (m : ServerMessage)
    → messages_to n (one from m) ≡ by_version b (messages_to n (one from m))
one_same true n from m =
    elim (from == n) as (λ c. map (λ (s : Sent). s.message) (cond c (record { to = from; message = m } ∷ []) [])
    ≡ as_newer (map (λ (s : Sent). s.message) (cond c (record { to = from; message = m } ∷ []) []))) [
      | true ↦ sym (one_alone m)
      | false ↦ refl
    ]
one_same false n from m = refl

none_same : (b : Bool) → [] ≡ by_version b []
none_same true = refl
none_same false = refl

-- ---- what a write sends

pub bundled-none : (xs : List Sent) → bundled [] xs ≡ xs
bundled-none [] = refl
bundled-none (s ∷ []) = refl
bundled-none (s ∷ r ∷ rest) = tail s (bundled [] (r ∷ rest)) ∙ ap (λ ys. s ∷ ys) (bundled-none (r ∷ rest))
  where
    and_false : (a : Bool) → (a && false) ≡ false
    and_false true = refl
    and_false false = refl

    tail : (s : Sent) (ys : List Sent) → joined [] s ys ≡ s ∷ ys
    tail s [] = refl
    tail s (r ∷ ys) = ap (λ b. if b then together s r ∷ ys else s ∷ r ∷ ys) (and_false (s.to == r.to))

-- pushes, and then others
pushes_first : (b : Bool) (ms others : List ServerMessage) → ArePushes ms → filter is_push others ≡ []
    → filter (λ m. not (is_push m)) others ≡ others
    → one_if b ms ++ others ≡ by_version b (ms ++ others)
pushes_first true ms others h none all =
    ap (λ xs. as_one xs ++ others) (sym (filter-append is_push ms others
    ∙ ap (λ xs. xs ++ filter is_push others) (all_pushes ms h)
    ∙ ap (λ xs. ms ++ xs) none
    ∙ append-nil ms))
    ∙ ap (λ xs. as_one (filter is_push (ms ++ others)) ++ xs)
    (sym (filter-append (λ m. not (is_push m)) ms others
    ∙ ap (λ xs. xs ++ filter (λ m. not (is_push m)) others) (no_others ms h)
    ∙ all))
pushes_first false ms others h none all = refl

one_is_no_push : (n from id : ℕ) → filter is_push (messages_to n (one from (Accepted id))) ≡ []
one_is_no_push n from id =
    elim (from == n) as (λ c. filter is_push (map (λ (s : Sent). s.message)
    (cond c (record { to = from; message = Accepted id } ∷ []) [])) ≡ [])
    [ true ↦ refl | false ↦ refl ]

one_is_other : (n from id : ℕ) → filter (λ m. not (is_push m)) (messages_to n (one from (Accepted id)))
    ≡ messages_to n (one from (Accepted id))
one_is_other n from id =
    elim (from == n) as (λ c. filter (λ m. not (is_push m)) (map (λ (s : Sent). s.message)
    (cond c (record { to = from; message = Accepted id } ∷ []) []))
    ≡ map (λ (s : Sent). s.message) (cond c (record { to = from; message = Accepted id } ∷ []) []))
    [ true ↦ refl | false ↦ refl ]

-- what a write pushes to one connection
pushed_to : (newer : List ℕ) (n : ℕ) (t u : PathTree) (entries : List Assignment) (ls : List Listen)
    → AllPairs (λ l m. is_before l m ≡ true) ls
    → messages_to n (bundled newer (pushes t u entries ls))
    ≡ one_if (is_known newer n) (messages_to n (pushes t u entries ls))
pushed_to newer n t u entries ls h =
    bundled-to newer n (pushes t u entries ls) (told_together (push_of u entries) (filter (is_changed t u) ls)
    (AllPairs-filter (λ l m. is_before l m ≡ true) (is_changed t u) ls h))

writes : (p : Peer) (n from id : ℕ) (entries : List Assignment) → ListensRise p
    → messages_to n (wrote p from id entries).1
    ≡ by_version (is_known p.newer n) (messages_to n (wrote (older p) from id entries).1)
writes p n from id entries h =
    let u = written p.tree entries in
    let sent = pushes p.tree u entries p.listens in
    to-append n (bundled p.newer sent) (one from (Accepted id))
    ∙ ap (λ ms. ms ++ messages_to n (one from (Accepted id))) (pushed_to p.newer n p.tree u entries p.listens h)
    ∙ pushes_first (is_known p.newer n) (messages_to n sent) (messages_to n (one from (Accepted id)))
    (are_pushes n u entries (filter (is_changed p.tree u) p.listens)) (one_is_no_push n from id)
    (one_is_other n from id)
    ∙ ap (by_version (is_known p.newer n)) (sym (to-append n sent (one from (Accepted id))))
    ∙ ap (λ xs. by_version (is_known p.newer n) (messages_to n (xs ++ one from (Accepted id))))
    (sym (bundled-none sent))

-- ---- each message

by_case : (p : Peer) (n from id : ℕ) (o : Option (List ℕ)) (a b : Outcome)
    → messages_to n a.1 ≡ by_version (is_known p.newer n) (messages_to n b.1)
    → messages_to n (unless_refused o p from id a).1
    ≡ by_version (is_known p.newer n) (messages_to n (unless_refused o (older p) from id b).1)
by_case p n from id None a b h = h
by_case p n from id (Some why) a b h = one_same (is_known p.newer n) n from (Refused id why)

asks : (p : Peer) (n from id : ℕ) (a : Asked) → ListensRise p
    → messages_to n (asked p from id a).1
    ≡ by_version (is_known p.newer n) (messages_to n (asked (older p) from id a).1)
asks p n from id (Now action) h =
    by_case p n from id (refusal p.denied (entries_of action)) (wrote p from id (entries_of action))
    (wrote (older p) from id (entries_of action)) (writes p n from id (entries_of action) h)
asks p n from id (AtDisconnect (Run action)) h =
    by_case p n from id (refusal p.denied (entries_of action)) (deferred p from id (entries_of action))
    (deferred (older p) from id (entries_of action)) (one_same (is_known p.newer n) n from (Accepted id))
asks p n from id (AtDisconnect (Cancel path)) h =
    elim (is_denied p.denied path) as (λ b.
    messages_to n (let o : Outcome = if b then (p, one from (Refused id (codes "denied")))
    else (dropped p from path, one from (Accepted id)) in o.1)
    ≡ by_version (is_known p.newer n) (messages_to n (let o : Outcome = if b
    then (older p, one from (Refused id (codes "denied")))
    else (dropped (older p) from path, one from (Accepted id)) in o.1))) [
      | true ↦ one_same (is_known p.newer n) n from (Refused id (codes "denied"))
      | false ↦ one_same (is_known p.newer n) n from (Accepted id)
    ]

pub messages_by_version : (p : Peer) → ListensRise p → MessagesAreByVersion p
messages_by_version p h n from (Hello version) = none_same (is_known p.newer n)
messages_by_version p h n from (ListenTo tag q) =
    elim (is_denied p.denied q.path) as (λ b.
    messages_to n (let o : Outcome = if b then (p, one from (Revoked tag (codes "denied")))
    else (kept p from tag q, one from (Data tag q.path (seen q p.tree))) in o.1)
    ≡ by_version (is_known p.newer n) (messages_to n (let o : Outcome = if b
    then (older p, one from (Revoked tag (codes "denied")))
    else (kept (older p) from tag q, one from (Data tag q.path (seen q p.tree))) in o.1))) [
      | true ↦ one_same (is_known p.newer n) n from (Revoked tag (codes "denied"))
      | false ↦ one_same (is_known p.newer n) n from (Data tag q.path (seen q p.tree))
    ]
messages_by_version p h n from (Unlisten tag) = none_same (is_known p.newer n)
messages_by_version p h n from (Ask id a) = asks p n from id a h

-- ---- the end of a connection

alone : (b : Bool) (ms : List ServerMessage) → ArePushes ms → one_if b ms ≡ by_version b ms
alone true ms h =
    sym (append-nil (as_one ms)
    ) ∙ ap (λ xs. as_one xs ++ []) (sym (all_pushes ms h))
    ∙ ap (λ xs. as_one (filter is_push ms) ++ xs) (sym (no_others ms h))
alone false ms h = refl

each_action : (newer : List ℕ) (n : ℕ) (ls : List Listen) (t : PathTree) (actions : List Deferred)
    → AllPairs (λ l m. is_before l m ≡ true) ls
    → messages_to n (pushes_after newer ls t actions)
    ≡ flat_map (λ sent. by_version (is_known newer n) (messages_to n sent)) (pushes_each t ls actions)
each_action newer n ls t [] h = refl
each_action newer n ls t (a ∷ actions) h =
    let u = written t a.entries in
    let sent = pushes t u a.entries ls in
    to-append n (bundled newer sent) (pushes_after newer ls u actions)
    ∙ ap (λ ms. ms ++ messages_to n (pushes_after newer ls u actions))
    (pushed_to newer n t u a.entries ls h
    ∙ alone (is_known newer n) (messages_to n sent) (are_pushes n u a.entries (filter (is_changed t u) ls)))
    ∙ ap (λ ms. by_version (is_known newer n) (messages_to n sent) ++ ms) (each_action newer n ls u actions h)

of_actions : (p : Peer) → ListensRise p → (n gone : ℕ) (actions : List Deferred)
    → messages_to n (pushes_after (ended p gone).newer (ended p gone).listens p.tree actions)
    ≡ flat_map (λ sent. by_version (is_known (ended p gone).newer n) (messages_to n sent))
    (pushes_each p.tree (ended p gone).listens actions)
of_actions p h n gone actions =
    each_action (ended p gone).newer n (ended p gone).listens p.tree actions
    (AllPairs-filter (λ l m. is_before l m ≡ true) (λ l. not (l.connection == gone)) p.listens h)

pub ends_by_version : (p : Peer) → ListensRise p → EndsAreByVersion p
ends_by_version p h n gone = of_actions p h n gone (actions_of p gone)

pub turns_by_version : (p : Peer) → ListensRise p → TurnsAreByVersion p
turns_by_version p h n gone most = of_actions p h n gone (first_actions p gone most)
