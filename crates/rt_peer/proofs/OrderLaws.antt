-- The orders that a peer's connections, listens and actions stand in.
use Rattle.std.proofs.Common.{◌≡◌, ℕ, ◌+◌, ◌<◌, ◌≤◌, ◌==◌, Bool, true, false, not, ◌||◌}
use Rattle.std.proofs.Common.{nat_lt, List, [], ◌∷◌, Option, Some, None, codes, refl, sym, ap, subst, ◌∙◌}
use Rattle.std.proofs.Common.{arith, cond, map, nat_le, zero, suc, if◌then◌else◌}
use Rattle.std.specs.List.{All, AllPairs, filter}
use Rattle.std.proofs.lemmas.Bool.Decides.{nat_tests}
use Rattle.std.proofs.lemmas.List.Elements.{All-filter, All-head, All-map, All-tail}
use Rattle.std.proofs.lemmas.List.Kept.{AllPairs-cons, AllPairs-filter}
use Rattle.std.proofs.lemmas.Map.Views.{any-filter_same}
use Rattle.rt_tree.specs.PathTree.{Path, PathTree}
use Rattle.rt_tree.specs.Assignments.{Assignment, is_at_or_above}
use Rattle.rt_query.specs.Queries.{Query}
use Rattle.rt_wire.specs.declared.request.Asked.{Asked}
use Rattle.rt_wire.specs.declared.request.Asked.TheVariants.{Now, AtDisconnect}
use Rattle.rt_wire.specs.declared.request.Ending.TheVariants.{Run, Cancel}
use Rattle.rt_wire.specs.declared.client.ClientMessage.{ClientMessage}
use Rattle.rt_wire.specs.declared.client.ClientMessage.TheVariants.{Hello, Listen as ListenTo, Unlisten, Ask}
use Rattle.rt_wire.specs.declared.server.ServerMessage.TheVariants.{Data, Accepted, Refused, Revoked}
use Rattle.rt_peer.specs.Peers.{Listen, Deferred, Peer, is_known, least_free, is_denied}
use Rattle.rt_peer.specs.Peers.{is_before, runs_before, is_at, new_peer}
use Rattle.rt_peer.specs.Pushes.{seen}
use Rattle.rt_peer.specs.Calls.{Outcome, one, connected, kept, answered, disconnected, entries_of}
use Rattle.rt_peer.specs.Calls.{refusal, unless_refused, wrote, deferred, dropped, without_below}
use Rattle.rt_peer.specs.Calls.{has_entries, asked, marked}
use Rattle.rt_peer.specs.Turns.{connections_after, is_last_turn, turned}
use Rattle.rt_peer.specs.Runs.{Call, Connect, Message, Disconnect, EndSome, outcome, after_all}
use Rattle.rt_peer.specs.inside.Rising.{RisesFrom}
use Rattle.rt_peer.specs.laws.Orders.{ListensRise, ListensAreOfKnown}
use Rattle.rt_peer.specs.laws.Orders.{ActionsRise, ActionsAreOfKnown}
use Rattle.rt_peer.proofs.Numbers.{IsLeastFree, free_from-fold, least_free_from, rises-filter}
use Rattle.rt_peer.proofs.Numbers.{rises-in_place}
use Rattle.rt_peer.proofs.ActionLaws.{rises_added, rises_dropped}
use Rattle.rt_peer.proofs.PlaceLaws.{rises_kept}
use Rattle.rt_peer.proofs.Places.{all-in_place, filter_with, known-in_place}
use Rattle.rt_peer.proofs.TurnLaws.{all-without, last_turn, pairs-without}

-- ---- pairs of numbers in order

other_number : (k n m : ℕ) → not (k == n) ≡ true → (m == k) ≡ true → not (m == n) ≡ true
other_number k n m h e = grind (arith, nat_tests)

-- ---- numbers

above_all : (n : ℕ) (k : ℕ) (ms : List ℕ) → n < k → RisesFrom k ms → All (λ m. n < m) ms
above_all n k [] lt h i d within = absurd (omega arith)
above_all n k (m ∷ ms) lt h zero d within = omega (arith, h.0)
above_all n k (m ∷ ms) lt h (suc i) d within =
    above_all n (m + 1) ms (omega (arith, h.0)) h.1 i d (omega arith)

pub rises_pairs : (n : ℕ) (ms : List ℕ) → RisesFrom n ms → AllPairs (λ m k. m < k) ms
rises_pairs n [] h = λ i j d lt within. absurd (omega arith)
rises_pairs n (m ∷ ms) h =
    AllPairs-cons (λ m k. m < k) m ms (above_all m (m + 1) ms (omega arith) h.1)
    (rises_pairs (m + 1) ms h.1)

pub rises_all : (ms : List ℕ) → RisesFrom 1 ms → All (λ m. 1 ≤ m) ms
rises_all ms h i d lt = let a = above_all 0 1 ms (omega arith) h i d lt in omega (arith, a)

pub least_of : (ms : List ℕ) → RisesFrom 1 ms → IsLeastFree 1 ms (least_free ms)
least_of ms h =
    let P : ℕ → Type 0 = IsLeastFree 1 ms in
    subst P (free_from-fold ms) (least_free_from 1 ms h)

-- ---- what is kept by each call

pub record Keeps (p : Peer) : Type 0 where
  pub numbers : RisesFrom 1 p.connections
  pub newer : RisesFrom 0 p.newer
  pub newer_known : All (λ n. is_known p.connections n ≡ true) p.newer
  pub listens : ListensRise p
  pub listens_known : ListensAreOfKnown p
  pub actions : ActionsRise p
  pub actions_known : ActionsAreOfKnown p

connects : (p : Peer) → Keeps p → Keeps (connected p)
connects p h =
    let n = least_free p.connections in
    let is = least_of p.connections h.numbers in
    record {
      numbers = rises-in_place 1 n p.connections is.from h.numbers is.fresh;
      newer = h.newer;
      newer_known = λ i d lt. known-in_place n _ p.connections (h.newer_known i d lt);
      listens = h.listens;
      listens_known = λ i d lt. known-in_place n _ p.connections (h.listens_known i d lt);
      actions = h.actions;
      actions_known = λ i d lt. known-in_place n _ p.connections (h.actions_known i d lt);
    }

listens : (p : Peer) (n tag : ℕ) (q : Query) → is_known p.connections n ≡ true → Keeps p
    → Keeps (kept p n tag q)
listens p n tag q known h =
    let l : Listen = record { connection = n; tag = tag; query = q } in
    let others = filter (λ m. not (is_at n tag m)) p.listens in
    record {
      numbers = h.numbers;
      newer = h.newer;
      newer_known = h.newer_known;
      listens = rises_kept l p.listens h.listens;
      listens_known = all-in_place (λ m. is_known p.connections m.connection ≡ true) is_before l others
          (All-filter (λ m. not (is_at n tag m)) (λ m. is_known p.connections m.connection ≡ true)
          p.listens h.listens_known) known;
      actions = h.actions;
      actions_known = h.actions_known;
    }

unlistens : (p : Peer) (n tag : ℕ) → Keeps p
    → Keeps (record p { listens = filter (λ l. not (is_at n tag l)) p.listens })
unlistens p n tag h = record {
  numbers = h.numbers;
  newer = h.newer;
  newer_known = h.newer_known;
  listens = AllPairs-filter (λ a b. is_before a b ≡ true) (λ l. not (is_at n tag l)) p.listens h.listens;
  listens_known = All-filter (λ l. not (is_at n tag l))
      (λ l. is_known p.connections l.connection ≡ true) p.listens h.listens_known;
  actions = h.actions;
  actions_known = h.actions_known;
}

writes : (p : Peer) (t : PathTree) → Keeps p → Keeps (record p { tree = t })
writes p t h = record {
  numbers = h.numbers;
  newer = h.newer;
  newer_known = h.newer_known;
  listens = h.listens;
  listens_known = h.listens_known;
  actions = h.actions;
  actions_known = h.actions_known;
}

defers : (p : Peer) (n id : ℕ) (entries : List Assignment) → is_known p.connections n ≡ true → Keeps p
    → Keeps (deferred p n id entries).0
defers p n id entries known h =
    let x : Deferred = record { connection = n; id = id; entries = entries } in
    record {
      numbers = h.numbers;
      newer = h.newer;
      newer_known = h.newer_known;
      listens = h.listens;
      listens_known = h.listens_known;
      actions = rises_added x p.actions h.actions;
      actions_known = all-in_place (λ a. is_known p.connections a.connection ≡ true) runs_before x
          p.actions h.actions_known known;
    }

drops : (p : Peer) (n : ℕ) (path : Path) → Keeps p → Keeps (dropped p n path)
drops p n path h =
    let Known : Deferred → Type 0 = λ a. is_known p.connections a.connection ≡ true in
    record {
      numbers = h.numbers;
      newer = h.newer;
      newer_known = h.newer_known;
      listens = h.listens;
      listens_known = h.listens_known;
      actions = rises_dropped n path p.actions h.actions;
      actions_known = All-filter has_entries Known (map (without_below n path) p.actions)
          (All-map Known (without_below n path) p.actions
          (λ i d lt. still_known _ (h.actions_known i d lt)));
    }
  where
    still_known : (a : Deferred) → is_known p.connections a.connection ≡ true
        → is_known p.connections (without_below n path a).connection ≡ true
    still_known a k =
        elim (a.connection == n) as (λ c. is_known p.connections (let y : Deferred = if c
        then record a { entries = filter (λ e. not (is_at_or_above path e.0)) a.entries }
        else a in y.connection) ≡ true) [ true ↦ k | false ↦ k ]

ends : (p : Peer) (n : ℕ) → Keeps p → Keeps (disconnected p n).0
ends p n h = record {
  numbers = rises-filter (λ m. not (m == n)) 1 p.connections h.numbers;
  newer = rises-filter (λ m. not (m == n)) 0 p.newer h.newer;
  newer_known = filter_with (λ m. not (m == n)) (λ m. is_known p.connections m ≡ true)
      (λ m. is_known (filter (λ k. not (k == n)) p.connections) m ≡ true) p.newer
      h.newer_known (λ m. still_known m);
  listens = AllPairs-filter (λ a b. is_before a b ≡ true) (λ l. not (l.connection == n)) p.listens
      h.listens;
  listens_known = filter_with (λ l. not (l.connection == n))
      (λ l. is_known p.connections l.connection ≡ true)
      (λ l. is_known (filter (λ m. not (m == n)) p.connections) l.connection ≡ true) p.listens
      h.listens_known (λ l. still_known l.connection);
  actions = AllPairs-filter (λ a b. runs_before b a ≡ false) (λ a. not (a.connection == n)) p.actions
      h.actions;
  actions_known = filter_with (λ a. not (a.connection == n))
      (λ a. is_known p.connections a.connection ≡ true)
      (λ a. is_known (filter (λ m. not (m == n)) p.connections) a.connection ≡ true) p.actions
      h.actions_known (λ a. still_known a.connection);
}
  where
    still_known : (k : ℕ) → not (k == n) ≡ true → is_known p.connections k ≡ true
        → is_known (filter (λ m. not (m == n)) p.connections) k ≡ true
    still_known k other known =
        any-filter_same (λ m. m == k) (λ m. not (m == n)) true
        (λ m e. other_number k n m other e) p.connections
        ∙ known

-- the last turn is the end; before it the connections stay
turns : (p : Peer) (n most : ℕ) → Keeps p → Keeps (turned p n most).0
turns p n most h =
    elim (is_last_turn p n most) as (λ b. is_last_turn p n most ≡ b → Keeps (turned p n most).0) [
      | true ↦ λ e. subst (λ (o : Outcome). Keeps o.0) (sym (last_turn p n most e)) (ends p n h)
      | false ↦ λ e.
          let same : connections_after p n most ≡ p.connections =
          ap (λ b. if b then filter (λ m. not (m == n)) p.connections else p.connections) e in
          subst (λ (ns : List ℕ). Keeps (record (turned p n most).0 { connections = ns })) (sym same) kept_all
    ] refl
  where
    kept_all : Keeps (record (turned p n most).0 { connections = p.connections })
    kept_all = record {
      numbers = h.numbers;
      newer = rises-filter (λ m. not (m == n)) 0 p.newer h.newer;
      newer_known = All-filter (λ m. not (m == n)) (λ m. is_known p.connections m ≡ true) p.newer h.newer_known;
      listens = AllPairs-filter (λ a b. is_before a b ≡ true) (λ l. not (l.connection == n)) p.listens h.listens;
      listens_known = All-filter (λ l. not (l.connection == n))
          (λ l. is_known p.connections l.connection ≡ true) p.listens h.listens_known;
      actions = pairs-without (λ a b. runs_before b a ≡ false) (λ a. a.connection == n) most p.actions h.actions;
      actions_known = all-without (λ a. is_known p.connections a.connection ≡ true) (λ a. a.connection == n)
          most p.actions h.actions_known;
    }

-- ---- each call

unless : (o : Option (List ℕ)) (p : Peer) (n id : ℕ) (out : Outcome) → Keeps p → Keeps out.0
    → Keeps (unless_refused o p n id out).0
unless None p n id out h k = k
unless (Some why) p n id out h k = h

asks : (p : Peer) (n id : ℕ) (a : Asked) → is_known p.connections n ≡ true → Keeps p
    → Keeps (asked p n id a).0
asks p n id (Now action) known h =
    unless (refusal p.denied (entries_of action)) p n id (wrote p n id (entries_of action)) h
    (writes p _ h)
asks p n id (AtDisconnect (Run action)) known h =
    unless (refusal p.denied (entries_of action)) p n id (deferred p n id (entries_of action)) h
    (defers p n id (entries_of action) known h)
asks p n id (AtDisconnect (Cancel path)) known h =
    elim (is_denied p.denied path) as (λ b. Keeps (let o : Outcome = if b
    then (p, one n (Refused id (codes "denied")))
    else (dropped p n path, one n (Accepted id)) in o.0)) [ true ↦ h | false ↦ drops p n path h ]

-- a number is marked, or not
not_left : (n : ℕ) (ms : List ℕ) → is_known (filter (λ m. not (m == n)) ms) n ≡ false
not_left n [] = refl
not_left n (m ∷ ms) =
    elim (m == n) as (λ b. (m == n) ≡ b → is_known (cond (not b) (m ∷ filter (λ k. not (k == n)) ms)
    (filter (λ k. not (k == n)) ms)) n ≡ false) [
      | true ↦ λ e. not_left n ms
      | false ↦ λ e. ap (λ b. b || is_known (filter (λ k. not (k == n)) ms) n) e ∙ not_left n ms
    ] refl

pub marked_rises : (b : Bool) (n : ℕ) (ms : List ℕ) → RisesFrom 0 ms → RisesFrom 0 (marked b n ms)
marked_rises true n ms h =
    rises-in_place 0 n (filter (λ m. not (m == n)) ms) (omega arith)
    (rises-filter (λ m. not (m == n)) 0 ms h) (not_left n ms)
marked_rises false n ms h = rises-filter (λ m. not (m == n)) 0 ms h

marked_known : (b : Bool) (all : List ℕ) (n : ℕ) (ms : List ℕ) → is_known all n ≡ true
    → All (λ m. is_known all m ≡ true) ms → All (λ m. is_known all m ≡ true) (marked b n ms)
marked_known true all n ms known h =
    all-in_place (λ m. is_known all m ≡ true) nat_lt n (filter (λ m. not (m == n)) ms)
    (All-filter (λ m. not (m == n)) (λ m. is_known all m ≡ true) ms h) known
marked_known false all n ms known h =
    All-filter (λ m. not (m == n)) (λ m. is_known all m ≡ true) ms h

answers : (p : Peer) (n : ℕ) (message : ClientMessage) → is_known p.connections n ≡ true → Keeps p
    → Keeps (answered p n message).0
answers p n (Hello version) known h = record {
  numbers = h.numbers;
  newer = marked_rises (nat_le 2 version) n p.newer h.newer;
  newer_known = marked_known (nat_le 2 version) p.connections n p.newer known h.newer_known;
  listens = h.listens;
  listens_known = h.listens_known;
  actions = h.actions;
  actions_known = h.actions_known;
}
answers p n (ListenTo tag q) known h =
    elim (is_denied p.denied q.path) as (λ b. Keeps (let o : Outcome = if b
    then (p, one n (Revoked tag (codes "denied")))
    else (kept p n tag q, one n (Data tag q.path (seen q p.tree))) in o.0))
    [ true ↦ h | false ↦ listens p n tag q known h ]
answers p n (Unlisten tag) known h = unlistens p n tag h
answers p n (Ask id a) known h = asks p n id a known h

calls_keep : (p : Peer) (call : Call) → Keeps p → Keeps (outcome p call).0
calls_keep p Connect h = connects p h
calls_keep p (Message n message) h =
    elim (is_known p.connections n) as (λ b. is_known p.connections n ≡ b
    → Keeps (let o : Outcome = if b then answered p n message else (p, []) in o.0)) [
      | true ↦ λ known. answers p n message known h
      | false ↦ λ known. h
    ] refl
calls_keep p (Disconnect n) h =
    elim (is_known p.connections n) as (λ b.
    Keeps (let o : Outcome = if b then disconnected p n else (p, []) in o.0)) [
      | true ↦ ends p n h
      | false ↦ h
    ]
calls_keep p (EndSome n most) h =
    elim (is_known p.connections n) as (λ b.
    Keeps (let o : Outcome = if b then turned p n most else (p, []) in o.0)) [
      | true ↦ turns p n most h
      | false ↦ h
    ]

pub run_keeps : (p : Peer) (calls : List Call) → Keeps p → Keeps (after_all p calls)
run_keeps p [] h = h
run_keeps p (call ∷ calls) h = run_keeps (outcome p call).0 calls (calls_keep p call h)

equal : (a c : ℕ) → (a == c) ≡ true → a ≡ c
equal a c e = grind (arith, nat_tests)

-- a new connection has no number that reads version 2
pub begins_older : (p : Peer) → Keeps p → is_known p.newer (least_free p.connections) ≡ false
begins_older p h = none_known p.newer h.newer_known
  where
    fresh : is_known p.connections (least_free p.connections) ≡ false
    fresh = (least_of p.connections h.numbers).fresh

    other : (m : ℕ) → is_known p.connections m ≡ true → (m == least_free p.connections) ≡ false
    other m known =
        elim (m == least_free p.connections) as (λ b. (m == least_free p.connections) ≡ b → b ≡ false) [
          | true ↦ λ e. sym known ∙ ap (is_known p.connections) (equal m (least_free p.connections) e) ∙ fresh
          | false ↦ λ e. refl
        ] refl

    none_known : (ms : List ℕ) → All (λ m. is_known p.connections m ≡ true) ms
        → is_known ms (least_free p.connections) ≡ false
    none_known [] all = refl
    none_known (m ∷ ms) all =
        ap (λ b. b || is_known ms (least_free p.connections))
        (other m (All-head (λ k. is_known p.connections k ≡ true) m ms all))
        ∙ none_known ms (All-tail (λ k. is_known p.connections k ≡ true) m ms all)

pub new_keeps : (tree : PathTree) (denied : List Path) → Keeps (new_peer tree denied)
new_keeps tree denied = record {
  numbers = tt;
  newer = tt;
  newer_known = λ i d lt. absurd (omega arith);
  listens = λ i j d lt within. absurd (omega arith);
  listens_known = λ i d lt. absurd (omega arith);
  actions = λ i j d lt within. absurd (omega arith);
  actions_known = λ i d lt. absurd (omega arith);
}
