-- Which connections read version 2.
use Rattle.std.proofs.Common.{◌≡◌, ℕ, ◌==◌, ◌||◌, Bool, true, false, cond, not, nat_lt, nat_le, refl, sym, ap, ◌∙◌}
use Rattle.std.proofs.Common.{List, [], ◌∷◌, arith, codes, Option, Some, None, if◌then◌else◌}
use Rattle.std.specs.List.{filter, fold, list_any}
use Rattle.std.proofs.lemmas.Bool.Decides.{nat_tests}
use Rattle.std.proofs.lemmas.List.Folds.{list_any-append}
use Rattle.std.proofs.lemmas.Map.Views.{any-filter_same}
use Rattle.rt_wire.specs.declared.request.Asked.{Asked}
use Rattle.rt_wire.specs.declared.request.Asked.TheVariants.{Now, AtDisconnect}
use Rattle.rt_wire.specs.declared.request.Ending.TheVariants.{Run, Cancel}
use Rattle.rt_wire.specs.declared.client.ClientMessage.{ClientMessage}
use Rattle.rt_wire.specs.declared.client.ClientMessage.TheVariants.{Hello, Listen as ListenTo, Unlisten, Ask}
use Rattle.rt_wire.specs.declared.server.ServerMessage.TheVariants.{Data, Accepted, Refused, Revoked}
use Rattle.rt_peer.specs.Peers.{Peer, in_place, is_denied, is_known}
use Rattle.rt_peer.specs.Pushes.{seen}
use Rattle.rt_peer.specs.Calls.{Outcome, answered, asked, deferred, disconnected, dropped, entries_of, kept}
use Rattle.rt_peer.specs.Calls.{marked, one, refusal, unless_refused, wrote}
use Rattle.rt_peer.specs.Turns.{is_last_turn, turned}
use Rattle.rt_peer.specs.Runs.{Call, Connect, Message, Disconnect, EndSome, after_all, outcome}
use Rattle.rt_peer.specs.laws.Versions.{is_end_of, reads_after, reads_after_call}
use Rattle.rt_peer.proofs.Places.{any-parted, known-in_place, swapped}

-- ---- one number among others

flip : (a c : ℕ) → (a == c) ≡ false → (c == a) ≡ false
flip a c e = grind (arith, nat_tests)

equal : (a c : ℕ) → (a == c) ≡ true → a ≡ c
equal a c e = grind (arith, nat_tests)

not_that : (k n m : ℕ) → (n == k) ≡ false → (m == n) ≡ true → not (m == k) ≡ true
not_that k n m e is = grind (arith, nat_tests)

known_left : (k n : ℕ) (ms : List ℕ) → (n == k) ≡ false
    → is_known (filter (λ m. not (m == k)) ms) n ≡ is_known ms n
known_left k n ms e =
    any-filter_same (λ m. m == n) (λ m. not (m == k)) true (λ m is. not_that k n m e is) ms

gone : (n : ℕ) (ms : List ℕ) → is_known (filter (λ m. not (m == n)) ms) n ≡ false
gone n [] = refl
gone n (m ∷ ms) =
    elim (m == n) as (λ b. (m == n) ≡ b → is_known (cond (not b) (m ∷ filter (λ k. not (k == n)) ms)
    (filter (λ k. not (k == n)) ms)) n ≡ false) [
      | true ↦ λ e. gone n ms
      | false ↦ λ e. ap (λ b. b || is_known (filter (λ k. not (k == n)) ms) n) e ∙ gone n ms
    ] refl

in_place_known : (k n : ℕ) (ms : List ℕ) → is_known (in_place nat_lt k ms) n ≡ (k == n || is_known ms n)
in_place_known k n ms =
    let test : ℕ → Bool = λ m. m == n in
    let front = filter (λ m. not (nat_lt k m)) ms in
    let behind = filter (nat_lt k) ms in
    list_any-append test front (k ∷ behind)
    ∙ swapped (list_any test front) (test k) (list_any test behind)
    ∙ ap (λ b. k == n || b) (any-parted test (nat_lt k) ms)

-- a mark tells of its own number alone
marked_known : (b : Bool) (k n : ℕ) (ms : List ℕ)
    → is_known (marked b k ms) n ≡ (if k == n then b else is_known ms n)
marked_known true k n ms =
    in_place_known k n (filter (λ m. not (m == k)) ms)
    ∙ elim (k == n) as (λ b. (k == n) ≡ b → (b || is_known (filter (λ m. not (m == k)) ms) n)
    ≡ (if b then true else is_known ms n)) [
      | true ↦ λ e. refl
      | false ↦ λ e. known_left k n ms (flip k n e)
    ] refl
marked_known false k n ms =
    elim (k == n) as (λ b. (k == n) ≡ b → is_known (filter (λ m. not (m == k)) ms) n
    ≡ (if b then false else is_known ms n)) [
      | true ↦ λ e. ap (λ j. is_known (filter (λ m. not (m == j)) ms) n) (equal k n e) ∙ gone n ms
      | false ↦ λ e. known_left k n ms (flip k n e)
    ] refl

-- ---- what a message leaves

unless_stays : (o : Option (List ℕ)) (p : Peer) (n id : ℕ) (out : Outcome)
    → out.0.connections ≡ p.connections → (unless_refused o p n id out).0.connections ≡ p.connections
unless_stays None p n id out h = h
unless_stays (Some why) p n id out h = refl

connections_stay : (p : Peer) (n : ℕ) (message : ClientMessage)
    → (answered p n message).0.connections ≡ p.connections
connections_stay p n (Hello version) = refl
connections_stay p n (ListenTo tag q) =
    elim (is_denied p.denied q.path) as (λ b. (let o : Outcome = if b
    then (p, one n (Revoked tag (codes "denied")))
    else (kept p n tag q, one n (Data tag q.path (seen q p.tree))) in o.0.connections) ≡ p.connections)
    [ true ↦ refl | false ↦ refl ]
connections_stay p n (Unlisten tag) = refl
connections_stay p n (Ask id (Now action)) =
    unless_stays (refusal p.denied (entries_of action)) p n id (wrote p n id (entries_of action)) refl
connections_stay p n (Ask id (AtDisconnect (Run action))) =
    unless_stays (refusal p.denied (entries_of action)) p n id (deferred p n id (entries_of action)) refl
connections_stay p n (Ask id (AtDisconnect (Cancel path))) =
    elim (is_denied p.denied path) as (λ b. (let o : Outcome = if b
    then (p, one n (Refused id (codes "denied")))
    else (dropped p n path, one n (Accepted id)) in o.0.connections) ≡ p.connections)
    [ true ↦ refl | false ↦ refl ]

newer_unless : (o : Option (List ℕ)) (p : Peer) (n id : ℕ) (out : Outcome)
    → out.0.newer ≡ p.newer → (unless_refused o p n id out).0.newer ≡ p.newer
newer_unless None p n id out h = h
newer_unless (Some why) p n id out h = refl

asks_stay : (p : Peer) (n id : ℕ) (a : Asked) → (asked p n id a).0.newer ≡ p.newer
asks_stay p n id (Now action) =
    newer_unless (refusal p.denied (entries_of action)) p n id (wrote p n id (entries_of action)) refl
asks_stay p n id (AtDisconnect (Run action)) =
    newer_unless (refusal p.denied (entries_of action)) p n id (deferred p n id (entries_of action)) refl
asks_stay p n id (AtDisconnect (Cancel path)) =
    elim (is_denied p.denied path) as (λ b. (let o : Outcome = if b
    then (p, one n (Refused id (codes "denied")))
    else (dropped p n path, one n (Accepted id)) in o.0.newer) ≡ p.newer)
    [ true ↦ refl | false ↦ refl ]

same_either : (b c : Bool) → c ≡ (if b then c else c)
same_either true c = refl
same_either false c = refl

message_reads : (p : Peer) (m n : ℕ) (message : ClientMessage)
    → is_known (answered p m message).0.newer n
    ≡ (if m == n then reads_after (is_known p.newer n) message else is_known p.newer n)
message_reads p m n (Hello version) = marked_known (nat_le 2 version) m n p.newer
message_reads p m n (ListenTo tag q) =
    elim (is_denied p.denied q.path) as (λ b. is_known (let o : Outcome = if b
    then (p, one m (Revoked tag (codes "denied")))
    else (kept p m tag q, one m (Data tag q.path (seen q p.tree))) in o.0.newer) n ≡ is_known p.newer n)
    [ true ↦ refl | false ↦ refl ]
    ∙ same_either (m == n) (is_known p.newer n)
message_reads p m n (Unlisten tag) = same_either (m == n) (is_known p.newer n)
message_reads p m n (Ask id a) =
    ap (λ ms. is_known ms n) (asks_stay p m id a) ∙ same_either (m == n) (is_known p.newer n)

-- ---- what a call leaves

call_knows : (p : Peer) (n : ℕ) (call : Call) → is_known p.connections n ≡ true → is_end_of n call ≡ false
    → is_known (outcome p call).0.connections n ≡ true
call_knows p n Connect known still = known-in_place _ n p.connections known
call_knows p n (Message m message) known still =
    elim (is_known p.connections m) as (λ b. is_known (let o : Outcome = if b then answered p m message
    else (p, []) in o.0.connections) n ≡ true) [
      | true ↦ ap (λ ms. is_known ms n) (connections_stay p m message) ∙ known
      | false ↦ known
    ]
call_knows p n (Disconnect m) known still =
    elim (is_known p.connections m) as (λ b. is_known (let o : Outcome = if b then disconnected p m
    else (p, []) in o.0.connections) n ≡ true) [
      | true ↦ known_left m n p.connections (flip m n still) ∙ known
      | false ↦ known
    ]
call_knows p n (EndSome m most) known still =
    elim (is_known p.connections m) as (λ b. is_known (let o : Outcome = if b then turned p m most
    else (p, []) in o.0.connections) n ≡ true) [
      | true ↦ elim (is_last_turn p m most) as (λ b. is_known (if b
          then filter (λ k. not (k == m)) p.connections else p.connections) n ≡ true) [
            | true ↦ known_left m n p.connections (flip m n still) ∙ known
            | false ↦ known
          ]
      | false ↦ known
    ]

unknown_is_other : (p : Peer) (m n : ℕ) → is_known p.connections n ≡ true → is_known p.connections m ≡ false
    → (m == n) ≡ false
unknown_is_other p m n known unknown =
    elim (m == n) as (λ b. (m == n) ≡ b → b ≡ false) [
      | true ↦ λ e. sym known ∙ ap (is_known p.connections) (sym (equal m n e)) ∙ unknown
      | false ↦ λ e. refl
    ] refl

call_reads : (p : Peer) (n : ℕ) (call : Call) → is_known p.connections n ≡ true → is_end_of n call ≡ false
    → is_known (outcome p call).0.newer n ≡ reads_after_call n (is_known p.newer n) call
call_reads p n Connect known still = refl
call_reads p n (Message m message) known still =
    elim (is_known p.connections m) as (λ b. is_known p.connections m ≡ b
    → is_known (let o : Outcome = if b then answered p m message else (p, []) in o.0.newer) n
    ≡ (if m == n then reads_after (is_known p.newer n) message else is_known p.newer n)) [
      | true ↦ λ e. message_reads p m n message
      | false ↦ λ e.
          sym (ap (λ b. if b then reads_after (is_known p.newer n) message else is_known p.newer n)
          (unknown_is_other p m n known e))
    ] refl
call_reads p n (Disconnect m) known still =
    elim (is_known p.connections m) as (λ b. is_known (let o : Outcome = if b then disconnected p m
    else (p, []) in o.0.newer) n ≡ is_known p.newer n) [
      | true ↦ known_left m n p.newer (flip m n still)
      | false ↦ refl
    ]
call_reads p n (EndSome m most) known still =
    elim (is_known p.connections m) as (λ b. is_known (let o : Outcome = if b then turned p m most
    else (p, []) in o.0.newer) n ≡ is_known p.newer n) [
      | true ↦ known_left m n p.newer (flip m n still)
      | false ↦ refl
    ]

-- ---- all calls

or_left : (a b : Bool) → (a || b) ≡ false → a ≡ false
or_left true b e = e
or_left false b e = refl

or_right : (a b : Bool) → (a || b) ≡ false → b ≡ false
or_right true b e = absurd (cc)
or_right false b e = e

pub told_last : (p : Peer) (n : ℕ) (calls : List Call) → is_known p.connections n ≡ true
    → list_any (is_end_of n) calls ≡ false
    → is_known (after_all p calls).newer n ≡ fold (reads_after_call n) (is_known p.newer n) calls
told_last p n [] known still = refl
told_last p n (call ∷ calls) known still =
    let here = or_left (is_end_of n call) (list_any (is_end_of n) calls) still in
    let later = or_right (is_end_of n call) (list_any (is_end_of n) calls) still in
    told_last (outcome p call).0 n calls (call_knows p n call known here) later
    ∙ ap (λ b. fold (reads_after_call n) b calls) (call_reads p n call known here)
