-- What a connection that is served does, step by step.
use Rattle.std.proofs.Common.{◌≡◌, ℕ, ◌+◌, ◌<◌, ◌≤◌, ◌==◌, Bool, true, false, cond, not, ◌||◌, nat_lt}
use Rattle.std.proofs.Common.{List, [], ◌∷◌, ◌++◌, length, Option, Some, None, Ok, Err, Result, codes}
use Rattle.std.proofs.Common.{inl, inr, refl, sym, ap, subst, ◌∙◌, arith, if◌then◌else◌, zero, suc}
use Rattle.std.specs.Prelude.{IfSome, OnOk, OnErr, ◌⊎◌, ◌↔◌}
use Rattle.std.specs.List.{All, AllPairs, filter, list_any}
use Rattle.std.proofs.lemmas.Bool.Decides.{nat_tests}
use Rattle.std.proofs.lemmas.List.{length-append}
use Rattle.std.proofs.lemmas.List.Elements.{All-head, All-tail, filter-append}
use Rattle.std.proofs.lemmas.List.Folds.{list_any-append}
use Rattle.rt_wire.specs.Client.{client_message}
use Rattle.rt_wire.specs.declared.client.ClientMessage.{ClientMessage}
use Rattle.rt_wire.specs.declared.client.ClientMessage.TheVariants.{Hello, Listen as ListenTo, Unlisten, Ask}
use Rattle.rt_wire.specs.declared.error.WireError.{WireError}
use Rattle.rt_wire.specs.declared.request.Asked.{Asked}
use Rattle.rt_wire.specs.declared.request.Asked.TheVariants.{Now, AtDisconnect}
use Rattle.rt_wire.specs.declared.request.Ending.TheVariants.{Run, Cancel}
use Rattle.rt_wire.specs.declared.server.ServerMessage.TheVariants.{Data, Accepted, Refused, Revoked}
use Rattle.rt_peer.specs.declared.error.PeerError.{PeerError}
use Rattle.rt_peer.specs.declared.error.PeerError.TheVariants.{Failed, UnknownConnection, NoMemory}
use Rattle.rt_serve.specs.declared.serve.ServeError.{ServeError}
use Rattle.rt_serve.specs.declared.serve.ServeError.TheVariants.{Failed as Refused}
use Rattle.rt_peer.specs.Peers.{Peer, in_place, is_known, least_free, is_denied}
use Rattle.rt_peer.specs.Pushes.{seen}
use Rattle.rt_peer.specs.Calls.{Outcome, one, connected, kept, answered, disconnected, entries_of, fault}
use Rattle.rt_peer.specs.Calls.{refusal, unless_refused, wrote, deferred, dropped, asked}
use Rattle.rt_peer.specs.Runs.{Call, Message, Disconnect, outcome, after_all}
use Rattle.rt_serve.specs.Sessions.{call_of, taken, session, HasTaken, HasServed}

-- ---- a message changes no connection

unless : (o : Option (List ℕ)) (p : Peer) (n id : ℕ) (out : Outcome)
    → out.0.connections ≡ p.connections → (unless_refused o p n id out).0.connections ≡ p.connections
unless None p n id out h = h
unless (Some why) p n id out h = refl

asks : (p : Peer) (n id : ℕ) (a : Asked) → (asked p n id a).0.connections ≡ p.connections
asks p n id (Now action) =
    unless (refusal p.denied (entries_of action)) p n id (wrote p n id (entries_of action)) refl
asks p n id (AtDisconnect (Run action)) =
    unless (refusal p.denied (entries_of action)) p n id (deferred p n id (entries_of action)) refl
asks p n id (AtDisconnect (Cancel path)) =
    elim (is_denied p.denied path) as (λ b. (let o : Outcome = if b
    then (p, one n (Refused id (codes "denied")))
    else (dropped p n path, one n (Accepted id)) in o.0.connections) ≡ p.connections)
    [ true ↦ refl | false ↦ refl ]

answers : (p : Peer) (n : ℕ) (message : ClientMessage)
    → (answered p n message).0.connections ≡ p.connections
answers p n (Hello version) = refl
answers p n (ListenTo tag q) =
    elim (is_denied p.denied q.path) as (λ b. (let o : Outcome = if b
    then (p, one n (Revoked tag (codes "denied")))
    else (kept p n tag q, one n (Data tag q.path (seen q p.tree))) in o.0.connections)
    ≡ p.connections) [ true ↦ refl | false ↦ refl ]
answers p n (Unlisten tag) = refl
answers p n (Ask id a) = asks p n id a

message_stays : (p : Peer) (n : ℕ) (message : ClientMessage)
    → (outcome p (Message n message)).0.connections ≡ p.connections
message_stays p n message =
    elim (is_known p.connections n) as (λ b. (let o : Outcome = if b then answered p n message
    else (p, []) in o.0.connections) ≡ p.connections) [ true ↦ answers p n message | false ↦ refl ]

call_stays : (p : Peer) (n : ℕ) (r : Result ClientMessage WireError)
    → (after_all p (call_of n r)).connections ≡ p.connections
call_stays p n (Ok message) = message_stays p n message
call_stays p n (Err e) = refl

-- ---- calls one after another

pub after_all-append : (p : Peer) (xs ys : List Call)
    → after_all p (xs ++ ys) ≡ after_all (after_all p xs) ys
after_all-append p [] ys = refl
after_all-append p (x ∷ xs) ys = after_all-append (outcome p x).0 xs ys

pub taken_stays : (p : Peer) (n : ℕ) (texts : List (List ℕ))
    → (after_all p (taken n texts)).connections ≡ p.connections
taken_stays p n [] = refl
taken_stays p n (t ∷ texts) =
    ap (λ q. q.connections) (after_all-append p (call_of n (client_message t)) (taken n texts))
    ∙ taken_stays (after_all p (call_of n (client_message t))) n texts
    ∙ call_stays p n (client_message t)

taken-append : (n : ℕ) (xs ys : List (List ℕ)) → taken n (xs ++ ys) ≡ taken n xs ++ taken n ys
taken-append n [] ys = refl
taken-append n (x ∷ xs) ys =
    ap (λ calls. call_of n (client_message x) ++ calls) (taken-append n xs ys)
    ∙ sym (assoc (call_of n (client_message x)) (taken n xs) (taken n ys))
  where
    assoc : (a b c : List Call) → ((a ++ b) ++ c) ≡ (a ++ (b ++ c))
    assoc [] b c = refl
    assoc (x ∷ a) b c = ap (λ l. x ∷ l) (assoc a b c)

-- ---- known connections

fault_of : (p : Peer) (n : ℕ) → is_known p.connections n ≡ true → fault (Some p) n ≡ None
fault_of p n e = ap (λ b. if b then None else Some UnknownConnection) e

known_of : (p : Peer) (n : ℕ) → fault (Some p) n ≡ None → is_known p.connections n ≡ true
known_of p n e =
    elim (is_known p.connections n) as (λ b. (if b then None else Some UnknownConnection) ≡ None
    → b ≡ true) [ true ↦ λ f. refl | false ↦ λ f. cc ] e

-- the same connections, the same known numbers
same_fault : (p q : Peer) (n : ℕ) → q.connections ≡ p.connections → fault (Some p) n ≡ None
    → fault (Some q) n ≡ None
same_fault p q n e h = fault_of q n (ap (λ c. is_known c n) e ∙ known_of p n h)

equal : (n : ℕ) → (n == n) ≡ true
equal n = grind (arith, nat_tests)

right_true : (a b : Bool) → b ≡ true → (a || b) ≡ true
right_true true b e = refl
right_true false b e = e

left_true : (a b : Bool) → a ≡ true → (a || b) ≡ true
left_true a b e = ap (λ x. x || b) e

-- a new connection is known
pub new_is_known : (p : Peer) → fault (Some (connected p)) (least_free p.connections) ≡ None
new_is_known p =
    let n = least_free p.connections in
    let front = filter (λ y. not (nat_lt n y)) p.connections in
    let behind = filter (nat_lt n) p.connections in
    fault_of (connected p) n
    (list_any-append (λ m. m == n) front (n ∷ behind)
    ∙ right_true (list_any (λ m. m == n) front) (list_any (λ m. m == n) (n ∷ behind))
    (left_true (n == n) (list_any (λ m. m == n) behind) (equal n)))

-- ---- turns

-- after texts of a known connection it is known
pub still_known : (o q : Option Peer) (most n : ℕ) → fault o n ≡ None
    → IfSome o (λ p. HasTaken most n p q) → fault q n ≡ None
still_known None q most n f h = cc
still_known (Some p) q most n f h =
    subst (λ r. fault r n ≡ None) (sym h.2)
    (same_fault p (after_all p (taken n h.0)) n (taken_stays p n h.0) f)

-- one text more
join : (p : Peer) (q s : Option Peer) (i n : ℕ) (h : HasTaken i n p q)
    → HasTaken 1 n (after_all p (taken n h.0)) s → HasTaken (i + 1) n p s
join p q s i n h j = (
  h.0 ++ j.0,
  omega (arith, h.1, j.1, length-append h.0 j.0),
  j.2
      ∙ ap Some (sym (ap (after_all p) (taken-append n h.0 j.0)
      ∙ after_all-append p (taken n h.0) (taken n j.0))),
)

pub turn : (o q r : Option Peer) (i n : ℕ) → fault o n ≡ None → IfSome o (λ p. HasTaken i n p q)
    → IfSome q (λ p. HasTaken 1 n p r) → IfSome o (λ p. HasTaken (i + 1) n p r)
turn None q r i n f h k = tt
turn (Some p) q r i n f h k =
    join p q r i n h (subst (λ x. IfSome x (λ y. HasTaken 1 n y r)) h.2 k)

-- one text more, or memory lacked
pub err_turn : {A E : Type 0} (o q s : Option Peer) (r : Result A E) (i most n : ℕ) → i + 1 ≤ most
    → fault o n ≡ None → IfSome o (λ p. HasTaken i n p q)
    → IfSome q (λ p. (s ≡ None) ⊎ HasTaken 1 n p s)
    → IfSome o (λ p. OnErr r ((s ≡ None) ⊎ HasTaken most n p s))
err_turn None q s r i most n le f h k = tt
err_turn (Some p) q s (Ok x) i most n le f h k = tt
err_turn (Some p) q s (Err e) i most n le f h k =
    either (subst (λ x. IfSome x (λ y. (s ≡ None) ⊎ HasTaken 1 n y s)) h.2 k)
  where
    either : (s ≡ None) ⊎ HasTaken 1 n (after_all p (taken n h.0)) s
        → (s ≡ None) ⊎ HasTaken most n p s
    either (inl lost) = inl lost
    either (inr j) = let w = join p q s i n h j in inr (w.0, omega (arith, le, w.1), w.2)

pub at_most : (o q : Option Peer) (i most n : ℕ) → i ≤ most → IfSome o (λ p. HasTaken i n p q)
    → IfSome o (λ p. HasTaken most n p q)
at_most None q i most n le h = tt
at_most (Some p) q i most n le h = (h.0, omega (arith, le, h.1), h.2)

pub none_taken : (o : Option Peer) (n : ℕ) → IfSome o (λ p. HasTaken 0 n p o)
none_taken None n = tt
none_taken (Some p) n = ([], omega arith, refl)

-- a text was taken
pub text_taken : (p : Peer) (q : Option Peer) (n : ℕ) (text : List ℕ)
    → q ≡ Some (after_all p (call_of n (client_message text))) → HasTaken 1 n p q
text_taken p q n text e = (text ∷ [], omega arith, e ∙ ap (λ calls. Some (after_all p calls)) (sym (end (call_of n (client_message text)))))
  where
    end : (xs : List Call) → (xs ++ []) ≡ xs
    end [] = refl
    end (x ∷ xs) = ap (λ l. x ∷ l) (end xs)

-- a known connection's message is answered
pub is_answered : (p : Peer) (n : ℕ) (message : ClientMessage) → fault (Some p) n ≡ None
    → (outcome p (Message n message)).0 ≡ (answered p n message).0
is_answered p n message f =
    ap (λ b. let o : Outcome = if b then answered p n message else (p, []) in o.0) (known_of p n f)

pub is_ended : (p : Peer) (n : ℕ) → fault (Some p) n ≡ None
    → (outcome p (Disconnect n)).0 ≡ (disconnected p n).0
is_ended p n f =
    ap (λ b. let o : Outcome = if b then disconnected p n else (p, []) in o.0) (known_of p n f)

-- the whole connection
pub served : (p : Peer) (q r : Option Peer) (most : ℕ) → HasTaken most (least_free p.connections) (connected p) q
    → IfSome q (λ y. r ≡ Some (disconnected y (least_free p.connections)).0)
    → (texts : List (List ℕ)) × (length texts ≤ most)
    × (r ≡ Some (after_all p (session (least_free p.connections) texts)))
served p q r most h k =
    let n = least_free p.connections in
    let at = after_all (connected p) (taken n h.0) in
    let e : r ≡ Some (disconnected at n).0 =
    subst (λ x. IfSome x (λ y. r ≡ Some (disconnected y n).0)) h.2 k in
    let known : fault (Some at) n ≡ None =
    same_fault (connected p) at n (taken_stays (connected p) n h.0) (new_is_known p) in (
      h.0,
      h.1,
      e ∙ ap Some (sym (after_all-append (connected p) (taken n h.0) (Disconnect n ∷ [])
          ∙ is_ended at n known)),
    )

-- ---- the connections come back

apart_of : (m n : ℕ) → (m == n) ≡ false → not (m == n) ≡ true
apart_of m n e = ap not e

not_or : (a b : Bool) → (a || b) ≡ false → (a ≡ false) × (b ≡ false)
not_or true b e = cc
not_or false b e = (refl, e)

first_apart : (n m : ℕ) (ms : List ℕ) → is_known (m ∷ ms) n ≡ false → (m == n) ≡ false
first_apart n m ms e = (not_or (m == n) (is_known ms n) e).0

rest_apart : (n m : ℕ) (ms : List ℕ) → is_known (m ∷ ms) n ≡ false → is_known ms n ≡ false
rest_apart n m ms e = (not_or (m == n) (is_known ms n) e).1

-- taking a number out of where it is not
others : (n : ℕ) (ms : List ℕ) → is_known ms n ≡ false → filter (λ m. not (m == n)) ms ≡ ms
others n [] e = refl
others n (m ∷ ms) e =
    ap (λ b. cond (not b) (m ∷ filter (λ k. not (k == n)) ms) (filter (λ k. not (k == n)) ms))
    (first_apart n m ms e)
    ∙ ap (λ l. m ∷ l) (others n ms (rest_apart n m ms e))

-- and it is not among some of these
still_apart : (n : ℕ) (p : ℕ → Bool) (ms : List ℕ) → is_known ms n ≡ false
    → is_known (filter p ms) n ≡ false
still_apart n p [] e = refl
still_apart n p (m ∷ ms) e =
    let rest = still_apart n p ms (rest_apart n m ms e) in
    elim (p m) as (λ b. is_known (cond b (m ∷ filter p ms) (filter p ms)) n ≡ false) [
      | true ↦ ap (λ b. b || is_known (filter p ms) n) (first_apart n m ms e) ∙ rest
      | false ↦ rest
    ]

lt_true : (n m : ℕ) → n < m → nat_lt n m ≡ true
lt_true n m h = grind (arith, nat_tests)

lt_of : (n m : ℕ) → nat_lt n m ≡ true → n < m
lt_of n m e = grind (arith, nat_tests)

-- where all are above
no_front : (n : ℕ) (ms : List ℕ) → All (λ m. n < m) ms → filter (λ m. not (nat_lt n m)) ms ≡ []
no_front n [] h = refl
no_front n (m ∷ ms) h =
    ap (λ b. cond (not b) (m ∷ filter (λ k. not (nat_lt n k)) ms) (filter (λ k. not (nat_lt n k)) ms))
    (lt_true n m (All-head (λ k. n < k) m ms h))
    ∙ no_front n ms (All-tail (λ k. n < k) m ms h)

all_behind : (n : ℕ) (ms : List ℕ) → All (λ m. n < m) ms → filter (nat_lt n) ms ≡ ms
all_behind n [] h = refl
all_behind n (m ∷ ms) h =
    ap (λ b. cond b (m ∷ filter (nat_lt n) ms) (filter (nat_lt n) ms))
    (lt_true n m (All-head (λ k. n < k) m ms h))
    ∙ ap (λ l. m ∷ l) (all_behind n ms (All-tail (λ k. n < k) m ms h))

above : (m : ℕ) (ms : List ℕ) → AllPairs (λ a b. a < b) (m ∷ ms) → All (λ k. m < k) ms
above m ms h k d lt = h zero (suc k) d (omega arith) (omega arith)

rest_rise : (m : ℕ) (ms : List ℕ) → AllPairs (λ a b. a < b) (m ∷ ms) → AllPairs (λ a b. a < b) ms
rest_rise m ms h i j d lt within = h (suc i) (suc j) d (omega arith) (omega arith)

parted : (n : ℕ) (ms : List ℕ) → AllPairs (λ a b. a < b) ms
    → (filter (λ m. not (nat_lt n m)) ms ++ filter (nat_lt n) ms) ≡ ms
parted n [] h = refl
parted n (m ∷ ms) h =
    let front = filter (λ k. not (nat_lt n k)) ms in
    let behind = filter (nat_lt n) ms in
    elim (nat_lt n m) as (λ b. nat_lt n m ≡ b
    → (cond (not b) (m ∷ front) front ++ cond b (m ∷ behind) behind) ≡ m ∷ ms) [
      | true ↦ λ e.
          let all : All (λ k. n < k) ms = λ k d lt. omega (arith, lt_of n m e, above m ms h k d lt) in
          ap (λ f. f ++ m ∷ behind) (no_front n ms all) ∙ ap (λ l. m ∷ l) (all_behind n ms all)
      | false ↦ λ e. ap (λ l. m ∷ l) (parted n ms (rest_rise m ms h))
    ] refl

-- a number that comes and goes leaves the others
comes_and_goes : (n : ℕ) (ms : List ℕ) → AllPairs (λ a b. a < b) ms → is_known ms n ≡ false
    → filter (λ m. not (m == n)) (in_place nat_lt n ms) ≡ ms
comes_and_goes n ms rise e =
    let q : ℕ → Bool = λ m. not (m == n) in
    let front = filter (λ m. not (nat_lt n m)) ms in
    let behind = filter (nat_lt n) ms in
    filter-append q front (n ∷ behind)
    ∙ ap (λ b. filter q front ++ cond (not b) (n ∷ filter q behind) (filter q behind)) (equal n)
    ∙ ap (λ l. l ++ filter q behind) (others n front (still_apart n (λ m. not (nat_lt n m)) ms e))
    ∙ ap (λ l. front ++ l) (others n behind (still_apart n (nat_lt n) ms e))
    ∙ parted n ms rise

disconnect_leaves : (p : Peer) (n : ℕ) → fault (Some p) n ≡ None
    → (outcome p (Disconnect n)).0.connections ≡ filter (λ m. not (m == n)) p.connections
disconnect_leaves p n f = ap (λ q. q.connections) (is_ended p n f)

pub sessions_leave : (p : Peer) (texts : List (List ℕ)) → AllPairs (λ a b. a < b) p.connections
    → is_known p.connections (least_free p.connections) ≡ false
    → (after_all p (session (least_free p.connections) texts)).connections ≡ p.connections
sessions_leave p texts rise fresh =
    let n = least_free p.connections in
    let at = after_all (connected p) (taken n texts) in
    let known : fault (Some at) n ≡ None =
    same_fault (connected p) at n (taken_stays (connected p) n texts) (new_is_known p) in
    ap (λ q. q.connections) (after_all-append (connected p) (taken n texts) (Disconnect n ∷ []))
    ∙ disconnect_leaves at n known
    ∙ ap (λ c. filter (λ m. not (m == n)) c) (taken_stays (connected p) n texts)
    ∙ comes_and_goes n p.connections rise fresh

-- ---- a socket that is served

-- what a new connection's number is, and the peer behind it
abbrev pub Began : Option Peer → Option Peer → ℕ → Type 0
Began o q n = IfSome o (λ p. (n ≡ least_free p.connections) × (q ≡ Some (connected p)))

pub began_known : (o q : Option Peer) (n : ℕ) → (o ≡ None → ⊥) → Began o q n → fault q n ≡ None
began_known None q n some h = absurd (some refl)
began_known (Some p) q n some h =
    subst (λ m. fault q m ≡ None) (sym h.0)
    (subst (λ r. fault r (least_free p.connections) ≡ None) (sym h.1) (new_is_known p))

-- what the end of a connection answers, where it is not refused
abbrev pub EndsWell : Option Peer → Option Peer → ℕ → Type 0
EndsWell q s n = IfSome q (λ y. s ≡ Some (disconnected y n).0)

well_served : (p : Peer) (q r s : Option Peer) (n : ℕ) → n ≡ least_free p.connections
    → q ≡ Some (connected p) → IfSome q (λ y. HasTaken 1000000 n y r) → EndsWell r s n → HasServed p s
well_served p q r s n e is h k =
    let m = least_free p.connections in
    served p r s 1000000
    (subst (λ x. HasTaken 1000000 x (connected p) r) e
    (subst (λ x. IfSome x (λ y. HasTaken 1000000 n y r)) is h))
    (subst (λ x. EndsWell r s x) e k)

-- the connection ended, after all was taken
pub ok_served : {A E : Type 0} (o q r s : Option Peer) (n : ℕ) (t : Result A E) → Began o q n
    → IfSome q (λ y. OnOk t (HasTaken 1000000 n y r)) → EndsWell r s n
    → IfSome o (λ p. OnOk t (HasServed p s))
ok_served None q r s n t b h k = tt
ok_served (Some p) q r s n (Err e) b h k = tt
ok_served (Some p) q r s n (Ok x) b h k = well_served p q r s n b.0 b.1 h k

-- the connection ended, after memory lacked
pub err_served : {A E : Type 0} (o q r s : Option Peer) (n : ℕ) (t : Result A E) → (r ≡ None → ⊥)
    → Began o q n → IfSome q (λ y. OnErr t ((r ≡ None) ⊎ HasTaken 1000000 n y r)) → EndsWell r s n
    → IfSome o (λ p. OnErr t ((s ≡ None) ⊎ HasServed p s))
err_served None q r s n t some b h k = tt
err_served (Some p) q r s n (Ok x) some b h k = tt
err_served (Some p) q r s n (Err e) some b h k =
    inr (well_served p (Some (connected p)) r s n b.0 refl
    (either (subst (λ x. IfSome x (λ y. (r ≡ None) ⊎ HasTaken 1000000 n y r)) b.1 h)) k)
  where
    either : (r ≡ None) ⊎ HasTaken 1000000 n (connected p) r → HasTaken 1000000 n (connected p) r
    either (inl lost) = absurd (some lost)
    either (inr is) = is

-- a connection that began is one of a peer that had not failed
pub some_of : {A : Type 0} (o : Option Peer) (x : A) (r : Result A ServeError) → r ≡ Ok x
    → ((r ≡ Err Refused) ↔ (o ≡ None)) → o ≡ None → ⊥
some_of o x r is only e = let bad : r ≡ Err Refused = only.1 e in cc

-- a call that was answered is one of a peer that had not failed
pub not_lost : {A : Type 0} (r s : Option Peer) (n : ℕ) (x : A) (res : Result A PeerError)
    → res ≡ Ok x → IfSome (fault r n) (λ e. (res ≡ Err e) × (s ≡ r)) → r ≡ None → ⊥
not_lost None s n x res is h e = let bad : res ≡ Err Failed = h.0 in cc
not_lost (Some y) s n x res is h e = cc

-- behind all that was taken, the peer has failed or knows the connection
pub took : {A E : Type 0} (q r : Option Peer) (n : ℕ) (t : Result A E) → fault q n ≡ None
    → IfSome q (λ y. OnOk t (HasTaken 1000000 n y r))
    → IfSome q (λ y. OnErr t ((r ≡ None) ⊎ HasTaken 1000000 n y r))
    → (r ≡ None) ⊎ (fault r n ≡ None)
took None r n t f h k = cc
took (Some p) r n (Ok x) f h k = inr (still_known (Some p) r 1000000 n f h)
took (Some p) r n (Err e) f h (inl lost) = inl lost
took (Some p) r n (Err e) f h (inr is) = inr (still_known (Some p) r 1000000 n f is)

-- where the end of the connection is refused, the peer has failed
pub lost_end : {A : Type 0} (r s : Option Peer) (n : ℕ) (e : PeerError) (res : Result A PeerError)
    → res ≡ Err e → (r ≡ None) ⊎ (fault r n ≡ None)
    → IfSome (fault r n) (λ x. (res ≡ Err x) × (s ≡ r))
    → (fault r n ≡ Some e) ⊎ (e ≡ NoMemory) → (res ≡ Err NoMemory → s ≡ None) → s ≡ None
lost_end None s n e res is known h why gives = h.1
lost_end (Some y) s n e res is (inl lost) h why gives = cc
lost_end (Some y) s n e res is (inr none) h (inl other) gives = cc
lost_end (Some y) s n e res is (inr none) h (inr memory) gives = gives (is ∙ ap Err memory)

pub all_lost : (o s : Option Peer) → s ≡ None → IfSome o (λ p. (s ≡ None) ⊎ HasServed p s)
all_lost None s e = tt
all_lost (Some p) s e = inl e
