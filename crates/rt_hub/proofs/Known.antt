-- Which connections are known, and that just these have a line.
use Rattle.std.proofs.Common.{◌≡◌, ℕ, ◌+◌, ◌<◌, ◌≤◌, Bool, true, false, cond, not, nat_lt, List}
use Rattle.std.proofs.Common.{[], ◌∷◌}
use Rattle.std.proofs.Common.{length, zero, suc, refl, sym, ap, ◌∙◌, arith, Option, Some, None}
use Rattle.std.proofs.Common.{codes}
use Rattle.std.specs.Prelude.{◌==◌, ◌||◌, if◌then◌else◌}
use Rattle.std.specs.List.{filter, fold, list_any}
use Rattle.std.proofs.lemmas.Bool.Decides.{nat_tests}
use Rattle.std.proofs.lemmas.List.Folds.{list_any-append}
use Rattle.rt_wire.specs.declared.client.ClientMessage.{ClientMessage}
use Rattle.rt_wire.specs.declared.client.ClientMessage.TheVariants.{Hello, Listen as ListenTo, Unlisten, Ask}
use Rattle.rt_wire.specs.declared.request.Asked.{Asked}
use Rattle.rt_wire.specs.declared.request.Asked.TheVariants.{Now, AtDisconnect}
use Rattle.rt_wire.specs.declared.request.Ending.TheVariants.{Run, Cancel}
use Rattle.rt_wire.specs.declared.server.ServerMessage.TheVariants.{Data, Accepted, Refused, Revoked}
use Rattle.rt_peer.specs.declared.error.PeerError.TheVariants.{UnknownConnection}
use Rattle.rt_peer.specs.Peers.{Peer, in_place, is_known, least_free, is_denied}
use Rattle.rt_peer.specs.Pushes.{seen}
use Rattle.rt_peer.specs.Calls.{Outcome, one, kept, answered, entries_of, fault}
use Rattle.rt_peer.specs.Calls.{refusal, unless_refused, wrote, deferred, dropped, asked}
use Rattle.rt_hub.specs.Lines.{Line}
use Rattle.rt_hub.specs.inside.Lined.{AreLined}
use Rattle.rt_hub.proofs.Places.{line_within}

-- ---- a message changes no connection

unless : (o : Option (List ℕ)) (p : Peer) (n id : ℕ) (out : Outcome)
    → out.0.connections ≡ p.connections → (unless_refused o p n id out).0.connections ≡ p.connections
unless None p n id out h = h
unless (Some why) p n id out h = refl

asks : (p : Peer) (n id : ℕ) (a : Asked) → (asked p n id a).0.connections ≡ p.connections
asks p n id (Now action) =
    unless (refusal p.denied (entries_of action)) p n id (wrote p n id (entries_of action)) refl
asks p n id (AtDisconnect (Run action)) =
    unless (refusal p.denied (entries_of action)) p n id (deferred p n id (entries_of action)) refl
asks p n id (AtDisconnect (Cancel path)) =
    elim (is_denied p.denied path) as (λ b. (let o : Outcome = if b
    then (p, one n (Refused id (codes "denied")))
    else (dropped p n path, one n (Accepted id)) in o.0.connections) ≡ p.connections)
    [ true ↦ refl | false ↦ refl ]

pub answers : (p : Peer) (n : ℕ) (message : ClientMessage)
    → (answered p n message).0.connections ≡ p.connections
answers p n (Hello version) = refl
answers p n (ListenTo tag q) =
    elim (is_denied p.denied q.path) as (λ b. (let o : Outcome = if b
    then (p, one n (Revoked tag (codes "denied")))
    else (kept p n tag q, one n (Data tag q.path (seen q p.tree))) in o.0.connections)
    ≡ p.connections) [ true ↦ refl | false ↦ refl ]
answers p n (Unlisten tag) = refl
answers p n (Ask id a) = asks p n id a

pub known_of : (p : Peer) (n : ℕ) → fault (Some p) n ≡ None → is_known p.connections n ≡ true
known_of p n e =
    elim (is_known p.connections n) as (λ b. (if b then None else Some UnknownConnection) ≡ None
    → b ≡ true) [ true ↦ λ f. refl | false ↦ λ f. cc ] e

-- ---- a number joins or leaves

or_first : (a b c : Bool) → (a || (b || c)) ≡ (b || (a || c))
or_first true true c = refl
or_first true false c = refl
or_first false b c = refl

-- those that a test keeps and those that it doesn't are all
parted : (test keep : ℕ → Bool) (xs : List ℕ)
    → (list_any test (filter (λ x. not (keep x)) xs) || list_any test (filter keep xs)) ≡ list_any test xs
parted test keep [] = refl
parted test keep (x ∷ xs) =
    elim (keep x) as (λ b. (list_any test
    (cond (not b) (x ∷ filter (λ y. not (keep y)) xs) (filter (λ y. not (keep y)) xs))
    || list_any test (cond b (x ∷ filter keep xs) (filter keep xs))) ≡ (test x || list_any test xs)) [
      | true ↦
          or_first (list_any test (filter (λ y. not (keep y)) xs)) (test x) (list_any test (filter keep xs))
          ∙ ap (λ r. test x || r) (parted test keep xs)
      | false ↦
          or_assoc (test x) (list_any test (filter (λ y. not (keep y)) xs)) (list_any test (filter keep xs))
          ∙ ap (λ r. test x || r) (parted test keep xs)
    ]
  where
    or_assoc : (a b c : Bool) → ((a || b) || c) ≡ (a || (b || c))
    or_assoc true b c = refl
    or_assoc false b c = refl

-- a number that joins is known, and the others are as they were
pub joins : (numbers : List ℕ) (n k : ℕ)
    → is_known (in_place nat_lt n numbers) k ≡ (if n == k then true else is_known numbers k)
joins numbers n k =
    let test : ℕ → Bool = λ m. m == k in
    let front : List ℕ = filter (λ y. not (nat_lt n y)) numbers in
    let behind : List ℕ = filter (nat_lt n) numbers in
    list_any-append test front (n ∷ behind)
    ∙ or_first (list_any test front) (n == k) (list_any test behind)
    ∙ ap (λ r. (n == k) || r) (parted test (nat_lt n) numbers)
    ∙ as_if (n == k) (list_any test numbers)
  where
    as_if : (a b : Bool) → (a || b) ≡ (if a then true else b)
    as_if true b = refl
    as_if false b = refl

-- a number that leaves is not known, and the others are as they were
pub leaves : (numbers : List ℕ) (n k : ℕ)
    → is_known (filter (λ m. not (m == n)) numbers) k ≡ (if n == k then false else is_known numbers k)
leaves [] n k = elim (n == k) as (λ b. false ≡ (if b then false else false)) [ true ↦ refl | false ↦ refl ]
leaves (m ∷ ms) n k =
    elim (m == n) as (λ b. (m == n) ≡ b
    → is_known (cond (not b) (m ∷ filter (λ x. not (x == n)) ms) (filter (λ x. not (x == n)) ms)) k
    ≡ (if n == k then false else ((m == k) || is_known ms k))) [
      | true ↦ λ e. leaves ms n k ∙ gone (m == n) (n == k) (m == k) (is_known ms k) e (one_less m n k)
      | false ↦ λ e. ap (λ r. (m == k) || r) (leaves ms n k)
          ∙ stays (n == k) (m == k) (is_known ms k) (two_apart m n k e)
    ] refl
  where
    one_less : (m n k : ℕ) → (m == n) ≡ true → (n == k) ≡ false → (m == k) ≡ false
    one_less m n k e f = grind (arith, nat_tests)

    two_apart : (m n k : ℕ) → (m == n) ≡ false → (n == k) ≡ true → (m == k) ≡ false
    two_apart m n k e f = grind (arith, nat_tests)

    gone : (e nk mk r : Bool) → e ≡ true → (e ≡ true → nk ≡ false → mk ≡ false) → (if nk then false else r)
        ≡ (if nk then false else (mk || r))
    gone e true mk r is h = refl
    gone e false mk r is h = ap (λ x. x || r) (sym (h is refl))

    stays : (nk mk r : Bool) → (nk ≡ true → mk ≡ false) → (mk || (if nk then false else r))
        ≡ (if nk then false else (mk || r))
    stays true mk r h = ap (λ x. x || false) (h refl)
    stays false mk r h = refl

-- ---- the next number

grows : (numbers : List ℕ) (n : ℕ) → n ≤ fold (λ k m. if m == k then k + 1 else k) n numbers
grows [] n = omega arith
grows (m ∷ ms) n =
    elim (m == n) as (λ b. n ≤ fold (λ k m. if m == k then k + 1 else k) (if b then n + 1 else n) ms) [
      | true ↦
          let more : n + 1 ≤ fold (λ k m. if m == k then k + 1 else k) (n + 1) ms = grows ms (n + 1) in
          omega (arith, more)
      | false ↦ grows ms n
    ]

-- the least free number is one from 1
pub free_is_positive : (numbers : List ℕ) (n : ℕ) → n ≡ least_free numbers → 0 < n
free_is_positive numbers n e =
    let more : 1 ≤ least_free numbers = grows numbers 1 in
    omega (arith, e, more)

-- and all before it have a line
pub free_is_next : (p : Peer) (lines : List (Option Line)) (n : ℕ) → AreLined p lines
    → ((k : ℕ) → 1 ≤ k → k < n → is_known p.connections k ≡ true) → n < length lines + 2
free_is_next p lines zero h all = omega arith
free_is_next p lines (suc zero) h all = omega arith
free_is_next p lines (suc (suc k)) h all =
    let there : suc k ≤ length lines =
    line_within lines (suc k) (h (suc k) ∙ all (suc k) (omega arith) (omega arith)) in
    omega (arith, there)
