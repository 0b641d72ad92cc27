-- Clients one after another.
use Rattle.std.proofs.Common.{◌≡◌, ◌<◌, ◌+◌, ℕ, Bool, true, false, List, [], ◌∷◌, ◌++◌, length, Option, Some, None, Result, Ok, Err}
use Rattle.std.proofs.Common.{inl, inr, refl, sym, ap, subst, ◌∙◌, arith}
use Rattle.std.specs.Prelude.{◌⊎◌, IfSome, OnErr}
use Rattle.std.specs.List.{AllByRecursion, fold}
use Rattle.std.proofs.lemmas.List.{length-append}
use Rattle.std.proofs.lemmas.List.Sums.{fold-append}
use Rattle.rt_peer.specs.Peers.{Peer}
use Rattle.rt_serve.specs.Sessions.{HasServed, ServedIf}
use Rattle.rt_commands.specs.Connections.{IsAfter, IsTaken, Serves, ServesSome, after_client}

-- so many of the clients are to come
abbrev pub Left : ℕ → ℕ → Peer → Option Peer → Type 0
Left count left p q = (clients : List (List (List ℕ))) × (length clients + left ≡ count) × IsAfter clients p q

all-append : (xs : List (List (List ℕ))) (x : List (List ℕ)) → AllByRecursion IsTaken xs → IsTaken x
    → AllByRecursion IsTaken (xs ++ x ∷ [])
all-append [] x h k = (k, tt)
all-append (y ∷ xs) x h k = (h.0, all-append xs x h.1 k)

pub none_served : (n : ℕ) (o : Option Peer) → IfSome o (λ p. Left n n p o)
none_served n None = tt
none_served n (Some p) = ([], omega arith, (tt, refl))

-- all have come
pub all_served : (n left : ℕ) (o q : Option Peer) → left ≡ 0 → IfSome o (λ p. Left n left p q) → IfSome o (λ p. Serves n p q)
all_served n left None q none h = tt
all_served n left (Some p) q none h = (h.0, omega (arith, none, h.1), h.2)

-- one more client
after_one : (p : Peer) (q r : Option Peer) (clients : List (List (List ℕ))) → IsAfter clients p q
    → HasServed (fold after_client p clients) r
    → (all : List (List (List ℕ))) × (length all ≡ length clients + 1) × IsAfter all p r
after_one p q r clients h s = (
  clients ++ s.0 ∷ [],
  omega (arith, length-append clients (s.0 ∷ [])),
  (all-append clients s.0 h.0 s.1, s.2 ∙ ap Some (sym (fold-append after_client p clients (s.0 ∷ [])))),
)

-- a client came, and was served
pub one_served : (n left less : ℕ) (o q r : Option Peer) → left ≡ less + 1 → IfSome o (λ p. Left n left p q)
    → IfSome q (λ y. HasServed y r) → IfSome o (λ p. Left n less p r)
one_served n left less None q r one h k = tt
one_served n left less (Some p) q r one h k =
    let s : HasServed (fold after_client p h.0) r = subst (λ z. IfSome z (λ y. HasServed y r)) h.2.1 k in
    let m = after_one p q r h.0 h.2 s in
    (m.0, omega (arith, one, h.1, m.1), m.2)

-- one came with whom no handshake came about
pub none_more : (n left : ℕ) (o q r : Option Peer) → IfSome o (λ p. Left n left p q)
    → IfSome q (λ y. r ≡ Some y) → IfSome o (λ p. Left n left p r)
none_more n left None q r h k = tt
none_more n left (Some p) q r h k =
    let same : r ≡ Some (fold after_client p h.0) = subst (λ z. IfSome z (λ y. r ≡ Some y)) h.2.1 k in
    (h.0, h.1, (h.2.0, same))

pub turn : (n left less : ℕ) (shook : Bool) (o q r : Option Peer) → (shook ≡ true → left ≡ less + 1)
    → (shook ≡ false → less ≡ left) → IfSome o (λ p. Left n left p q)
    → IfSome q (λ y. ServedIf shook y r) → IfSome o (λ p. Left n less p r)
turn n left less true o q r one same h k = one_served n left less o q r (one refl) h k
turn n left less false o q r one same h k =
    subst (λ m. IfSome o (λ p. Left n m p r)) (sym (same refl)) (none_more n left o q r h k)

-- serving stopped
pub stopped_at : {A E : Type 0} (n left : ℕ) (o q r : Option Peer) (end : Result A E) → 0 < left
    → IfSome o (λ p. Left n left p q) → IfSome q (λ y. (r ≡ None) ⊎ (r ≡ q) ⊎ HasServed y r)
    → IfSome o (λ p. OnErr end ((r ≡ None) ⊎ ServesSome n p r))
stopped_at n left None q r end more h k = tt
stopped_at n left (Some p) q r (Ok y) more h k = tt
stopped_at n left (Some p) q r (Err y) more h k =
    go (subst (λ z. IfSome z (λ y. (r ≡ None) ⊎ (r ≡ q) ⊎ HasServed y r)) h.2.1 k)
  where
    go : (r ≡ None) ⊎ (r ≡ q) ⊎ HasServed (fold after_client p h.0) r → (r ≡ None) ⊎ ServesSome n p r
    go (inl lost) = inl lost
    go (inr (inl same)) = inr (h.0, omega (arith, h.1), (h.2.0, same ∙ h.2.1))
    go (inr (inr s)) =
        let m = after_one p q r h.0 h.2 s in
        inr (m.0, omega (arith, more, h.1, m.1), m.2)

-- a handshake came about
pub shaken : (shook : Bool) (q r : Option Peer) → shook ≡ true → IfSome q (λ y. ServedIf shook y r)
    → IfSome q (λ y. HasServed y r)
shaken true q r is h = h
shaken false q r is h = cc
