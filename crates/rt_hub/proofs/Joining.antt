-- Calls of a hub one after another, and what goes between a hub and a door.
use Rattle.std.proofs.Common.{◌≡◌, ℕ, List, [], ◌∷◌, ◌++◌, map, Option, Some, None, refl, sym, ap, subst, ◌∙◌}
use Rattle.std.proofs.Common.{append_assoc}
use Rattle.rt_peer.specs.Peers.{Peer}
use Rattle.rt_peer.specs.Runs.{Call}
use Rattle.rt_hub.specs.Bounded.{after_bounded, bounded, sent_bounded}
use Rattle.rt_hub.specs.declared.refusal.Bounds.{Bounds}
use Rattle.rt_hub.specs.Hubs.{Hub}
use Rattle.rt_hub.specs.Runs.{Asked, DoesAll, DoesOne, Next, OfPeer, Watched, given_all, given_by}
use Rattle.rt_hub.specs.Runs.{watched_after, watched_all, watched_in}
use Rattle.rt_hub.specs.Doors.{Gives, Takes}

-- ---- what is given and taken

pub gives_more : {X : Type 0} (a b c : Option (List X)) (xs ys : List X) → Gives a b xs → Gives b c ys
    → Gives a c (xs ++ ys)
gives_more None b c xs ys h k = tt
gives_more (Some a) None c xs ys h k = absurd h
gives_more (Some a) (Some b) None xs ys h k = absurd k
gives_more (Some a) (Some b) (Some c) xs ys h k = h ∙ ap (λ l. xs ++ l) k ∙ sym (append_assoc xs ys c)

pub gives_none : {X : Type 0} (a : Option (List X)) → Gives a a []
gives_none None = tt
gives_none (Some a) = refl

pub takes_more : {X : Type 0} (a b c : Option (List X)) (xs ys : List X) → Takes a b xs → Takes b c ys
    → Takes a c (xs ++ ys)
takes_more None b c xs ys h k = tt
takes_more (Some a) None c xs ys h k = absurd h
takes_more (Some a) (Some b) None xs ys h k = absurd k
takes_more (Some a) (Some b) (Some c) xs ys h k = k ∙ ap (λ l. l ++ ys) h ∙ append_assoc a xs ys

-- ---- calls

pub does_append : (a b c : Hub) (xs ys : List Asked) → DoesAll a xs b → DoesAll b ys c → DoesAll a (xs ++ ys) c
does_append a b c [] ys e h = subst (λ x. DoesAll x ys c) e h
does_append a b c (x ∷ xs) ys (mid, one, rest) h = (mid, one, does_append mid b c xs ys rest h)

pub after_made : (a b : Hub) (calls : List Call) → DoesAll a (map OfPeer calls) b
    → b.peer ≡ after_bounded a.peer calls
after_made a b [] e = ap (λ h. h.peer) e
after_made a b (call ∷ calls) (mid, one, rest) =
    after_made mid b calls rest ∙ ap (λ p. after_bounded p calls) one.peer

pub sent-append : (p : Peer) (xs ys : List Call) → sent_bounded p (xs ++ ys) ≡ sent_bounded p xs ++ sent_bounded (after_bounded p xs) ys
sent-append p [] ys = refl
sent-append p (x ∷ xs) ys =
    ap (λ s. (bounded p x).1 ++ s) (sent-append (bounded p x).0 xs ys)
    ∙ sym (append_assoc (bounded p x).1 (sent_bounded (bounded p x).0 xs) (sent_bounded (after_bounded (bounded p x).0 xs) ys))

-- ---- what a connection sees

same_bounds : (a mid : Hub) (call : Asked) → DoesOne a call mid → mid.bounds ≡ a.bounds
same_bounds a mid (OfPeer call) h = h.bounds
same_bounds a mid (Next m) h = h.bounds

pub bounds_made : (a b : Hub) (xs : List Asked) → DoesAll a xs b → b.bounds ≡ a.bounds
bounds_made a b [] e = ap (λ h. h.bounds) e
bounds_made a b (x ∷ xs) (mid, one, rest) = bounds_made mid b xs rest ∙ same_bounds a mid x one

sees_one : (a mid : Hub) (call : Asked) (n : ℕ) → DoesOne a call mid
    → watched_in n mid ≡ watched_after a.bounds n (watched_in n a) call
sees_one a mid (OfPeer call) n h = λ i. record { peer = h.peer i; line = h.lines n i }
sees_one a mid (Next m) n h = λ i. record { peer = h.peer i; line = h.lines n i }

pub sees_all : (a b : Hub) (xs : List Asked) (n : ℕ) → DoesAll a xs b
    → watched_in n b ≡ watched_all a.bounds n (watched_in n a) xs
sees_all a b [] n e = ap (watched_in n) e
sees_all a b (x ∷ xs) n (mid, one, rest) =
    sees_all mid b xs n rest
    ∙ ap (λ bo. watched_all bo n (watched_in n mid) xs) (same_bounds a mid x one)
    ∙ ap (λ w. watched_all a.bounds n w xs) (sees_one a mid x n one)

pub given-append : (b : Bounds) (n : ℕ) (w : Watched) (xs ys : List Asked)
    → given_all b n w (xs ++ ys) ≡ given_all b n w xs ++ given_all b n (watched_all b n w xs) ys
given-append b n w [] ys = refl
given-append b n w (x ∷ xs) ys =
    ap (λ l. given_by n w x ++ l) (given-append b n (watched_after b n w x) xs ys)
    ∙ sym (append_assoc (given_by n w x) (given_all b n (watched_after b n w x) xs)
    (given_all b n (watched_all b n (watched_after b n w x) xs) ys))
