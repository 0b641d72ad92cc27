-- That actions stand in order where one is added, or loses entries.
use Rattle.std.proofs.Common.{◌≡◌, ℕ, true, false, not, nat_lt, ◌==◌, ◌&&◌, ◌||◌}
use Rattle.std.proofs.Common.{List, refl, ap, ◌∙◌, arith, map, if◌then◌else◌}
use Rattle.std.specs.List.{AllPairs, filter}
use Rattle.std.proofs.lemmas.Bool.Decides.{nat_tests}
use Rattle.std.proofs.lemmas.List.Kept.{AllPairs-filter}
use Rattle.rt_tree.specs.PathTree.{Path}
use Rattle.rt_tree.specs.Assignments.{is_at_or_above}
use Rattle.rt_peer.specs.Calls.{has_entries, without_below}
use Rattle.rt_peer.proofs.Places.{pairs-in_place, pairs-map}
use Rattle.rt_peer.specs.Peers.{Deferred, in_place, runs_before}

abbrev pub RunAfter : Deferred → Deferred → Type 0
RunAfter a b = runs_before b a ≡ false

not_through : (a b c d e f : ℕ) → (nat_lt c a || c == a && nat_lt d b) ≡ false
    → (nat_lt e c || e == c && nat_lt f d) ≡ false → (nat_lt e a || e == a && nat_lt f b) ≡ false
not_through a b c d e f h k = grind (arith, nat_tests)

not_back : (a b c d : ℕ) → (nat_lt a c || a == c && nat_lt b d) ≡ true
    → (nat_lt c a || c == a && nat_lt d b) ≡ false
not_back a b c d h = grind (arith, nat_tests)

-- ---- what is kept runs in order

pub rises_added : (x : Deferred) (xs : List Deferred) → AllPairs RunAfter xs
    → AllPairs RunAfter (in_place runs_before x xs)
rises_added x xs h =
    pairs-in_place RunAfter runs_before x xs h (λ k d lt e. e)
    (λ y e. not_back x.connection x.id y.connection y.id e)
    (λ y z e f. not_through y.connection y.id x.connection x.id z.connection z.id e f)

-- what is taken out of an action changes neither its connection nor its number
still_after : (n : ℕ) (path : Path) (a b : Deferred) → runs_before b a ≡ false
    → runs_before (without_below n path b) (without_below n path a) ≡ false
still_after n path a b h =
    ap (λ c. nat_lt c (without_below n path a).connection
    || c == (without_below n path a).connection
    && nat_lt (without_below n path b).id (without_below n path a).id) (same_connection b)
    ∙ ap (λ c. nat_lt b.connection c
    || b.connection == c && nat_lt (without_below n path b).id (without_below n path a).id)
    (same_connection a)
    ∙ ap (λ i. nat_lt b.connection a.connection
    || b.connection == a.connection && nat_lt i (without_below n path a).id) (same_id b)
    ∙ ap (λ i. nat_lt b.connection a.connection
    || b.connection == a.connection && nat_lt b.id i) (same_id a)
    ∙ h
  where
    same_connection : (x : Deferred) → (without_below n path x).connection ≡ x.connection
    same_connection x =
        elim (x.connection == n) as (λ c. (let y : Deferred = if c
        then record x { entries = filter (λ e. not (is_at_or_above path e.0)) x.entries }
        else x in y.connection) ≡ x.connection) [ true ↦ refl | false ↦ refl ]

    same_id : (x : Deferred) → (without_below n path x).id ≡ x.id
    same_id x =
        elim (x.connection == n) as (λ c. (let y : Deferred = if c
        then record x { entries = filter (λ e. not (is_at_or_above path e.0)) x.entries }
        else x in y.id) ≡ x.id) [ true ↦ refl | false ↦ refl ]

pub rises_dropped : (n : ℕ) (path : Path) (xs : List Deferred) → AllPairs RunAfter xs
    → AllPairs RunAfter (filter has_entries (map (without_below n path) xs))
rises_dropped n path xs h =
    AllPairs-filter RunAfter has_entries (map (without_below n path) xs)
    (pairs-map RunAfter (without_below n path) (still_after n path) xs h)
