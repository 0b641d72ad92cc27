-- For which connection the most bytes wait.
use Rattle.std.proofs.Common.{◌≡◌, ℕ, zero, suc, ◌+◌, ◌-◌, ◌≤◌, Bool, true, false, List, [], ◌∷◌, length, refl, sym}
use Rattle.std.proofs.Common.{ap, arith, subst, Option, Some, None, IfSome}
use Rattle.std.specs.Prelude.{◌==◌, nat_le}
use Rattle.std.proofs.lemmas.Bool.Decides.{nat_tests}
use Rattle.rt_peer.specs.Peers.{Peer}
use Rattle.rt_hub.specs.declared.refusal.Bounds.{Bounds}
use Rattle.rt_hub.specs.Hubs.{Hub, IsSlowest, count_of, waits_for}
use Rattle.rt_hub.specs.Lines.{bytes_for, line_of}
use Rattle.rt_hub.specs.inside.Lined.{hub_of}
use Rattle.rt_hub.proofs.Places.{Places, line_past, same_number}

-- of the connections up to that number more bytes wait for none than for this one
abbrev pub IsSlowestTo : Places → List ℕ → ℕ → ℕ → Type 0
IsSlowestTo xs counts p s = (n : ℕ) → n ≤ p → waits_for xs counts n ≤ waits_for xs counts s

pub none_looked : (xs : Places) (counts : List ℕ) → IsSlowestTo xs counts 0 0
none_looked xs counts zero le = omega arith
none_looked xs counts (suc n) le = absurd (omega (arith, le))

pub more_looked : (xs : Places) (counts : List ℕ) (s r p : ℕ) → IsSlowestTo xs counts p s
    → waits_for xs counts s ≤ waits_for xs counts r → waits_for xs counts (p + 1) ≤ waits_for xs counts r
    → IsSlowestTo xs counts (p + 1) r
more_looked xs counts s r p so_far first second n le =
    elim (n == p + 1) as (λ t. (n == p + 1) ≡ t → waits_for xs counts n ≤ waits_for xs counts r) [
      | true ↦ λ e. subst (λ k. waits_for xs counts k ≤ waits_for xs counts r)
          (sym (same_number n (p + 1) e)) second
      | false ↦ λ e.
          let before : waits_for xs counts n ≤ waits_for xs counts s = so_far n (less n p le e) in
          omega (arith, before, first)
    ] refl
  where
    less : (n p : ℕ) → n ≤ p + 1 → (n == p + 1) ≡ false → n ≤ p
    less n p le e = grind (arith, nat_tests)

count_past : (counts : List ℕ) (n : ℕ) → length counts ≤ n - 1 → count_of counts n ≡ 0
count_past counts zero le = refl
count_past [] (suc p) le = refl
count_past (c ∷ counts) (suc zero) le = absurd (omega arith)
count_past (c ∷ counts) (suc (suc p)) le = count_past counts (suc p) (omega arith)

pub all_looked : (xs : Places) (counts : List ℕ) (s p : ℕ) → length xs ≤ p → length counts ≤ p
    → IsSlowestTo xs counts p s → IsSlowest xs counts s
all_looked xs counts s p past gone so_far n =
    elim (nat_le n p) as (λ t. nat_le n p ≡ t → waits_for xs counts n ≤ waits_for xs counts s) [
      | true ↦ λ e. so_far n (within n p e)
      | false ↦ λ e.
          let no_line : bytes_for (line_of xs n) ≡ 0 = ap bytes_for (line_past xs n (behind n p (length xs) past e)) in
          let no_count : count_of counts n ≡ 0 = count_past counts n (behind n p (length counts) gone e) in
          omega (arith, no_line, no_count)
    ] refl
  where
    within : (n p : ℕ) → nat_le n p ≡ true → n ≤ p
    within n p e = grind (arith, nat_tests)

    behind : (n p k : ℕ) → k ≤ p → nat_le n p ≡ false → k ≤ n - 1
    behind n p k le e = grind (arith, nat_tests)

-- so it is of a hub
pub in_hub : (failed : Bool) (o : Option Peer) (b : Bounds) (xs : Places) (counts : List ℕ) (s : ℕ)
    → IsSlowest xs counts s → IfSome (hub_of failed o b xs) (λ (h : Hub). IsSlowest h.lines counts s)
in_hub true o b xs counts s slow = tt
in_hub false None b xs counts s slow = tt
in_hub false (Some p) b xs counts s slow = slow
