-- Pushes that are sent as one.
use Rattle.std.proofs.Common.{◌≡◌, ℕ, ◌==◌, ◌&&◌, ◌||◌, Bool, true, false, List, [], ◌∷◌, refl, sym, ap, ◌∙◌, append_assoc, arith, if◌then◌else◌}
use Rattle.std.proofs.lemmas.Bool.Decides.{nat_tests}
use Rattle.rt_wire.specs.declared.server.ServerMessage.TheVariants.{Push}
use Rattle.rt_peer.specs.declared.pushes.Sent.{Sent}
use Rattle.rt_peer.specs.Peers.{is_known}
use Rattle.rt_peer.specs.Pushes.{parts_in, go_together, together, joined, bundled}
use Rattle.rt_peer.specs.Runs.{says_no, is_refused}

-- ---- one after another

pub same_number : (m n : ℕ) (b : Bool) → (m == n && b) ≡ true → m ≡ n
same_number m n b h = grind (arith, nat_tests)

-- what goes together with the second of two that go together
third : (newer : List ℕ) (s r x : Sent) → go_together newer s r ≡ true
    → go_together newer (together s r) x ≡ go_together newer r x
third newer s r x h =
    let same : s.to ≡ r.to = same_number s.to r.to (is_known newer s.to) h in
    λ i. same i == x.to && is_known newer (same i)

both : (s r x : Sent) → together s (together r x) ≡ together (together s r) x
both s r x = ap (λ parts. record { to = s.to; message = Push parts })
    (sym (append_assoc (parts_in s.message) (parts_in r.message) (parts_in x.message)))

pub joined-together : (newer : List ℕ) (s r : Sent) (xs : List Sent) → go_together newer s r ≡ true
    → joined newer s (joined newer r xs) ≡ joined newer (together s r) xs
joined-together newer s r [] h = ap (λ b. if b then together s r ∷ [] else s ∷ r ∷ []) h
joined-together newer s r (x ∷ rest) h =
    elim (go_together newer r x) as (λ b. go_together newer r x ≡ b
    → joined newer s (if b then together r x ∷ rest else r ∷ x ∷ rest)
    ≡ joined newer (together s r) (x ∷ rest)) [
      | true ↦ λ e.
          ap (λ b. if b then together s (together r x) ∷ rest else s ∷ together r x ∷ rest) h
          ∙ ap (λ y. y ∷ rest) (both s r x)
          ∙ ap (λ b. if b then together (together s r) x ∷ rest else together s r ∷ x ∷ rest)
          (sym (third newer s r x h ∙ e))
      | false ↦ λ e.
          ap (λ b. if b then together s r ∷ x ∷ rest else s ∷ r ∷ x ∷ rest) h
          ∙ ap (λ b. if b then together (together s r) x ∷ rest else together s r ∷ x ∷ rest)
          (sym (third newer s r x h ∙ e))
    ] refl

pub joined-apart : (newer : List ℕ) (s r : Sent) (xs : List Sent) → go_together newer s r ≡ false
    → joined newer s (joined newer r xs) ≡ s ∷ joined newer r xs
joined-apart newer s r [] h = ap (λ b. if b then together s r ∷ [] else s ∷ r ∷ []) h
joined-apart newer s r (x ∷ rest) h =
    elim (go_together newer r x) as (λ b. joined newer s (if b then together r x ∷ rest else r ∷ x ∷ rest)
    ≡ s ∷ (if b then together r x ∷ rest else r ∷ x ∷ rest)) [
      | true ↦ ap (λ b. if b then together s (together r x) ∷ rest else s ∷ together r x ∷ rest) h
      | false ↦ ap (λ b. if b then together s r ∷ x ∷ rest else s ∷ r ∷ x ∷ rest) h
    ]

-- ---- none of them refuses

or_left : (a b : Bool) → (a || b) ≡ false → a ≡ false
or_left true b e = e
or_left false b e = refl

or_right : (a b : Bool) → (a || b) ≡ false → b ≡ false
or_right true b e = cc
or_right false b e = e

and_no : (a : Bool) → (a && false) ≡ false
and_no true = refl
and_no false = refl

-- whether it refuses the request
refuses : ℕ → ℕ → Sent → Bool
refuses n id s = s.to == n && says_no id s.message

joined_no : (newer : List ℕ) (n id : ℕ) (s : Sent) (xs : List Sent) → refuses n id s ≡ false
    → is_refused n id xs ≡ false → is_refused n id (joined newer s xs) ≡ false
unfolding refuses
joined_no newer n id s [] h g = ap (λ b. b || false) h
joined_no newer n id s (r ∷ rest) h g =
    elim (go_together newer s r) as (λ b.
    is_refused n id (if b then together s r ∷ rest else s ∷ r ∷ rest) ≡ false) [
      | true ↦ λ i. and_no (s.to == n) i || or_right (refuses n id r) (is_refused n id rest) g i
      | false ↦ λ i. h i || g i
    ]

pub bundled_no : (newer : List ℕ) (n id : ℕ) (xs : List Sent) → is_refused n id xs ≡ false
    → is_refused n id (bundled newer xs) ≡ false
unfolding refuses
bundled_no newer n id [] h = h
bundled_no newer n id (s ∷ xs) h =
    joined_no newer n id s (bundled newer xs) (or_left (refuses n id s) (is_refused n id xs) h)
    (bundled_no newer n id xs (or_right (refuses n id s) (is_refused n id xs) h))
