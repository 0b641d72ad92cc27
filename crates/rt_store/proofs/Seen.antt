-- The rows that a contract sees.
use Rattle.std.proofs.Common.{◌≡◌, ◌≤◌, ◌<◌, ◌⊎◌, inl, inr, ℕ, zero, suc, ◌+◌, List, [], ◌∷◌, length, Option, Some, None, refl, sym, ap, ◌∙◌, arith}
use Rattle.std.proofs.lemmas.List.{get_or_past}
use Rattle.rt_store.specs.Stored.{nth}
use Rattle.rt_nodes.specs.Forest.{row_at}
use Rattle.rt_store.specs.inside.Entries.{entries, Nodes, NodeSlot}
use Rattle.rt_store.specs.inside.StoreView.{rows_from}
use Rattle.rt_nodes.proofs.Reached.{row_at-nowhere}

nth_rows : (s : Nodes) (k : ℕ) (os : List (Option NodeSlot)) (i : ℕ) → i < length os → nth (rows_from s k os) i ≡ entries (row_at s (Some (k + i)))
nth_rows s k [] i h = absurd (omega (arith, h))
nth_rows s k (o ∷ os) zero h = ap (λ m. entries (row_at s (Some m))) (let e : k ≡ k + 0 = omega arith in e)
nth_rows s k (o ∷ os) (suc i) h = nth_rows s (k + 1) os i (omega (arith, h)) ∙ ap (λ m. entries (row_at s (Some m))) (let e : (k + 1) + i ≡ k + suc i = omega arith in e)

nth_past : (s : Nodes) (k : ℕ) (os : List (Option NodeSlot)) (i : ℕ) → length os ≤ i → nth (rows_from s k os) i ≡ []
nth_past s k [] i h = refl
nth_past s k (o ∷ os) zero h = absurd (omega (arith, h))
nth_past s k (o ∷ os) (suc i) h = nth_past s (k + 1) os i (omega (arith, h))

less_or_not : (i n : ℕ) → (i < n) ⊎ (n ≤ i)
less_or_not i zero = inr (omega arith)
less_or_not zero (suc n) = inl (omega arith)
less_or_not (suc i) (suc n) = elim (less_or_not i n) [ inl h ↦ inl (omega (arith, h)) | inr h ↦ inr (omega (arith, h)) ]

pub nth_is : (s : Nodes) (n : ℕ) → nth (rows_from s 0 s.slots) n ≡ entries (row_at s (Some n))
nth_is s n = elim (less_or_not n (length s.slots)) [
  | inl h ↦ nth_rows s 0 s.slots n h ∙ ap (λ m. entries (row_at s (Some m))) (let e : 0 + n ≡ n = omega arith in e)
  | inr h ↦ nth_past s 0 s.slots n h ∙ sym (ap entries (row_at-nowhere s n (get_or_past s.slots n None h)))
]
