-- What is promised of what a cover shows, and of what its changes tell.
use Rattle.std.specs.Prelude.{◌≡◌, ◌≢◌, ℕ, zero, suc, ◌+◌, ◌<◌, ◌≤◌, List, [], ◌∷◌, map, length}
use Rattle.std.specs.List.{All, AllPairs, Any, Contains}
use Rattle.rt_query.specs.Queries.{Query}
use Rattle.rt_cover.specs.declared.change.Delta.{Delta}
use Rattle.rt_cover.specs.declared.listen.Kept.{Kept}
use Rattle.rt_cover.specs.Cover.{Registered, Supplies, IsFewest, forms, Tagged}

-- ---- what is shown

-- these listens are the fewest registered forms that supply all of them, by tag, and each form is
-- listened to once
pub record AreFewest (listeners : List Registered) (shown : List Kept) : Type 0 where
  pub fewest : IsFewest (map (λ k. k.query) shown) (forms listeners)
  pub once : AllPairs (λ j k. j.query ≢ k.query) shown
  pub by_tag : AllPairs (λ j k. j.tag < k.tag) shown
  pub supplied : All (λ (l : Registered). Any (λ k. Supplies k.query l.1) shown) listeners

-- the listen is shown with the least-numbered listener of its form, and no other registered form
-- supplies it
pub record IsCertified (listeners : List Registered) (k : Kept) : Type 0 where
  pub registered : Contains listeners (k.listener, k.query)
  pub least : All (λ (l : Registered). l.1 ≡ k.query → k.listener ≤ l.0) listeners
  pub alone : All (λ (l : Registered). Supplies l.1 k.query → l.1 ≡ k.query) listeners

-- a kept listen of that tag supplies the query, and none of a lesser tag does
pub record IsLeastSupplier (kept : List Tagged) (q : Query) (tag : ℕ) : Type 0 where
  pub listen : Tagged
  pub is_kept : Contains kept listen
  pub of_tag : listen.tag ≡ tag
  pub supplies : Supplies listen.form q
  pub least : All (λ k. Supplies k.form q → tag ≤ k.tag) kept

-- ---- what is told

-- the numbers from one on, so many
abbrev pub counted : ℕ → ℕ → List ℕ
counted first zero = []
counted first (suc n) = first ∷ counted (first + 1) n

-- what starts is told by the listener that it is shown with, under the next tags; what stops by tag
pub record IsTold (next_tag : ℕ) (d : Delta) : Type 0 where
  pub by_listener : AllPairs (λ j k. j.listener < k.listener) d.started
  pub next_tags : map (λ k. k.tag) d.started ≡ counted next_tag (length d.started)
  pub by_tag : AllPairs (λ s t. s < t) d.stopped
