-- What always holds of a cover.
use Rattle.std.specs.Prelude.{◌≡◌, ◌≢◌, ◌+◌, ◌<◌, ◌≤◌, map}
use Rattle.std.specs.List.{All, AllPairs, Contains}
use Rattle.rt_query.specs.Supply.{form}
use Rattle.rt_cover.specs.Cover.{Registered, Tagged}
use Rattle.rt_cover.specs.State.{Cover, needed_forms}

-- the listeners are by number, each with a form, and the listens by tag, below the next one, which is
-- at most one above the last; just the needed forms are kept, each once
pub record IsSound (c : Cover) : Type 0 where
  pub listeners : AllPairs (λ (l m : Registered). l.0 < m.0) c.listeners
  pub forms : All (λ (l : Registered). form l.1 ≡ l.1) c.listeners
  pub tags : AllPairs (λ (j k : Tagged). j.tag < k.tag) c.kept
  pub below : All (λ (k : Tagged). k.tag < c.next_tag) c.kept
  pub next : c.next_tag ≤ c.last_tag + 1
  pub only : All (Contains (needed_forms c.listeners)) (map (λ (k : Tagged). k.form) c.kept)
  pub all : All (Contains (map (λ (k : Tagged). k.form) c.kept)) (needed_forms c.listeners)
  pub once : AllPairs (λ (j k : Tagged). j.form ≢ k.form) c.kept
