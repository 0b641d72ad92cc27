-- What is known of a change of the cover that ends listeners.
use Rattle.std.specs.Prelude.{◌≡◌, ◌≢◌, ℕ, ◌<◌, ◌==◌, ◌||◌, ◌&&◌, Bool, true, not, List, [], ◌∷◌, map}
use Rattle.std.specs.Prelude.{is_some}
use Rattle.std.specs.List.{filter, find, list_any, position, All, AllPairs, Contains}
use Rattle.std.specs.Option.{option_map, option_map_or}
use Rattle.rt_tree.specs.PathTree.{Path, PathTree}
use Rattle.rt_query.specs.Queries.{Query, is_filtered}
use Rattle.rt_query.specs.QueryEq.{query_eq}
use Rattle.rt_query.specs.Supply.{form}
use Rattle.rt_cache.specs.Brought.{Brought, Window}
use Rattle.rt_cache.specs.Recover.{reaches, is_moved}
use Rattle.rt_cover.specs.declared.change.Delta.{Delta}
use Rattle.rt_cover.specs.Cover.{Registered, Tagged, forms, is_kept}
use Rattle.rt_cover.specs.State.{Cover, needed_forms, supplier, without_listeners}
use Rattle.rt_world.specs.World.{Listener, registered, listening}
use Rattle.rt_world.specs.Called.{IsCalled}

-- the forms of the listeners of these numbers
abbrev pub forms_at : List Registered → List ℕ → List Query
forms_at listeners [] = []
forms_at listeners (n ∷ ns) =
    option_map_or (λ f. f ∷ forms_at listeners ns)
    (option_map (λ l. l.1) (find (λ l. l.0 == n) listeners)) (forms_at listeners ns)

-- where they stand
abbrev pub places_at : List Listener → List ℕ → List ℕ
places_at listeners [] = []
places_at listeners (n ∷ ns) =
    option_map_or (λ p. p ∷ places_at listeners ns)
    (position (λ l. l.number == n) listeners) (places_at listeners ns)

-- no listener has the form any more; and if it is plain, no kept listen supplies it
abbrev pub is_ended : Cover → Query → Bool
is_ended c f =
    not (list_any (λ g. query_eq g (form f)) (forms c.listeners))
    && (is_filtered f || not (is_some (supplier c f)))

-- each listener has its listening form, and just the needed forms are kept, each once
pub record KeepsNeeded (c : Cover) : Type 0 where
  pub forms : All (λ (l : Registered). form l.1 ≡ l.1) c.listeners
  pub only :
      All (Contains (needed_forms c.listeners)) (map (λ (k : Tagged). k.form) c.kept)
  pub all : All (Contains (map (λ (k : Tagged). k.form) c.kept)) (needed_forms c.listeners)
  pub once : AllPairs (λ (j k : Tagged). j.form ≢ k.form) c.kept

-- listeners of these numbers end, and what the cover tells of it: their forms are among the ended ones
pub record HasLost (was is : Cover) (numbers : List ℕ) (listeners : List Listener) (ended : List Query)
    (delta : Delta) (b : Brought) : Type 0 where
  pub was_sound : KeepsNeeded was
  pub is_sound : KeepsNeeded is
  pub listened : was.listeners ≡ registered listeners
  pub rises : AllPairs (λ (l m : Registered). l.0 < m.0) was.listeners
  pub rising : AllPairs (λ (m n : ℕ). m < n) numbers
  pub left : is.listeners ≡ without_listeners was.listeners numbers
  pub were : All (Contains (listening was.listeners)) ended
  pub ending : (f : Query) → list_any (λ (l : Registered). query_eq l.1 f) was.listeners ≡ true
      → (list_any (λ g. query_eq g f) ended
      || list_any (λ (l : Registered). query_eq l.1 f) is.listeners) ≡ true
  pub given : (l : Registered) → Contains was.listeners l
      → list_any (λ n. n == l.0) numbers ≡ true → list_any (λ g. query_eq g l.1) ended ≡ true
  pub begun : map (λ k. k.query) delta.started
      ≡ filter (λ f. not (is_kept was.kept f)) (needed_forms is.listeners)
  -- what is brought is what calls leave, and belongs to the listens of the cover before
  pub called : IsCalled b
  pub registered : b.registered ≡ listening was.listeners
  pub regions :
      All (λ (r : Path × PathTree). reaches (map (λ (k : Tagged). k.form) was.kept) r.0 ≡ true)
      b.regions
  pub windows : All (λ (w : Query × Window). Contains (listening was.listeners) w.0) b.windows

-- of the queries that are listened to, these are those that a change of what is brought moves
abbrev pub AreMoved : Cover → Brought → Brought → List Query → Type 0
AreMoved c old new moved = (q : Query)
    → list_any (λ (l : Registered). query_eq l.1 (form q)) c.listeners ≡ true
    → list_any (λ g. query_eq g q) moved ≡ is_moved old new q
