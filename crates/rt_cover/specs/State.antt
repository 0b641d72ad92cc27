-- The cover: the registered listeners, the listens kept for them, and what a change of the
-- listeners leaves and tells.
use Rattle.std.specs.Prelude.{◌≡◌, ◌⊎◌, ℕ, ◌+◌, Bool, false, not, ◌==◌, nat_lt, if◌then◌else◌}
use Rattle.std.specs.Prelude.{List, [], ◌∷◌, ◌++◌, map, length, Option, Some, None}
use Rattle.std.specs.List.{filter, find, list_any, All}
use Rattle.std.specs.Option.{option_map, option_map_or}
use Rattle.rt_query.specs.Queries.{Query}
use Rattle.rt_query.specs.QueryEq.{query_eq}
use Rattle.rt_query.specs.Supply.{form, does_supply}
use Rattle.rt_cover.specs.declared.change.Delta.{Delta}
use Rattle.rt_cover.specs.declared.error.CoverError.{CoverError}
use Rattle.rt_cover.specs.declared.error.CoverError.TheVariants.{UnknownListener, UnknownTag}
use Rattle.rt_cover.specs.declared.error.CoverError.TheVariants.{NoTag, NoMemory}
use Rattle.rt_cover.specs.declared.listen.Kept.{Kept}
use Rattle.rt_cover.specs.Cover.{Registered, forms, first_listener, needed, Tagged, started}
use Rattle.rt_cover.specs.Cover.{kept_for}

-- the registered listeners by number, each with its form, the kept listens by tag, the next tag, and
-- the last one that may be given
pub record Cover : Type 0 where
  pub listeners : List Registered
  pub kept : List Tagged
  pub next_tag : ℕ
  pub last_tag : ℕ

-- the cover of no listener; tags count from 1
abbrev pub empty_cover : ℕ → Cover
empty_cover last_tag = record { listeners = []; kept = []; next_tag = 1; last_tag = last_tag }

-- ---- listeners

-- whether a listener of that number is registered
abbrev pub is_registered : List Registered → ℕ → Bool
is_registered listeners number = list_any (λ l. l.0 == number) listeners

-- the listeners with a new one of a form, by number
abbrev pub with_listener : List Registered → ℕ → Query → List Registered
with_listener listeners number f =
    filter (λ l. nat_lt l.0 number) listeners
    ++ (number, f) ∷ filter (λ l. nat_lt number l.0) listeners

-- the listeners without those of these numbers
abbrev pub without_listeners : List Registered → List ℕ → List Registered
without_listeners listeners numbers = filter (λ l. not (list_any (λ n. n == l.0) numbers)) listeners

-- the listeners without those whose numbers are chosen
abbrev pub without_chosen : (ℕ → Bool) → List Registered → List Registered
without_chosen chosen listeners = filter (λ l. not (chosen l.0)) listeners

-- the listeners without those of a form
abbrev pub without_form : List Registered → Query → List Registered
without_form listeners f = filter (λ l. not (query_eq l.1 f)) listeners

-- the numbers of the listeners of a form
abbrev pub numbers_of : List Registered → Query → List ℕ
numbers_of listeners f = map (λ l. l.0) (filter (λ l. query_eq l.1 f) listeners)

-- the forms that no other registered form supplies
abbrev pub needed_forms : List Registered → List Query
needed_forms listeners = needed (forms listeners)

-- ---- the listens kept

-- a kept listen, shown with the least-numbered listener of its form
abbrev pub shown_with : List Registered → Tagged → Kept
shown_with listeners k =
    record { tag = k.tag; query = k.form; listener = first_listener listeners k.form }

-- the kept listens as they are shown
abbrev pub shown : Cover → List Kept
shown c = map (shown_with c.listeners) c.kept

-- the kept listen with that tag
abbrev pub listen_at : Cover → ℕ → Option Tagged
listen_at c tag = find (λ k. k.tag == tag) c.kept

-- the tag of the first kept listen that supplies the query
abbrev pub supplier : Cover → Query → Option ℕ
supplier c q = option_map (λ k. k.tag) (find (λ k. does_supply k.form q) c.kept)

-- ---- a change of the listeners

-- the listens that start once these listeners are registered
abbrev pub started_for : Cover → List Registered → List Tagged
started_for c listeners = started c.next_tag c.kept (needed_forms listeners)

-- the cover once these listeners are registered
abbrev pub with_listeners : Cover → List Registered → Cover
with_listeners c listeners = record {
  listeners = listeners;
  kept = kept_for c.next_tag c.kept (needed_forms listeners);
  next_tag = c.next_tag + length (started_for c listeners);
  last_tag = c.last_tag;
}

-- whether a tag above the last one would have to be given for that
abbrev pub lacks_tag : Cover → List Registered → Bool
lacks_tag c listeners = nat_lt (c.last_tag + 1) (c.next_tag + length (started_for c listeners))

-- the listens that are in the first list, and of whose tag the second has none
abbrev pub beyond : List Tagged → List Tagged → List Tagged
beyond these those = filter (λ k. not (list_any (λ j. j.tag == k.tag) those)) these

-- what starts and what stops from one cover to the next
abbrev pub difference : Cover → Cover → Delta
difference old new = record {
  started = map (shown_with new.listeners) (beyond new.kept old.kept);
  stopped = map (λ k. k.tag) (beyond old.kept new.kept);
}

-- ---- the three changes

-- the cover with a new listener, which is registered with the query's form
abbrev pub added : Cover → ℕ → Query → Cover
added c number query = with_listeners c (with_listener c.listeners number (form query))

-- the cover without these listeners
abbrev pub removed : Cover → List ℕ → Cover
removed c numbers = with_listeners c (without_listeners c.listeners numbers)

-- the listeners that are left when the listen with that tag is revoked: those of its form end
abbrev pub left_after : Cover → ℕ → List Registered
left_after c tag =
    option_map_or (λ k. without_form c.listeners k.form) (listen_at c tag) c.listeners

-- the listeners that end when it is
abbrev pub ended_by : Cover → ℕ → List ℕ
ended_by c tag = option_map_or (λ k. numbers_of c.listeners k.form) (listen_at c tag) []

-- the cover without the listeners whose form the listen with that tag is
abbrev pub revoked : Cover → ℕ → Cover
revoked c tag = with_listeners c (left_after c tag)

-- the same change, without a tag: who revoked it knows that it stops
abbrev pub without_tag : ℕ → Delta → Delta
without_tag tag d = record { started = d.started; stopped = filter (λ t. not (t == tag)) d.stopped }

-- ---- refusals

-- the refusal of a change to these listeners
abbrev pub fault_of : Cover → List Registered → Option CoverError
fault_of c listeners = if lacks_tag c listeners then Some NoTag else None

-- the refusal of a new listener
abbrev pub add_fault : Cover → ℕ → Query → Option CoverError
add_fault c number query = fault_of c (with_listener c.listeners number (form query))

-- whether one of the numbers is not registered
abbrev pub has_unknown : Cover → List ℕ → Bool
has_unknown c numbers = list_any (λ n. not (is_registered c.listeners n)) numbers

-- the numbers are those of the chosen listeners, and of no other
pub record AreChosen (c : Cover) (chosen : ℕ → Bool) (numbers : List ℕ) : Type 0 where
  pub registered : has_unknown c numbers ≡ false
  pub each : All (λ (l : Registered). list_any (λ n. n == l.0) numbers ≡ chosen l.0) c.listeners

-- the refusal of a removal
abbrev pub remove_fault : Cover → List ℕ → Option CoverError
remove_fault c numbers =
    if has_unknown c numbers then Some UnknownListener
    else fault_of c (without_listeners c.listeners numbers)

-- the refusal of a revocation
abbrev pub revoke_fault : Cover → ℕ → Option CoverError
revoke_fault c tag =
    option_map_or (λ k. fault_of c (left_after c tag)) (listen_at c tag) (Some UnknownTag)

-- a call fails by its refusal, or for want of memory
abbrev pub FailsBy : Option CoverError → CoverError → Type 0
FailsBy fault e = (fault ≡ Some e) ⊎ (e ≡ NoMemory)
