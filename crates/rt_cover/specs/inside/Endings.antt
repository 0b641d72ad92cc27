-- The listeners that a change ends, and those for which a listen starts then.
use Rattle.std.specs.Prelude.{◌≡◌, ℕ, Bool, true, false, ◌&&◌, ◌==◌, not, nat_lt, if◌then◌else◌, List}
use Rattle.std.specs.List.{filter, find, list_any, Contains}
use Rattle.std.specs.Option.{option_map_or}
use Rattle.rt_tree.specs.PathTree.{Path, path_eq}
use Rattle.rt_query.specs.Queries.{Query, is_filtered}
use Rattle.rt_query.specs.QueryEq.{query_eq}
use Rattle.rt_query.specs.Supply.{does_supply}
use Rattle.rt_cover.specs.declared.listen.Kept.{Kept}
use Rattle.rt_cover.specs.Cover.{Registered, Tagged, is_kept}

-- whether a listener ends, by its number
abbrev pub by_number : (ℕ → Bool) → Registered → Bool
by_number ended = λ l. ended l.0

-- the listeners that are left, by whether one ends
abbrev pub left : (Registered → Bool) → List Registered → List Registered
left ends listeners = filter (λ l. not (ends l)) listeners

-- whether m's listen does for l too
abbrev pub comes_before : Registered → Registered → Bool
comes_before m l = if query_eq m.1 l.1 then nat_lt m.0 l.0 else does_supply m.1 l.1

-- whether that holds of a listener that is left
abbrev pub is_replaced : (Registered → Bool) → List Registered → Registered → Bool
is_replaced ends listeners l = list_any (λ m. not (ends m) && comes_before m l) listeners

-- whether a listen starts for l
abbrev pub starts : (Registered → Bool) → List Tagged → List Registered → Registered → Bool
starts ends kept listeners l =
    not (ends l) && (not (is_kept kept l.1) && not (is_replaced ends listeners l))

-- ---- what the end makes of the listens kept

-- whether a listener that is left has the form
abbrev pub is_left_form : (Registered → Bool) → List Registered → Query → Bool
is_left_form ends listeners f = list_any (λ l. query_eq l.1 f && not (ends l)) listeners

-- the kept listens whose form no listener has that is left
abbrev pub lost : (Registered → Bool) → List Tagged → List Registered → List Tagged
lost ends kept listeners = filter (λ k. not (is_left_form ends listeners k.form)) kept

-- whether no listener of a lesser number has the listener's form
abbrev pub is_first : List Registered → Registered → Bool
is_first listeners l = not (list_any (λ m. query_eq m.1 l.1 && nat_lt m.0 l.0) listeners)

-- whether the listen is lost by the end of the listener of that number, the first of its form, and its
-- tag passes a test
abbrev pub is_lost_by : (Registered → Bool) → List Registered → (ℕ → Bool) → ℕ → Tagged → Bool
is_lost_by ends listeners p n k =
    list_any (λ l. n == l.0 && (query_eq l.1 k.form && is_first listeners l)) listeners
    && (not (is_left_form ends listeners k.form) && p k.tag)

-- for whom listens start
abbrev pub beginners : (Registered → Bool) → List Tagged → List Registered → List Registered
beginners ends kept listeners = filter (starts ends kept listeners) listeners

-- whether the listen supplies the form of a listener whose number passes a test
abbrev pub has_supplied : List Registered → (ℕ → Bool) → Tagged → Bool
has_supplied listeners t k = list_any (λ l. does_supply k.form l.1 && t l.0) listeners

-- whether a listen is one of a range at a path
abbrev pub is_range_at : Path → Tagged → Bool
is_range_at path k = is_filtered k.form && path_eq (k.form).path path

-- whether a listen starts for one whose number passes a test, and which a lost listen supplied
abbrev pub begins_after : (Registered → Bool) → List Registered → (ℕ → Bool) → Tagged → Bool
begins_after ends listeners p k = list_any (λ l. does_supply k.form l.1
    && ((not (ends l) && not (is_replaced ends listeners l)) && p l.0)) listeners

-- whether one of that number is registered, for whom a listen starts, and the number passes a test
abbrev pub begins_at : (Registered → Bool) → List Registered → (ℕ → Bool) → ℕ → Bool
begins_at ends listeners p n =
    option_map_or (λ l. (not (ends l) && not (is_replaced ends listeners l)) && p n)
    (find (λ l. l.0 == n) listeners) false

-- a test holds of the number of no listener but of one for whom a listen starts
abbrev pub IsOfBeginners : (ℕ → Bool) → List Registered → (ℕ → Bool) → Type 0
IsOfBeginners ended listeners t = (l : Registered) → Contains listeners l → t l.0 ≡ true
    → (ended l.0 ≡ false) × (is_replaced (by_number ended) listeners l ≡ false)

-- a listen that starts, by its tag and its listener, and as it is told
abbrev pub tagged_of : ℕ × Registered → Tagged
tagged_of n = record { tag = n.0; form = (n.1).1 }

abbrev pub told_of : ℕ × Registered → Kept
told_of n = record { tag = n.0; query = (n.1).1; listener = (n.1).0 }
