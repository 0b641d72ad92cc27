-- Of the filtered forms of a path the widest ones that are left: where the widest of those up to a place stands.
use Rattle.std.specs.Prelude.{◌≡◌, ◌+◌, ◌<◌, ◌&&◌, ℕ, Bool, true, false, not, List, length, take, slice_index_or, Option, Some, None, IfSome}
use Rattle.std.specs.List.{list_any, All, AllWithin, Contains}
use Rattle.std.specs.Ordering.{is_lt, is_gt}
use Rattle.rt_tree.specs.PathTree.{Path, path_eq}
use Rattle.rt_query.specs.Queries.{Query, is_filtered}
use Rattle.rt_query.specs.QueryEq.{query_eq}
use Rattle.rt_query.specs.QueryOrder.{query_cmp, unlimited}
use Rattle.rt_query.specs.Ranges.{takes_in}
use Rattle.rt_forms.specs.Order.{AreInOrder}
use Rattle.rt_cover.specs.Cover.{Registered}

-- a filtered form with the numbers of its listeners
abbrev pub Entry : Type 0
Entry = Query × List ℕ

-- whether the listener of one of the numbers is left
abbrev pub has_left : (ℕ → Bool) → Entry → Bool
has_left ended e = list_any (λ m. not (ended m)) e.1

-- whether one of these is left and takes in the query
abbrev pub is_taken_in : (ℕ → Bool) → Query → List Entry → Bool
is_taken_in ended q es = list_any (λ e. takes_in e.0 q && has_left ended e) es

-- whether the form at a place takes it in
abbrev pub is_taken_in_at : List Entry → Entry → Query → Option ℕ → Bool
is_taken_in_at es d q None = false
is_taken_in_at es d q (Some w) = takes_in (slice_index_or es w d).0 q

-- whether the form at a place is another one that takes it in
abbrev pub is_wider_at : List Entry → Entry → Query → Option ℕ → Bool
is_wider_at es d q None = false
is_wider_at es d q (Some w) = takes_in (slice_index_or es w d).0 q && not (query_eq (slice_index_or es w d).0 q)

-- whether the form at another place, if any, doesn't take in that at the place, and this one is left
abbrev pub leads : (ℕ → Bool) → List Entry → Entry → ℕ → Option ℕ → Bool
leads ended es d place o =
    not (is_wider_at es d (slice_index_or es place d).0 o) && has_left ended (slice_index_or es place d)

-- a test holds of a number of no form that isn't left, or that another one takes in which is left
abbrev pub IsOfTops : (ℕ → Bool) → List Entry → (ℕ → Bool) → Type 0
IsOfTops ended es t = (e : Entry) → Contains es e → list_any t e.1 ≡ true → (has_left ended e ≡ true)
    × ((f : Entry) → Contains es f → has_left ended f ≡ true → (takes_in f.0 e.0 && not (query_eq f.0 e.0)) ≡ false)

-- no form of the first ones stands further than the query would without its limit
abbrev pub AreUpTo : List Entry → Query → ℕ → Type 0
AreUpTo es q n = AllWithin (λ e. is_gt (query_cmp e.0 (unlimited q)) ≡ false) es 0 n

-- of the first forms one that is left takes in a query, if this one does
abbrev pub IsWidest : (ℕ → Bool) → List Entry → ℕ → Option ℕ → Type 0
IsWidest ended es n o = (q : Query) (d : Entry) → AreUpTo es q n → is_taken_in ended q (take n es) ≡ is_taken_in_at es d q o

-- the place stands among the first ones
abbrev pub IsAmong : ℕ → Option ℕ → Type 0
IsAmong n o = IfSome o (λ w. w < n)

-- after each form the place of the widest one so far
pub record AreWidest (ended : ℕ → Bool) (es : List Entry) (places : List (Option ℕ)) : Type 0 where
  pub len : length places ≡ length es
  pub among : All (IsAmong (length es)) places
  pub each : (n : ℕ) (o : Option ℕ) → n < length es → IsWidest ended es (n + 1) (slice_index_or places n o)

-- whether a form stands in front of the query's, and no further than that would without its limit
abbrev pub is_in_front : Query → Entry → Bool
is_in_front q e = is_lt (query_cmp e.0 q) && not (is_gt (query_cmp e.0 (unlimited q)))

-- these are the filtered forms of a path that the listeners have, and the places of the widest
pub record IsOfPath (ended : ℕ → Bool) (listeners : List Registered) (path : Path) (es : List Entry) (places : List (Option ℕ)) : Type 0 where
  pub forms : (s : Query → Bool) (t : ℕ → Bool) → list_any (λ e. s e.0 && list_any t e.1) es
      ≡ list_any (λ l. (is_filtered l.1 && path_eq (l.1).path path) && (s l.1 && t l.0)) listeners
  pub order : AreInOrder es
  pub widest : AreWidest ended es places
