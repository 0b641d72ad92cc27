-- Where the actions of connections stand.
use Rattle.std.specs.Prelude.{◌≡◌, ◌<◌, ℕ, Bool, true, not, ◌==◌, ◌&&◌, if◌then◌else◌, List, [], ◌∷◌, map, Option}
use Rattle.std.specs.List.{All, filter, list_any, slice_get}
use Rattle.std.specs.List.Sorted.{IsStrictlySortedBy}
use Rattle.std.specs.Map.{keys_of}
use Rattle.std.specs.Option.{option_map}
use Rattle.std.specs.Ordering.{nat_cmp, on, then_cmp, is_eq}
use Rattle.std.specs.Cmp.{IsTotalOrder, nat_cmp_total, on_total, then_total}
use Rattle.std.specs.declared.cmp.Ordering.{Ordering}
use Rattle.rt_tree.specs.PathTree.{Path}
use Rattle.rt_tree.specs.Assignments.{Assignment, is_at_or_above}
use Rattle.rt_peer.specs.Peers.{Deferred}
use Rattle.rt_writes.specs.Writes.{IsShallow}
use Rattle.rt_peer.specs.Calls.{is_empty}
use Rattle.rt_peer.specs.inside.Counts.{AreCountedBy}
use Rattle.rt_peer.specs.declared.actions.ActionKey.{ActionKey}

-- by connection, by number, and then by arrival
abbrev pub place_cmp : ActionKey → ActionKey → Ordering
place_cmp =
    then_cmp (on (λ p. p.connection) nat_cmp) (then_cmp (on (λ p. p.id) nat_cmp) (on (λ p. p.arrival) nat_cmp))

pub places_total : IsTotalOrder place_cmp
places_total =
    then_total (on_total (λ p. p.connection) nat_cmp_total)
    (then_total (on_total (λ p. p.id) nat_cmp_total) (on_total (λ p. p.arrival) nat_cmp_total))

-- actions at their places
abbrev pub PlacedActions : Type 0
PlacedActions = List (ActionKey × List Assignment)

abbrev pub deferred_of : ActionKey × List Assignment → Deferred
deferred_of e = record { connection = e.0.connection; id = e.0.id; entries = e.1 }

abbrev pub deferreds_of : PlacedActions → List Deferred
deferreds_of es = map deferred_of es

-- actions that rise by place
abbrev pub AreByPlace : PlacedActions → Type 0
AreByPlace es = IsStrictlySortedBy place_cmp (keys_of es)

-- whether the place is among these
abbrev pub has_place : List ActionKey → ActionKey → Bool
has_place ps p = list_any (λ q. is_eq (place_cmp p q)) ps

-- whose action it is
abbrev pub whose : ActionKey × List Assignment → ℕ
whose e = e.0.connection

-- whether it is the connection's
abbrev pub is_of : ℕ → ActionKey × List Assignment → Bool
is_of n e = whose e == n

-- the place of the connection's first action, if there is one
abbrev pub first_own : ℕ → PlacedActions → Option ActionKey
first_own n es = option_map (λ e. e.0) (slice_get (filter (is_of n) es) 0)

-- whether an action has no entries
abbrev pub is_bare : ActionKey × List Assignment → Bool
is_bare e = is_empty e.1

-- the place of each action without entries is among these; what else is among them leads to nothing
abbrev pub AllMarked : List ActionKey → PlacedActions → Type 0
AllMarked ps es = All (λ e. is_bare e ≡ true → has_place ps e.0 ≡ true) es

-- entries without those at and below a path
abbrev pub apart : Path → List Assignment → List Assignment
apart p entries = filter (λ e. not (is_at_or_above p e.0)) entries

-- whether it is the connection's action, with an entry at or below the path
abbrev pub is_dirty : ℕ → Path → ActionKey × List Assignment → Bool
is_dirty n p e = is_of n e && list_any (λ a. is_at_or_above p a.0) e.1

-- each such action's place is among these
abbrev pub AreListed : ℕ → Path → List ActionKey → PlacedActions → Type 0
AreListed n p ps es = All (λ e. is_dirty n p e ≡ true → has_place ps e.0 ≡ true) es

-- the actions once the one at a place has lost its entries at and below a path, and is gone where none is left
abbrev pub cut_at : ActionKey → Path → PlacedActions → PlacedActions
cut_at at p [] = []
cut_at at p (e ∷ es) =
    if is_eq (place_cmp at e.0)
    then (if is_empty (apart p e.1) then es else (e.0, apart p e.1) ∷ es)
    else e ∷ cut_at at p es

-- the actions without the one at a place, where it has no entries
abbrev pub without_bare : ActionKey → PlacedActions → PlacedActions
without_bare at [] = []
without_bare at (e ∷ es) =
    if is_eq (place_cmp at e.0) && is_bare e then es else e ∷ without_bare at es

-- what is kept of the actions: in order, each of which came before so many, and may be put; those without entries are
-- marked, and each connection has so many
pub record AreKept (es : PlacedActions) (empty : List ActionKey) (counts : List (ℕ × ℕ)) (arrived : ℕ) : Type 0 where
  pub order : AreByPlace es
  pub came : All (λ e. e.0.arrival < arrived) es
  pub shallow : All (λ e. All IsShallow e.1) es
  pub marked : AllMarked empty es
  pub counted : AreCountedBy counts es whose
