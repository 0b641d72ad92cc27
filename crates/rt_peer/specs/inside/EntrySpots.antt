-- Where the entries of actions stand by path.
use Rattle.std.specs.Prelude.{◌≡◌, ℕ, Bool, true, false, ◌==◌, ◌&&◌, List}
use Rattle.std.specs.List.{All, list_any}
use Rattle.std.specs.Ordering.{nat_cmp, on, then_cmp, is_eq}
use Rattle.std.specs.Cmp.{IsTotalOrder, nat_cmp_total, on_total, then_total}
use Rattle.std.specs.declared.cmp.Ordering.{Ordering}
use Rattle.rt_tree.specs.PathTree.{Path, path_cmp, paths_total}
use Rattle.rt_tree.specs.Assignments.{Assignment, is_at_or_above}
use Rattle.rt_peer.specs.declared.actions.ActionKey.{ActionKey}
use Rattle.rt_peer.specs.declared.listens.EntrySpot.{EntrySpot}
use Rattle.rt_peer.specs.inside.Placed.{has_place, place_cmp, places_total, PlacedActions}

-- by connection, then by path, and then by the place of the action
abbrev pub entry_spot_cmp : EntrySpot → EntrySpot → Ordering
entry_spot_cmp =
    then_cmp (on (λ s. s.place.connection) nat_cmp) (then_cmp (on (λ s. s.path) path_cmp) (on (λ s. s.place) place_cmp))

pub entry_spots_total : IsTotalOrder entry_spot_cmp
entry_spots_total =
    then_total (on_total (λ s. s.place.connection) nat_cmp_total)
    (then_total (on_total (λ s. s.path) paths_total) (on_total (λ s. s.place) places_total))

-- whether the spot of an action's entry is among these
abbrev pub has_entry_spot : List EntrySpot → ActionKey → Path → Bool
has_entry_spot spots p q = list_any (λ s. is_eq (entry_spot_cmp (record { place = p; path = q }) s)) spots

-- whether a spot is the connection's, at or below a path
abbrev pub is_under : ℕ → Path → EntrySpot → Bool
is_under n q s = s.place.connection == n && is_at_or_above q s.path

-- what was among the first is among the second
abbrev pub AreSpotsKept : List EntrySpot → List EntrySpot → Type 0
AreSpotsKept old new = (p : ActionKey) (q : Path) → has_entry_spot old p q ≡ true → has_entry_spot new p q ≡ true

-- or it is of an action's place, and at or below a path
abbrev pub AreOthersKept : ActionKey → Path → List EntrySpot → List EntrySpot → Type 0
AreOthersKept at under old new = (p : ActionKey) (q : Path)
    → (is_eq (place_cmp at p) && is_at_or_above under q) ≡ false
    → has_entry_spot old p q ≡ true → has_entry_spot new p q ≡ true

-- each entry of an action has its spot among these
abbrev pub HasSpots : List EntrySpot → ActionKey × List Assignment → Type 0
HasSpots spots e = All (λ a. has_entry_spot spots e.0 a.0 ≡ true) e.1

abbrev pub AllSpotted : List EntrySpot → PlacedActions → Type 0
AllSpotted spots es = All (HasSpots spots) es

-- the place of each spot of the connection at or below a path is among these
abbrev pub AreListedUnder : ℕ → Path → List ActionKey → List EntrySpot → Type 0
AreListedUnder n q places spots = All (λ s. is_under n q s ≡ true → has_place places s.place ≡ true) spots
