-- Outside examples, which the prover computes: what pushes and changes of cover leave.
use Rattle.std.specs.Prelude.{◌≡◌, ◌≢◌, ℕ, true, false, List, [], ◌∷◌, pos, Some, codes}
use Rattle.rt_tree.specs.Leaf.{number}
use Rattle.rt_tree.specs.Path.{path_keys}
use Rattle.rt_tree.specs.PathTree.{Path, PathTree, null, of_leaf, object}
use Rattle.rt_query.specs.declared.query.Limit.TheVariants.{First}
use Rattle.rt_query.specs.Drafts.{finished}
use Rattle.rt_query.specs.Queries.{Query, plain}
use Rattle.rt_query.specs.laws.Examples.{between}
use Rattle.rt_cache.specs.Brought.{Brought, nothing_brought, base, base_child, knows, push}
use Rattle.rt_cache.specs.Brought.{with_form, is_without_window}
use Rattle.rt_cache.specs.Recover.{recover, is_moved, without_places}
use Rattle.rt_cache.specs.Runs.{after_all, taken_all}
use Rattle.rt_cache.specs.declared.run.BroughtCall.{BroughtCall}
use Rattle.rt_cache.specs.declared.run.BroughtCall.TheVariants.{Put, Recover}

-- ---- short spellings

abbrev pub num : ℕ → PathTree
num n = of_leaf (number (pos n))

-- an object of two children
abbrev pub two : List ℕ → ℕ → List ℕ → ℕ → PathTree
two j m k n = object ((j, num m) ∷ (k, num n) ∷ [])

-- the path of a text
abbrev pub at : List ℕ → Path
at p = path_keys p

abbrev pub plain_at : List ℕ → Query
plain_at p = plain (at p)

-- the first n children there
abbrev pub first_at : ℕ → List ℕ → Query
first_at n p = record (plain_at p) { limit = Some (First n) }

-- ---- a listen at the root: a child is pushed, then its parent

abbrev pub parent_pushed : Brought
parent_pushed =
    let child = push (plain_at (codes "/")) nothing_brought (at (codes "/a/b"), num 1) in
    push (plain_at (codes "/")) child (at (codes "/a"), two (codes "b") 2 (codes "c") 3)

-- the parent's region takes in the child's
abbrev pub ParentTakesIn : Type 0
ParentTakesIn = parent_pushed
    ≡ record {
      registered = [];
      regions = (at (codes "/a"), two (codes "b") 2 (codes "c") 3) ∷ [];
      windows = [];
    }

-- a part of it is whole, and so is a child, also one that is not there
abbrev pub PartsAreWhole : Type 0
PartsAreWhole = base parent_pushed (plain_at (codes "/a/b"))
    ≡ Some (record { tree = num 2; whole = true })

abbrev pub ChildThere : Type 0
ChildThere = base_child parent_pushed (plain_at (codes "/a")) (codes "c")
    ≡ Some (record { tree = num 3; whole = true })

abbrev pub ChildNotThere : Type 0
ChildNotThere = base_child parent_pushed (plain_at (codes "/a")) (codes "z")
    ≡ Some (record { tree = null; whole = true })

-- where another listen is kept, only its part stays
abbrev pub parent_cut : Brought
parent_cut = recover (plain_at (codes "/a/c") ∷ []) (plain_at (codes "/a/c") ∷ []) parent_pushed

abbrev pub PartStays : Type 0
PartStays = parent_cut
    ≡ record {
      registered = plain_at (codes "/a/c") ∷ [];
      regions = (at (codes "/a/c"), num 3) ∷ [];
      windows = [];
    }

abbrev pub OtherIsLost : Type 0
OtherIsLost = knows parent_cut (plain_at (codes "/a/b")) ≡ false

-- ---- one value, whatever the order

abbrev pub both_kept : List Query
both_kept = plain_at (codes "/b") ∷ plain_at (codes "/a") ∷ []

-- a region is cut to two listens: the parts stand in the order of paths
abbrev pub cut_in_two : Brought
cut_in_two = recover both_kept both_kept (push (plain_at (codes "/")) nothing_brought
    (at (codes "/"), two (codes "b") 2 (codes "a") 1))

abbrev pub CutInOrder : Type 0
CutInOrder = cut_in_two
    ≡ record {
      registered = both_kept;
      regions = (at (codes "/a"), num 1) ∷ (at (codes "/b"), num 2) ∷ [];
      windows = [];
    }

-- two windows are listed alike, whichever came first
abbrev pub windows_pushed : Query → Query → Brought
windows_pushed q r = push r (push q nothing_brought (
  at (codes "/a"),
  two (codes "x") 1 (codes "y") 2,
)) (at (codes "/a"), two (codes "x") 1 (codes "y") 2)

abbrev pub ListedAlike : Type 0
ListedAlike = windows_pushed (first_at 1 (codes "/a")) (first_at 2 (codes "/a"))
    ≡ windows_pushed (first_at 2 (codes "/a")) (first_at 1 (codes "/a"))

-- ---- windows

-- a leaf leaves a window without children
abbrev pub leaf_pushed : Brought
leaf_pushed = push (first_at 2 (codes "/a")) (with_form (first_at 2 (codes "/a")) nothing_brought)
    (at (codes "/a"), num 7)

abbrev pub LeafShowsNothing : Type 0
LeafShowsNothing = base leaf_pushed (first_at 2 (codes "/a"))
    ≡ Some (record { tree = null; whole = false })

-- so a push below it is taken; without a window there is none to take it
abbrev pub TakenBelow : Type 0
TakenBelow = is_without_window leaf_pushed (first_at 2 (codes "/a")) (at (codes "/a/x"), num 1) ≡ false

abbrev pub StaleBelow : Type 0
StaleBelow = is_without_window nothing_brought (first_at 2 (codes "/a")) (at (codes "/a/x"), num 1)
    ≡ true

-- a region that is lost leaves a whole window, and a push below keeps the mark
abbrev pub whole_window : Brought
whole_window =
    let region = push (plain_at (codes "/a")) nothing_brought (at (codes "/a"), num 7) in
    let lost = recover (first_at 2 (codes "/a") ∷ []) (first_at 2 (codes "/a") ∷ []) region in
    push (first_at 2 (codes "/a")) lost (at (codes "/a/x"), num 1)

abbrev pub StaysWhole : Type 0
StaysWhole = base whole_window (first_at 2 (codes "/a"))
    ≡ Some (record { tree = object ((codes "x", num 1) ∷ []); whole = true })

-- a push at its path replaces it by one that is not whole
abbrev pub WholeNoMore : Type 0
WholeNoMore = base (push (first_at 2 (codes "/a")) whole_window (at (codes "/a"), num 7))
    (first_at 2 (codes "/a")) ≡ Some (record { tree = null; whole = false })

-- a new region takes the windows in
abbrev pub TakenIn : Type 0
TakenIn = push (plain_at (codes "/")) whole_window (at (codes "/"), num 7)
    ≡ record {
      registered = first_at 2 (codes "/a") ∷ [];
      regions = (at (codes "/"), num 7) ∷ [];
      windows = [];
    }

-- ---- runs of calls

-- on the listen of the root a child is pushed, then its parent; another child is listened to instead
abbrev pub row : List BroughtCall
row =
    Put (plain_at (codes "/")) (at (codes "/a/b")) (num 1)
    ∷ Put (plain_at (codes "/")) (at (codes "/a")) (two (codes "b") 2 (codes "c") 3)
    ∷ Recover (plain_at (codes "/a/c") ∷ []) (plain_at (codes "/a/c") ∷ [])
    ∷ []

abbrev pub RowRuns : Type 0
RowRuns =
    (after_all nothing_brought row ≡ record {
      registered = plain_at (codes "/a/c") ∷ [];
      regions = (at (codes "/a/c"), num 3) ∷ [];
      windows = [];
    })
    × (taken_all nothing_brought row ≡ true ∷ true ∷ true ∷ [])

-- it doesn't leave nothing, nor are there fewer answers than calls
abbrev pub RowDoesSomething : Type 0
RowDoesSomething = (after_all nothing_brought row ≢ nothing_brought)
    × (taken_all nothing_brought row ≢ [])

-- nor the child beside its parent, nor the parent behind the change of cover
abbrev pub NoRegionBeside : Type 0
NoRegionBeside =
    (after_all nothing_brought row ≢ record {
      registered = plain_at (codes "/a/c") ∷ [];
      regions =
          (at (codes "/a/b"), num 1) ∷ (at (codes "/a/c"), num 3) ∷ [];
      windows = [];
    })
    × (after_all nothing_brought row ≢ parent_pushed)

-- a window is pushed between two pushes below it, and its query ends
abbrev pub window_row : List BroughtCall
window_row =
    Put (first_at 2 (codes "/a")) (at (codes "/a/x")) (num 1)
    ∷ Put (first_at 2 (codes "/a")) (at (codes "/a")) (num 7)
    ∷ Put (first_at 2 (codes "/a")) (at (codes "/a/x")) (num 1)
    ∷ Recover [] []
    ∷ []

abbrev pub EndedWindowGoes : Type 0
EndedWindowGoes = after_all nothing_brought window_row ≡ nothing_brought

-- the first push is stale, and it alone
abbrev pub StaleOnce : Type 0
StaleOnce =
    (taken_all nothing_brought window_row ≡ false ∷ true ∷ true ∷ true ∷ [])
    × (taken_all nothing_brought window_row ≢ true ∷ true ∷ true ∷ true ∷ [])
    × (taken_all nothing_brought window_row ≢ false ∷ true ∷ false ∷ true ∷ [])

-- it leaves no window
abbrev pub StaleLeavesNothing : Type 0
StaleLeavesNothing =
    after_all nothing_brought (Put (first_at 2 (codes "/a")) (at (codes "/a/x")) (num 1) ∷ [])
    ≢ record {
      registered = [];
      regions = [];
      windows = (
        first_at 2 (codes "/a"),
        record {
          children = object ((codes "x", num 1) ∷ []);
          is_whole =
              false;
        },
      ) ∷ [];
    }

-- ---- ranges, by value at the root

-- startAt(1) endAt(9), startAt(3) endAt(20), and startAt(4) endAt(8), which both take in
abbrev pub first_range : Query
first_range = finished (between 1 9)

abbrev pub second_range : Query
second_range = finished (between 3 20)

abbrev pub narrow_range : Query
narrow_range = finished (between 4 8)

abbrev pub one : PathTree
one = object ((codes "p", num 5) ∷ [])

-- the first is pushed, and then the second
abbrev pub first_brought : Brought
first_brought = push first_range (recover (first_range ∷ second_range ∷ narrow_range ∷ [])
    (first_range ∷ second_range ∷ []) nothing_brought) ([], one)

abbrev pub both_brought : Brought
both_brought = push second_range first_brought ([], two (codes "p") 5 (codes "r") 6)

-- the narrow one has what the first brought
abbrev pub NarrowHasFirst : Type 0
NarrowHasFirst = (base first_brought narrow_range ≡ Some (record { tree = one; whole = false }))
    × (base both_brought narrow_range ≡ Some (record { tree = one; whole = false }))

-- and once that goes what the second brought: it is moved
abbrev pub second_left : Brought
second_left = recover (second_range ∷ narrow_range ∷ []) (second_range ∷ []) both_brought

abbrev pub NarrowIsMoved : Type 0
NarrowIsMoved =
    (base second_left narrow_range
    ≡ Some (record { tree = two (codes "p") 5 (codes "r") 6; whole = false }))
    × (is_moved both_brought second_left narrow_range ≡ true)

-- so it is too where the first stays, but one of its listeners, before all of the second's, goes
abbrev pub first_twice : Brought
first_twice = with_form first_range both_brought

abbrev pub NarrowIsMovedThough : Type 0
NarrowIsMovedThough =
    let least_gone = recover (without_places (0 ∷ []) first_twice.registered)
    (first_range ∷ second_range ∷ []) first_twice in
    (least_gone.windows ≡ first_twice.windows)
    × (base first_twice narrow_range ≡ Some (record { tree = one; whole = false }))
    × (base least_gone narrow_range
    ≡ Some (record { tree = two (codes "p") 5 (codes "r") 6; whole = false }))
    × (is_moved first_twice least_gone narrow_range ≡ true)

-- where there is no other it gets the window of the first, which is not whole: it is not moved
abbrev pub narrow_left : Brought
narrow_left = recover (narrow_range ∷ []) (narrow_range ∷ []) first_brought

abbrev pub NarrowInherits : Type 0
NarrowInherits =
    (narrow_left.windows ≡ (narrow_range, record { children = one; is_whole = false }) ∷ [])
    × (is_moved first_brought narrow_left narrow_range ≡ false)

-- a region that is lost leaves a whole window to the wider one alone, which the narrow one has too
abbrev pub region_lost : Brought
region_lost = recover (narrow_range ∷ first_range ∷ []) (first_range ∷ [])
    (push (plain []) (recover (plain [] ∷ narrow_range ∷ first_range ∷ []) (plain [] ∷ []) nothing_brought)
    ([], one))

abbrev pub WiderInherits : Type 0
WiderInherits =
    (region_lost.windows ≡ (first_range, record { children = one; is_whole = true }) ∷ [])
    × (base region_lost narrow_range ≡ Some (record { tree = one; whole = true }))

-- a window of the narrow one goes with the push of one that takes it in
abbrev pub narrow_first : Brought
narrow_first = push narrow_range (recover (narrow_range ∷ []) (narrow_range ∷ []) nothing_brought)
    ([], two (codes "p") 5 (codes "r") 6)

abbrev pub OldWindowGoes : Type 0
OldWindowGoes =
    (push first_range (recover (narrow_range ∷ first_range ∷ []) (first_range ∷ []) narrow_first)
    ([], one)).windows
    ≡ (first_range, record { children = one; is_whole = false }) ∷ []
