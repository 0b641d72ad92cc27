-- What calls must not leave for a filtered query: none of these is told by them.
use Rattle.std.specs.Prelude.{◌≡◌, true, false, List, [], ◌∷◌, ◌++◌, Option, Some, None, codes}
use Rattle.rt_tree.specs.PathTree.{PathTree, object}
use Rattle.rt_query.specs.Queries.{Query, plain}
use Rattle.rt_cache.specs.Brought.{Base}
use Rattle.rt_cache.specs.laws.Examples.{num, two, one, at, plain_at, first_at}
use Rattle.rt_cache.specs.laws.Examples.{first_range, second_range, narrow_range}
use Rattle.rt_cache.specs.laws.Windows.{held_by, seen}
use Rattle.rt_cache.specs.declared.run.BroughtCall.{BroughtCall}
use Rattle.rt_cache.specs.declared.run.BroughtCall.TheVariants.{Put, Recover}

-- what calls tell of a query
abbrev pub told : List BroughtCall → Query → Option Base
told calls q = seen calls (held_by calls) q

-- they don't tell this of it, or that it holds this
abbrev pub Never : List BroughtCall → Query → Option Base → Type 0
Never calls q base = told calls q ≡ base → ⊥

abbrev pub NeverHolds : List BroughtCall → Query → Option Base → Type 0
NeverHolds calls q base = held_by calls q ≡ base → ⊥

-- the first two children of /a
abbrev pub first_two : Query
first_two = first_at 2 (codes "/a")

-- some children, and all
abbrev pub partly : PathTree → Option Base
partly t = Some (record { tree = t; whole = false })

abbrev pub wholly : PathTree → Option Base
wholly t = Some (record { tree = t; whole = true })

-- x, y and z
abbrev pub three : PathTree
three = object ((codes "x", num 1) ∷ (codes "y", num 2) ∷ (codes "z", num 3) ∷ [])

abbrev pub only_z : PathTree
only_z = object ((codes "z", num 3) ∷ [])

-- it gives way to a plain listen over all
abbrev pub over_all : BroughtCall
over_all = Recover (first_two ∷ plain_at (codes "/") ∷ []) (plain_at (codes "/") ∷ [])

-- z is pushed
abbrev pub z_pushed : List BroughtCall
z_pushed = Put first_two (at (codes "/a/z")) (num 3) ∷ []

-- ---- x and y are pushed at its path, and then z

abbrev pub shown : List BroughtCall
shown =
    Recover (first_two ∷ []) (first_two ∷ [])
    ∷ Put first_two (at (codes "/a")) (two (codes "x") 1 (codes "y") 2)
    ∷ z_pushed

-- nothing happens
abbrev pub NothingShown : Type 0
NothingShown = Never shown first_two None

-- z is dropped, or is all
abbrev pub PushDropped : Type 0
PushDropped = Never shown first_two (partly (two (codes "x") 1 (codes "y") 2))

abbrev pub PushReplaces : Type 0
PushReplaces = Never shown first_two (partly only_z)

-- it is whole, though no region was there
abbrev pub WholeAtOnce : Type 0
WholeAtOnce = Never shown first_two (wholly three)

-- ---- a plain listen pushed x and y, and gives way to it; then z is pushed

abbrev pub lost : List BroughtCall
lost =
    over_all
    ∷ Put (plain_at (codes "/")) (at (codes "/a")) (two (codes "x") 1 (codes "y") 2)
    ∷ Recover (first_two ∷ []) (first_two ∷ [])
    ∷ z_pushed

-- the region leaves nothing, or leaves a window that is not whole, or z alone
abbrev pub RegionForgotten : Type 0
RegionForgotten = Never lost first_two None

abbrev pub NotWhole : Type 0
NotWhole = Never lost first_two (partly three)

abbrev pub RegionDropped : Type 0
RegionDropped = Never lost first_two (wholly only_z)

-- ---- and then it is replaced by z

abbrev pub replaced : List BroughtCall
replaced = lost ++ Put first_two (at (codes "/a")) only_z ∷ []

-- it stays whole, or keeps the children from before
abbrev pub StillWhole : Type 0
StillWhole = Never replaced first_two (wholly only_z)

abbrev pub StillThere : Type 0
StillThere = Never replaced first_two (partly three)

-- ---- what was shown, behind the query's end and under a new region

-- it stays though it is not registered
abbrev pub StaysAfterEnd : Type 0
StaysAfterEnd = Never (shown ++ Recover [] [] ∷ []) first_two (partly three)

-- it hides what a plain listen pushed over it
abbrev pub HidesRegion : Type 0
HidesRegion = Never (shown ++ over_all ∷ Put (plain_at (codes "/")) (at (codes "/")) only_z ∷ []) first_two
    (partly three)

-- ---- two ranges that take in a narrow one; a push on the first

abbrev pub pushed_first : List BroughtCall
pushed_first =
    Recover (first_range ∷ second_range ∷ narrow_range ∷ []) (first_range ∷ second_range ∷ [])
    ∷ Put first_range [] one
    ∷ []

-- the narrow one waits for a push of its own, or holds the children itself
abbrev pub NarrowWaits : Type 0
NarrowWaits = Never pushed_first narrow_range None

abbrev pub NarrowHolds : Type 0
NarrowHolds = NeverHolds pushed_first narrow_range (partly one)

-- the second, which the first doesn't take in, is shown from it
abbrev pub SecondShows : Type 0
SecondShows = Never pushed_first second_range (partly one)

-- ---- a push on the second too

abbrev pub five_and_six : PathTree
five_and_six = two (codes "p") 5 (codes "r") 6

abbrev pub pushed_both : List BroughtCall
pushed_both = pushed_first ++ Put second_range [] five_and_six ∷ []

-- the narrow one is shown from the one that was pushed last
abbrev pub LastIsShown : Type 0
LastIsShown = Never pushed_both narrow_range (partly five_and_six)

-- and from the first still, once that ends
abbrev pub first_ends : List BroughtCall
first_ends = Recover (second_range ∷ narrow_range ∷ []) (second_range ∷ []) ∷ []

abbrev pub EndedShows : Type 0
EndedShows = Never (pushed_both ++ first_ends) narrow_range (partly one)

-- ---- the first ends, with no push on the second

abbrev pub handed : List BroughtCall
handed = pushed_first ++ first_ends

-- the children go, though the narrow one had them; they are taken for all; the second gets them, or
-- the ended one has them still
abbrev pub HandedIsLost : Type 0
HandedIsLost = Never handed narrow_range None

abbrev pub HandedIsWhole : Type 0
HandedIsWhole = Never handed narrow_range (wholly one)

abbrev pub SecondInherits : Type 0
SecondInherits = Never handed second_range (partly one)

abbrev pub EndedHolds : Type 0
EndedHolds = NeverHolds handed first_range (partly one)

-- ---- a plain listen's push is lost over the first and the narrow one, then the first is pushed

abbrev pub region_gone : List BroughtCall
region_gone =
    Recover (plain [] ∷ narrow_range ∷ first_range ∷ []) (plain [] ∷ [])
    ∷ Put (plain []) [] five_and_six
    ∷ Recover (narrow_range ∷ first_range ∷ []) (first_range ∷ [])
    ∷ []

-- the narrow one, which is registered first, gets the children, beside the wider one or alone
abbrev pub NarrowerInherits : Type 0
NarrowerInherits = NeverHolds region_gone narrow_range (wholly five_and_six)

abbrev pub WiderIsPassedOver : Type 0
WiderIsPassedOver = Never region_gone first_range None

-- the wider one doesn't get all of them
abbrev pub WiderIsPart : Type 0
WiderIsPart = Never region_gone first_range (partly five_and_six)

-- the push leaves the narrow one what it was shown
abbrev pub OldIsShown : Type 0
OldIsShown = Never (region_gone ++ Put first_range [] one ∷ []) narrow_range (wholly five_and_six)

-- ---- the narrow one is pushed; then a wider one comes, and is pushed

abbrev pub wider_comes : List BroughtCall
wider_comes =
    Recover (narrow_range ∷ []) (narrow_range ∷ [])
    ∷ Put narrow_range [] five_and_six
    ∷ Recover (narrow_range ∷ first_range ∷ []) (first_range ∷ [])
    ∷ []

-- the wider one has what the narrow one holds, or the narrow one loses it at once
abbrev pub WiderIsShown : Type 0
WiderIsShown = Never wider_comes first_range (partly five_and_six)

abbrev pub NarrowIsLost : Type 0
NarrowIsLost = Never wider_comes narrow_range None

-- it holds it still, behind a push on the wider one
abbrev pub OldIsHeld : Type 0
OldIsHeld = NeverHolds (wider_comes ++ Put first_range [] one ∷ []) narrow_range (partly five_and_six)
