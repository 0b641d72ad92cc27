-- Outside examples, which the prover computes.
use Rattle.std.specs.Prelude.{◌≡◌, ℕ, Bool, false, true, List, [], ◌∷◌, map, pos, negsuc, Option, Some}
use Rattle.std.specs.Prelude.{None, codes}
use Rattle.rt_tree.specs.Leaf.{truth, number, text}
use Rattle.rt_tree.specs.PathTree.{Key, PathTree, of_leaf, object}
use Rattle.rt_order.specs.declared.index.Index.TheVariants as index
use Rattle.rt_order.specs.declared.cut.Mark.{Mark}
use Rattle.rt_order.specs.declared.cut.Mark.TheVariants as mark
use Rattle.rt_query.specs.declared.error.QueryError.TheVariants.{OrderTwice, StartTwice, EndTwice}
use Rattle.rt_query.specs.declared.error.QueryError.TheVariants.{LimitTwice, LimitZero, NeedsText}
use Rattle.rt_query.specs.declared.error.QueryError.TheVariants.{KeyNotAllowed, NoOrder}
use Rattle.rt_query.specs.declared.error.QueryError.TheVariants.{BadBoundKey}
use Rattle.rt_query.specs.declared.query.Limit.TheVariants.{First, Last}
use Rattle.rt_query.specs.Bounds.{Bound, start_at, start_after, end_at, end_before, equal_to}
use Rattle.rt_query.specs.Calls.{ordered_by, order_refusal, limited_to, limit_refusal, bounded_by}
use Rattle.rt_query.specs.Calls.{bound_refusal}
use Rattle.rt_query.specs.Drafts.{Draft, new_draft, finished}
use Rattle.rt_query.specs.Needed.{needed}
use Rattle.rt_query.specs.Queries.{Query, plain}
use Rattle.rt_query.specs.Ranges.{takes_in}
use Rattle.rt_query.specs.Select.{select}
use Rattle.rt_query.specs.Supply.{does_supply}

-- drafts of the root: without an order, in key order, in value order
abbrev pub fresh : Draft
fresh = new_draft []

abbrev pub by_key : Draft
by_key = ordered_by index.Key fresh

abbrev pub by_value : Draft
by_value = ordered_by index.Value fresh

-- a number and a text to bound by
abbrev pub numbered : ℕ → Mark
numbered n = mark.Leaf (number (pos n))

abbrev pub worded : List ℕ → Mark
worded bytes = mark.Leaf (text bytes)

-- the keys that a draft's query shows, in order
abbrev pub keys_shown : Draft → PathTree → List Key
keys_shown d t = map (λ row. row.key) ((select (finished d) t).rows)

-- keys of one letter
abbrev pub letters : List ℕ → List Key
letters cs = map (λ c. c ∷ []) cs

-- ---- by a child: null, false, true, numbers, texts, objects

-- {"v": t}
abbrev pub with_v : PathTree → PathTree
with_v t = object ((codes "v", t) ∷ [])

-- {"a":{"v":{"z":1}},"b":{"v":"9"},"c":{"v":10},"d":{"v":-3},"e":{"v":true},"f":{"v":false},"g":1}
abbrev pub mixed : PathTree
mixed = object (
    (codes "a", with_v (object ((codes "z", of_leaf (number (pos 1))) ∷ []))) ∷ (
      codes "b",
      with_v (of_leaf (text (codes "9"))),
    )
    ∷ (codes "c", with_v (of_leaf (number (pos 10)))) ∷ (
      codes "d",
      with_v (of_leaf (number (negsuc 2))),
    )
    ∷ (codes "e", with_v (of_leaf (truth true))) ∷ (
      codes "f",
      with_v (of_leaf (truth false)),
    ) ∷ (codes "g", of_leaf (number (pos 1))) ∷ [])

abbrev pub ByChild : Type 0
ByChild = keys_shown (ordered_by (index.Child (codes "v" ∷ [])) fresh) mixed ≡ letters (codes "gfedcba")

-- ---- bounds among equal values

-- {"j":5,"k":5,"l":5,"m":5}
abbrev pub fives : PathTree
fives = object (map (λ k. (k, of_leaf (number (pos 5)))) (letters (codes "jklm")))

-- the children by value that a bound at 5 shows
abbrev pub among_fives : Bound → Option Key → List Key
among_fives b key = keys_shown (bounded_by b (numbered 5) key by_value) fives

-- startAt(5) and startAfter(5); with the key "k" besides
abbrev pub StartsAtValue : Type 0
StartsAtValue = among_fives start_at None ≡ letters (codes "jklm")

abbrev pub StartsAfterValue : Type 0
StartsAfterValue = among_fives start_after None ≡ []

abbrev pub StartsAtKey : Type 0
StartsAtKey = among_fives start_at (Some (codes "k")) ≡ letters (codes "klm")

abbrev pub StartsAfterKey : Type 0
StartsAfterKey = among_fives start_after (Some (codes "k")) ≡ letters (codes "lm")

-- endAt(5,"k"), endBefore(5,"k") and equalTo(5,"k")
abbrev pub EndsAtKey : Type 0
EndsAtKey = among_fives end_at (Some (codes "k")) ≡ letters (codes "jk")

abbrev pub EndsBeforeKey : Type 0
EndsBeforeKey = among_fives end_before (Some (codes "k")) ≡ letters (codes "j")

abbrev pub EqualsKey : Type 0
EqualsKey = among_fives equal_to (Some (codes "k")) ≡ letters (codes "k")

-- startAt(5) with limitToLast(2), and with limitToFirst(2)
abbrev pub LastTwo : Type 0
LastTwo =
    keys_shown (limited_to (Last 2) (bounded_by start_at (numbered 5) None by_value)) fives
    ≡ letters (codes "lm")

abbrev pub FirstTwo : Type 0
FirstTwo =
    keys_shown (limited_to (First 2) (bounded_by start_at (numbered 5) None by_value)) fives
    ≡ letters (codes "jk")

-- startAt("b") in key order over {"a":1,"b":2,"10":3}
abbrev pub StartsAtText : Type 0
StartsAtText =
    keys_shown (bounded_by start_at (worded (codes "b")) None by_key) (object (
    (codes "10", of_leaf (number (pos 3))) ∷ (codes "a", of_leaf (number (pos 1))) ∷ (
      codes "b",
      of_leaf (number (pos 2)),
    ) ∷ []))
    ≡ letters (codes "b")

-- ---- refusals

-- an order, and a limit, after another, and a limit of 0
abbrev pub GivenTwice : Type 0
GivenTwice =
    order_refusal by_key ∷ limit_refusal 1 (limited_to (First 1) fresh) ∷ limit_refusal 0 fresh ∷ []
    ≡ Some OrderTwice ∷ Some LimitTwice ∷ Some LimitZero ∷ []

-- startAfter(2) after startAt(1); equalTo(1) after startAt(1); endAt(2) after equalTo(1);
-- startAt(1) without an order
abbrev pub BoundTwice : Type 0
BoundTwice =
    bound_refusal start_after (numbered 2) None (bounded_by start_at (numbered 1) None by_value)
    ∷ bound_refusal equal_to (numbered 1) None (bounded_by start_at (numbered 1) None by_value)
    ∷ bound_refusal end_at (numbered 2) None (bounded_by equal_to (numbered 1) None by_value)
    ∷ bound_refusal start_at (numbered 1) None fresh
    ∷ []
    ≡ Some StartTwice ∷ Some StartTwice ∷ Some EndTwice ∷ Some NoOrder ∷ []

-- in key order startAt(5), startAt("a","k"), startAt("a.b") and startAt("b"); in value order
-- startAt(1,"a.b")
abbrev pub BadlyNamed : Type 0
BadlyNamed =
    bound_refusal start_at (numbered 5) None by_key
    ∷ bound_refusal start_at (worded (codes "a")) (Some (codes "k")) by_key
    ∷ bound_refusal start_at (worded (codes "a.b")) None by_key
    ∷ bound_refusal start_at (worded (codes "b")) None by_key
    ∷ bound_refusal start_at (numbered 1) (Some (codes "a.b")) by_value
    ∷ []
    ≡ Some NeedsText ∷ Some KeyNotAllowed ∷ Some BadBoundKey ∷ None ∷ Some BadBoundKey ∷ []

-- ---- ranges that take in others

-- by value: startAt(n), endAt(n), and both
abbrev pub from : ℕ → Draft
from n = bounded_by start_at (numbered n) None by_value

abbrev pub up_to : ℕ → Draft
up_to n = bounded_by end_at (numbered n) None by_value

abbrev pub between : ℕ → ℕ → Draft
between m n = bounded_by end_at (numbered n) None (from m)

-- whether the one draft's query takes in the other's
abbrev pub is_taken_in : Draft → Draft → Bool
is_taken_in outer inner = takes_in (finished outer) (finished inner)

-- startAt(3) takes in startAt(5) endAt(9) limitToFirst(1), and itself; startAt(1) endAt(9) takes in
-- startAt(4) endAt(8); endAt(9) takes in startAt(null) endAt(9)
abbrev pub TakenIn : Type 0
TakenIn =
    is_taken_in (from 3) (limited_to (First 1) (between 5 9))
    ∷ is_taken_in (from 3) (from 3)
    ∷ is_taken_in (between 1 9) (between 4 8)
    ∷ is_taken_in (up_to 9) (bounded_by start_at mark.Null None (up_to 9))
    ∷ []
    ≡ true ∷ true ∷ true ∷ true ∷ []

-- no range takes in one that begins before it, or ends after it, or has no such end; startAt(null)
-- endAt(9) takes in no endAt(9); none with a limit, none of another order, no query without a range
-- takes in anything, nor does any take in that query
abbrev pub NotTakenIn : Type 0
NotTakenIn =
    is_taken_in (between 4 9) (between 3 8)
    ∷ is_taken_in (between 4 8) (between 5 9)
    ∷ is_taken_in (between 4 8) (from 5)
    ∷ is_taken_in (bounded_by start_at mark.Null None (up_to 9)) (up_to 9)
    ∷ is_taken_in (limited_to (First 2) (from 3)) (from 5)
    ∷ is_taken_in (from 3) (bounded_by start_at (worded (codes "b")) None by_key)
    ∷ is_taken_in by_value (from 3)
    ∷ is_taken_in (from 3) by_value
    ∷ []
    ≡ false ∷ false ∷ false ∷ false ∷ false ∷ false ∷ false ∷ false ∷ []

-- ---- supply

-- all of a path of one key, and of one below it; the first n children of it
abbrev pub all_of : List ℕ → Query
all_of k = plain (k ∷ [])

abbrev pub all_below : List ℕ → List ℕ → Query
all_below k j = plain (k ∷ j ∷ [])

abbrev pub first_of : ℕ → List ℕ → Query
first_of n k = finished (limited_to (First n) (new_draft (k ∷ [])))

-- all of a supplies a's children, all of a/b, and a in the order of values
abbrev pub Supplied : Type 0
Supplied =
    does_supply (all_of (codes "a")) (first_of 2 (codes "a"))
    ∷ does_supply (all_of (codes "a")) (all_below (codes "a") (codes "b"))
    ∷ does_supply (all_of (codes "a")) (finished (ordered_by index.Value (new_draft (codes "a" ∷ []))))
    ∷ []
    ≡ true ∷ true ∷ true ∷ []

-- neither all of a/b nor some of a's children supplies all of a; nor do the first two the first one
abbrev pub NotSupplied : Type 0
NotSupplied =
    does_supply (all_below (codes "a") (codes "b")) (all_of (codes "a"))
    ∷ does_supply (first_of 2 (codes "a")) (all_of (codes "a"))
    ∷ does_supply (first_of 2 (codes "a")) (first_of 1 (codes "a"))
    ∷ []
    ≡ false ∷ false ∷ false ∷ []

-- startAt(3) supplies startAt(5) endAt(9) limitToFirst(1), and this none; both are supplied by the
-- first alone
abbrev pub RangeSupplies : Type 0
RangeSupplies =
    let wide = finished (from 3) in
    let narrow = finished (limited_to (First 1) (between 5 9)) in
    (does_supply wide narrow ∷ does_supply narrow wide ∷ [] ≡ true ∷ false ∷ [])
    × (needed (narrow ∷ wide ∷ []) ≡ wide ∷ [])

-- of all of a/b, the first of a, all of a and the first two of b the last two are needed
abbrev pub LastTwoNeeded : Type 0
LastTwoNeeded =
    needed (all_below (codes "a") (codes "b") ∷ first_of 1 (codes "a") ∷ all_of (codes "a")
    ∷ first_of 2 (codes "b") ∷ [])
    ≡ all_of (codes "a") ∷ first_of 2 (codes "b") ∷ []
