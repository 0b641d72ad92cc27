-- Push ids as keys: their order among keys.
use Rattle.std.specs.Prelude.{◌≡◌, ◌≤◌, List, None}
use Rattle.std.specs.List.{All}
use Rattle.std.specs.List.Sorted.{IsStrictlySortedBy}
use Rattle.rt_tree.specs.Key.{IsKey}
use Rattle.rt_order.specs.KeyOrder.{integer_of, key_cmp}
use Rattle.rt_push.specs.PushIds.{Stamp, push_id}
use Rattle.rt_push.specs.laws.Ids.{Call, ids, stamps}

-- a moment in which the text of an id begins with a minus and then a letter or an underscore: 11 *
-- 64^6 to 64^7 - 1
abbrev pub BeginsAsText : Stamp → Type 0
BeginsAsText stamp = (755914244096 ≤ stamp.0) × (stamp.0 ≤ 4398046511103)

-- each id is a key
abbrev pub IdsAreKeys : Type 0
IdsAreKeys = (stamp : Stamp) → IsKey (push_id stamp)

-- an id of such a moment is no integer key
abbrev pub NoIntegerKeys : Type 0
NoIntegerKeys = (stamp : Stamp) → BeginsAsText stamp → integer_of (push_id stamp) ≡ None

-- of the ids that calls give, each is above those before it in key order, where all moments used
-- are such
abbrev pub KeysRise : Type 0
KeysRise = (calls : List Call) → All BeginsAsText (stamps None calls)
    → IsStrictlySortedBy key_cmp (ids None calls)
