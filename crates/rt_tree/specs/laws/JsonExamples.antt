-- What some texts are read as, what is refused, and what is written, as the prover computes it.
use Rattle.std.specs.Prelude.{◌≡◌, List, ℕ, zero, suc, [], Option, Some, None, codes, replicate}
use Rattle.std.specs.Prelude.{option_map}
use Rattle.serde_json.specs.Data.{Data, no_items, item, no_members, member}
use Rattle.serde_json.specs.Data as json
use Rattle.serde_json.specs.Read.{read}
use Rattle.serde_json.specs.Written.{compact_text}
use Rattle.rt_tree.specs.declared.error.TreeError.TheVariants.{BadKey, KeyTooLong, TooDeep}
use Rattle.rt_tree.specs.declared.error.TreeError.TheVariants.{NotWhole, NotJson}
use Rattle.rt_tree.specs.Reading.{tree_of_data, data_fault, text_fault}
use Rattle.rt_tree.specs.Writing.{data_of, value_count}

-- the text of what a text is read as
abbrev pub written : List ℕ → Option (List ℕ)
written s = option_map (λ d. compact_text (data_of (tree_of_data d))) (read s)

-- elements have their places as keys, nulls drop, and an empty object is null
abbrev pub TextsAreRead : Type 0
TextsAreRead =
    (written (codes "[1,null,3]") ≡ Some (codes "{\"0\":1,\"2\":3}"))
    × (written (codes "{\"a\":{}}") ≡ Some (codes "null"))
    × (written (codes "{\"b\":[],\"a\":true}") ≡ Some (codes "{\"a\":true}"))

-- how many values a text is written as, once it is read
abbrev pub counted : List ℕ → Option ℕ
counted s = option_map (λ d. value_count (tree_of_data d)) (read s)

-- an object and each value in it count one
abbrev pub ValuesAreCounted : Type 0
ValuesAreCounted =
    (counted (codes "{\"a\":1,\"b\":{\"c\":[2,null]}}") ≡ Some 5) × (counted (codes "[{}]") ≡ Some 1)

-- a text has one fault
abbrev pub TextsAreRefused : Type 0
TextsAreRefused =
    (text_fault (codes "1.5") ≡ Some NotWhole)
    × (text_fault (codes "9007199254740992") ≡ Some NotWhole)
    × (text_fault (codes "-9007199254740991") ≡ None)
    × (text_fault (codes "{\"a.b\":1}") ≡ Some BadKey) × (text_fault (codes "{") ≡ Some NotJson)

-- an object of one member
abbrev pub alone : List ℕ → Data → Data
alone k d = json.object (member k d no_members)

-- so many arrays in another
abbrev pub nested : ℕ → Data
nested zero = json.array no_items
nested (suc n) = json.array (item (nested n) no_items)

-- of several faults the first is answered; the level is looked at before the name, and the name
-- before the value
abbrev pub FaultsComeInOrder : Type 0
FaultsComeInOrder =
    (data_fault (alone (codes "a.b") (alone [] json.null)) ≡ Some BadKey)
    × (data_fault (alone (replicate 769 46) json.null) ≡ Some KeyTooLong)
    × (data_fault (nested 32) ≡ None) × (data_fault (nested 33) ≡ Some TooDeep)
