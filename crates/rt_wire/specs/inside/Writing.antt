-- What comes into a writer behind what it has.
use Rattle.std.specs.Prelude.{◌≡◌, ℕ, List, [], ◌∷◌, ◌++◌, String, string_bytes, map}
use Rattle.std.specs.declared.alloc.Global.{Global}
use Rattle.std.specs.Borrow.{Bor}
use Rattle.json.specs.Token.{key}
use Rattle.json.specs.Written.{Written}
use Rattle.serde_json.specs.Data.{Data, Items, no_items, item, Members}
use Rattle.serde_json.specs.Written.{WritesValue}
use Rattle.rt_tree.specs.PathTree.{PathTree}
use Rattle.rt_tree.specs.Writing.{members_with, data_of}
use Rattle.rt_wire.specs.FieldData.{Field}

-- a value
pub record PutsValue (d : Data) (old new : Written) : Type 0 where
  pub before : new.before ≡ old.before
  pub value : WritesValue d old.tokens new.tokens

-- values, one after another
abbrev pub PutsItems : Items → Written → Written → Type 0
PutsItems no_items old new = (new.before ≡ old.before) × (new.tokens ≡ old.tokens)
PutsItems (item d ds) old new = (mid : Written) × PutsValue d old mid × PutsItems ds mid new

-- a member: its name, and its value
pub record PutsField (f : Field) (old new : Written) : Type 0 where
  pub before : new.before ≡ old.before
  pub value : WritesValue f.1 (old.tokens ++ key f.0 ∷ []) new.tokens

-- members, one after another
abbrev pub PutsFields : List Field → Written → Written → Type 0
PutsFields [] old new = (new.before ≡ old.before) × (new.tokens ≡ old.tokens)
PutsFields (f ∷ fs) old new = (mid : Written) × PutsField f old mid × PutsFields fs mid new

-- trees that are lent, each with its name
abbrev pub lent_trees : List (String Global × Bor PathTree) → List (List ℕ × PathTree)
lent_trees ts = map (λ t. (string_bytes t.0, t.1.now)) ts

-- the members that they are written as
abbrev pub lent_members : List (String Global × Bor PathTree) → Members
lent_members ts = members_with data_of (lent_trees ts)
