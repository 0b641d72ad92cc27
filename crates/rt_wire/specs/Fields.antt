-- What the members of a message must be, and what they are then; none where a member isn't so.
use Rattle.std.specs.Prelude.{ℕ, ◌&&◌, List, length, nat_le, if◌then◌else◌, Option, Some, None}
use Rattle.std.specs.Prelude.{is_none, option_and_then, Result, Ok, Err}
use Rattle.serde_json.specs.Data.{Data}
use Rattle.serde_json.specs.Find.{get, as_number, as_str, as_u64}
use Rattle.rt_tree.specs.Path.{path_keys, path_fault}
use Rattle.rt_tree.specs.PathTree.{Path, PathTree}
use Rattle.rt_tree.specs.Reading.{tree_of_data, data_fault}
use Rattle.rt_wire.specs.declared.error.WireError.{WireError}
use Rattle.rt_wire.specs.declared.error.WireError.TheVariants.{BadField, BadTree}
use Rattle.rt_wire.specs.declared.limits.TheConstants.{MAX_NUMBER, MAX_REASON_BYTES}

-- the member of that name, as `f` has it
abbrev pub field : {A : Type 0} → (Data → Option A) → List ℕ → Data → Option A
field f name message = option_and_then f (get name message)

-- any value
abbrev pub any_of : Data → Option Data
any_of d = Some d

-- a tag, the number of a request, or a version: a whole number from 1 to the largest
abbrev pub in_range : ℕ → Option ℕ
in_range n = if nat_le 1 n && nat_le n MAX_NUMBER then Some n else None

abbrev pub number_of : Data → Option ℕ
number_of d = option_and_then in_range (option_and_then as_u64 (as_number d))

-- a path, in any spelling
abbrev pub path_of_text : List ℕ → Option Path
path_of_text s = if is_none (path_fault s) then Some (path_keys s) else None

abbrev pub path_of : Data → Option Path
path_of d = option_and_then path_of_text (as_str d)

-- a reason: a text that is not too long
abbrev pub reason_of_text : List ℕ → Option (List ℕ)
reason_of_text s = if nat_le (length s) MAX_REASON_BYTES then Some s else None

abbrev pub reason_of : Data → Option (List ℕ)
reason_of d = option_and_then reason_of_text (as_str d)

-- a tree; trees are looked at after all fields
abbrev pub tree_of : Data → Result PathTree WireError
tree_of d = if is_none (data_fault d) then Ok (tree_of_data d) else Err BadTree

-- ---- what is made of them

-- of a field, where it is as it must be
abbrev pub with : {A B : Type 0} → Option A → (A → Result B WireError) → Result B WireError
with None f = Err BadField
with (Some x) f = f x

-- of a tree or of trees
abbrev pub made : {A B : Type 0} → Result A WireError → (A → B) → Result B WireError
made (Err e) f = Err e
made (Ok x) f = Ok (f x)
