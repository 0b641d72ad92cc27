-- What is written into a text.
use Rattle.std.specs.Prelude.{◌≡◌, ℕ, List, ◌++◌, String, string_bytes}
use Rattle.std.specs.declared.alloc.Global.{Global}

-- a text, seen as its bytes, with more behind it
abbrev pub Appends : String Global → String Global → List ℕ → Type 0
Appends old new text = string_bytes new ≡ string_bytes old ++ text
