-- A leaf is one of three, and so it has a code.
use Rattle.std.specs.Prelude.{◌≡◌, ℕ, ℤ, Bool, List, refl, ◌⊎◌}
use Rattle.std.proofs.Common.{inl, inr}
use Rattle.std.specs.Coded.{Coded, coded_ℕ, coded_ℤ, coded_bool, coded_list, coded⊎, code_by}
use Rattle.rt_tree.specs.Leaf.{LeafValue, truth, number, text}

-- a leaf as one of three
abbrev pub LeafParts : Type 0
LeafParts = Bool ⊎ (ℤ ⊎ List ℕ)

abbrev pub to_parts : LeafValue → LeafParts
to_parts (truth b) = inl b
to_parts (number n) = inr (inl n)
to_parts (text s) = inr (inr s)

abbrev pub from_parts : LeafParts → LeafValue
from_parts (inl b) = truth b
from_parts (inr (inl n)) = number n
from_parts (inr (inr s)) = text s

pub from_parts-to_parts : (l : LeafValue) → from_parts (to_parts l) ≡ l
from_parts-to_parts (truth b) = refl
from_parts-to_parts (number n) = refl
from_parts-to_parts (text s) = refl

abbrev pub leaf_code : Coded LeafValue
leaf_code =
    code_by LeafParts (coded⊎ coded_bool (coded⊎ coded_ℤ (coded_list coded_ℕ)))
    to_parts from_parts from_parts-to_parts
