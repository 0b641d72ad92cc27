-- The values of the fields of a name.
use Rattle.std.proofs.Common.{List, [], ◌∷◌, Option, Some, None}

-- nothing, or what is there, as a list
abbrev pub as_list : {A : Type 0} → Option A → List A
as_list None = []
as_list (Some a) = a ∷ []
