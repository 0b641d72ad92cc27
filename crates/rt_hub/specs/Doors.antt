-- What a door gives and takes, where that is known.
use Rattle.std.specs.Prelude.{◌≡◌, ℕ, List, [], ◌∷◌, ◌++◌, Option, Some, None, ⊤}
use Rattle.rt_hub.specs.declared.door.DoorRead.{DoorRead}
use Rattle.rt_hub.specs.declared.door.DoorRead.TheVariants.{Text, Other, Nothing, Ended}

-- what it is to give begins with these, and loses them
abbrev pub Gives : {X : Type 0} → Option (List X) → Option (List X) → List X → Type 0
Gives None new xs = ⊤
Gives (Some all) None xs = ⊥
Gives (Some all) (Some left) xs = all ≡ xs ++ left

-- what it has taken grows by these
abbrev pub Takes : {X : Type 0} → Option (List X) → Option (List X) → List X → Type 0
Takes None new xs = ⊤
Takes (Some had) None xs = ⊥
Takes (Some had) (Some has) xs = has ≡ had ++ xs

-- what it gives where it says that: a text, a message that is none, or nothing
abbrev pub given_by : DoorRead → List ℕ → List (Option (List ℕ))
given_by Text text = Some text ∷ []
given_by Other text = None ∷ []
given_by Nothing text = []
given_by Ended text = []
