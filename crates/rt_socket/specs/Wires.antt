-- What a wire gives and takes.
use Rattle.std.specs.Prelude.{◌≡◌, List, [], ◌∷◌, ◌++◌, Option, Some, None, ⊤}
use Rattle.rt_socket.specs.declared.wire.Heard.{Heard}
use Rattle.rt_socket.specs.declared.wire.Heard.TheVariants.{Text, Binary, Sign, Nothing, Ended}
use Rattle.rt_socket.specs.declared.wire.Said.{Said}
use Rattle.rt_socket.specs.declared.wire.Said.TheVariants as said

-- what it is to give begins with these, and loses them
abbrev pub Gives : {X : Type 0} → Option (List X) → Option (List X) → List X → Type 0
Gives None new xs = ⊤
Gives (Some all) None xs = ⊥
Gives (Some all) (Some left) xs = all ≡ xs ++ left

-- what it has taken grows by these
abbrev pub Takes : {X : Type 0} → Option (List X) → Option (List X) → List X → Type 0
Takes None new xs = ⊤
Takes (Some had) None xs = ⊥
Takes (Some had) (Some has) xs = has ≡ had ++ xs

-- what it gives where it says that: a text, a binary message, a ping or a pong; or nothing
abbrev pub given_by : Heard → List Heard
given_by (Text words) = Text words ∷ []
given_by Binary = Binary ∷ []
given_by Sign = Sign ∷ []
given_by Nothing = []
given_by (Ended why) = []

-- what kind of thing it says
abbrev pub said_by : Heard → Said
said_by (Text words) = said.Given
said_by Binary = said.Given
said_by Sign = said.Given
said_by Nothing = said.Nothing
said_by (Ended why) = said.Ended
