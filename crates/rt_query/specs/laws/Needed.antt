-- Laws of supply: of any registered forms the needed ones are the fewest that supply all.
use Rattle.std.specs.Prelude.{◌≡◌, List}
use Rattle.std.specs.List.{All}
use Rattle.rt_query.specs.Queries.{Query}
use Rattle.rt_query.specs.Supply.{form}
use Rattle.rt_query.specs.Needed.{Supplies, IsFewest, needed}

-- the three facts of supply on which the rest stands: a form supplies itself
abbrev pub SuppliesItself : Type 0
SuppliesItself = (f : Query) → form f ≡ f → Supplies f f

-- what supplies a form supplies what that supplies
abbrev pub SuppliesOnward : Type 0
SuppliesOnward = (s g r : Query) → form g ≡ g → Supplies s g → Supplies g r → Supplies s r

-- no two different forms supply each other
abbrev pub SuppliesOneWay : Type 0
SuppliesOneWay = (g r : Query) → form g ≡ g → form r ≡ r → Supplies g r → Supplies r g → g ≡ r

-- of any forms the needed ones are the fewest that supply all
abbrev pub NeededAreFewest : Type 0
NeededAreFewest =
    (registered : List Query)
    → All (λ f. form f ≡ f) registered → IsFewest (needed registered) registered
