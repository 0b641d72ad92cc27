-- The fewest forms that supply all.
use Rattle.std.specs.Prelude.{Bool, ◌&&◌, not, IsTrue, List}
use Rattle.std.specs.List.{filter, list_any, All, Any, Contains}
use Rattle.rt_query.specs.Queries.{Query}
use Rattle.rt_query.specs.QueryEq.{query_eq}
use Rattle.rt_query.specs.Supply.{does_supply}

-- listening to q brings what r needs
abbrev pub Supplies : Query → Query → Type 0
Supplies q r = IsTrue (does_supply q r)

-- the listens are registered forms, and each registered form is supplied by one of them
pub record Supplying (listens registered : List Query) : Type 0 where
  pub part : All (Contains registered) listens
  pub each : All (λ r. Any (λ s. Supplies s r) listens) registered

-- these supply all, and each of them is in every list that does
pub record IsFewest (listens registered : List Query) : Type 0 where
  pub supplying : Supplying listens registered
  pub least : (others : List Query) → Supplying others registered → All (Contains others) listens

-- the forms that no other form supplies
abbrev pub needed : List Query → List Query
needed registered =
    filter (λ f. not (list_any (λ g. not (query_eq g f) && does_supply g f) registered)) registered
