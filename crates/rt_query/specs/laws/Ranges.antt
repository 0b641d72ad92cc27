-- What it says that a range takes in another.
use Rattle.std.specs.Prelude.{◌≡◌, true}
use Rattle.rt_order.specs.Entries.{Entry}
use Rattle.rt_order.specs.Cuts.{has}
use Rattle.rt_query.specs.Queries.{Query}
use Rattle.rt_query.specs.Ranges.{takes_in}

-- a range that takes in another has all entries that this one has
abbrev pub WiderHasAll : Type 0
WiderHasAll = (q r : Query) (e : Entry) → takes_in q r ≡ true → has r.range e ≡ true
    → has q.range e ≡ true

-- what takes in a range takes in what that one takes in
abbrev pub TakesInOnward : Type 0
TakesInOnward = (q r s : Query) → takes_in q r ≡ true → takes_in r s ≡ true → takes_in q s ≡ true

-- of two different queries at most one takes in the other
abbrev pub TakesInOneWay : Type 0
TakesInOneWay = (q r : Query) → takes_in q r ≡ true → takes_in r q ≡ true → q ≡ r
