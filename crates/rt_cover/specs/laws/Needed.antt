-- Laws of supply, which rt_query has: of any registered forms the needed ones are the fewest that
-- supply all.
pub use Rattle.rt_query.specs.laws.Needed.{SuppliesItself, SuppliesOnward, SuppliesOneWay}
pub use Rattle.rt_query.specs.laws.Needed.{NeededAreFewest}
