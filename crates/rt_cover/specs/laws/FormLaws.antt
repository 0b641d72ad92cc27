-- What a form supplies, by the tests of a query: lemmas that rt_query has.
pub use Rattle.rt_query.specs.laws.SupplyLaws.{same_tests, form_filtered, form_unfiltered}
pub use Rattle.rt_query.specs.laws.SupplyLaws.{supply_filtered, supply_unfiltered}
pub use Rattle.rt_query.specs.laws.SupplyLaws.{supplied_is_filtered, supplied_has_path}
