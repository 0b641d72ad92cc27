-- The needed forms are the fewest that supply all: lemmas that rt_query has.
pub use Rattle.rt_query.specs.laws.NeededLaws.{Contains-filter, Contains-from_filter, passes-from_filter}
pub use Rattle.rt_query.specs.laws.NeededLaws.{IsForm, supplies_itself, supplies_trans}
pub use Rattle.rt_query.specs.laws.NeededLaws.{supplies_antisymm, is_covered, needed_in, needed_fewest}
