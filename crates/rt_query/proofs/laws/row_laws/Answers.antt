use Rattle.rt_query.proofs.laws.row_laws.Goals as goal
use Rattle.rt_query.specs.laws.Rows.{rows_rise, rows_lie_in_range, rows_are_within_limit}

pub returns : goal.returns
returns c = record { rise = rows_rise; in_range = rows_lie_in_range; within_limit = rows_are_within_limit }
