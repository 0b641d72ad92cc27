use Rattle.rt_query.proofs.laws.bound_laws.Goals as goal
use Rattle.rt_query.proofs.BoundLaws.{starts_at, starts_after, ends_at, ends_before, equals, compares_keys}

pub returns : goal.returns
returns c = record { start_at = starts_at; start_after = starts_after; end_at = ends_at; end_before = ends_before; equal_to = equals; keys = compares_keys }
