use Rattle.std.proofs.Common.{◌≡◌, ◌&&◌, Bool, take}
use Rattle.std.specs.List.{list_any}
use Rattle.rt_query.specs.Queries.{Query}
use Rattle.rt_cache.specs.Brought.{may_move}
use Rattle.rt_sync.proofs.steps.losses.movers.Given as goal

-- those of the forms so far
abbrev pub invariant-loop-form : goal.invariant-loop-form
invariant-loop-form l = (t : Query → Bool) → list_any t l.movers.items ≡ list_any (λ (x : Query). may_move l.brought x && t x) (take l.form-index l.ended)
