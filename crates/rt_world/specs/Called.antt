-- What is brought is what calls of a cache leave.
use Rattle.std.specs.Prelude.{◌≡◌, List}
use Rattle.rt_cache.specs.Brought.{Brought, nothing_brought}
use Rattle.rt_cache.specs.Runs.{AreAllowed, after_all}
use Rattle.rt_cache.specs.declared.run.BroughtCall.{BroughtCall}

-- calls, each allowed where it is made, leave this where nothing was brought before
pub record IsCalled (b : Brought) : Type 0 where
  pub calls : List BroughtCall
  pub allowed : AreAllowed nothing_brought calls
  pub left : after_all nothing_brought calls ≡ b
