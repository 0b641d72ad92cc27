-- The listeners as the code holds them.
use Rattle.std.specs.Prelude.{◌≡◌, List, length}
use Rattle.rt_query.specs.Queries.{Query}
use Rattle.rt_query.specs.Supply.{form}
use Rattle.rt_forms.specs.Forms.{Forms, numbers, count}
use Rattle.rt_cover.specs.Cover.{Registered}
use Rattle.rt_cover.specs.State.{numbers_of}

-- a tree of forms has the numbers of just these listeners, those of each form's at it
pub record IsHeld (listeners : List Registered) (forms : Forms) : Type 0 where
  pub numbers : (q : Query) → numbers forms q ≡ numbers_of listeners (form q)
  pub count : count forms ≡ length listeners
