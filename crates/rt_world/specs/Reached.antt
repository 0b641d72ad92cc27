-- What is brought belongs to the listens that are kept, and it has the registered forms.
use Rattle.std.specs.Prelude.{◌≡◌, true, map}
use Rattle.std.specs.List.{All, Contains}
use Rattle.rt_tree.specs.PathTree.{Path, PathTree}
use Rattle.rt_query.specs.Queries.{Query}
use Rattle.rt_cache.specs.Brought.{Window}
use Rattle.rt_cache.specs.Recover.{reaches}
use Rattle.rt_cover.specs.Cover.{Tagged}
use Rattle.rt_world.specs.World.{World, registered, listening}

-- the forms that are registered there are those of the listeners, in order; a plain listen that is kept
-- reaches each region, and each window is of a registered form
pub record IsReached (w : World) : Type 0 where
  pub forms : (w.brought).registered ≡ listening (registered w.listeners)
  pub regions :
      All (λ (r : Path × PathTree). reaches (map (λ (k : Tagged). k.form) w.kept) r.0 ≡ true)
      (w.brought).regions
  pub windows :
      All (λ (x : Query × Window). Contains (listening (registered w.listeners)) x.0)
      (w.brought).windows
