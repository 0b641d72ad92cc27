-- The children that entries name, in the order of their keys.
use Rattle.std.specs.Prelude.{◌≡◌, Bool, List}
use Rattle.std.specs.List.{list_any}
use Rattle.std.specs.List.Sorted.{IsStrictlySortedBy}
use Rattle.std.specs.Map.{keys_of}
use Rattle.rt_tree.specs.PathTree.{Key, Path, PathTree, key_cmp}
use Rattle.rt_tree.specs.Assignments.{Assignment}
use Rattle.rt_query.specs.Queries.{Query}
use Rattle.rt_writes.specs.Writes.{Write}
use Rattle.rt_cache.specs.Brought.{Brought, base}
use Rattle.rt_world.specs.Touched.{children_at, children_named}
use Rattle.rt_world.specs.Views.{seen_over}

-- the keys rise, and are those of the path's children that the entries name
pub record AreNamedKeys (p : Path) (entries : List Assignment) (keys : List Key) : Type 0 where
  pub rise : IsStrictlySortedBy key_cmp keys
  pub same : (test : Key → Bool) → list_any test keys ≡ list_any test (children_named p entries)

-- the children are those of such keys, as the query sees them
pub record AreNamed (entries : List Assignment) (b : Brought) (writes : List Write) (q : Query)
    (named : List (Key × PathTree)) : Type 0 where
  pub keys : AreNamedKeys q.path entries (keys_of named)
  pub seen : named ≡ children_at (seen_over (base b q) writes q) (keys_of named)
