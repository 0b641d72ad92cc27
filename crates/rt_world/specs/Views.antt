-- The view of a listener: its query over what is brought, overlaid by the pending writes.
use Rattle.std.specs.Prelude.{Bool, false, ◌&&◌, ◌||◌, not, if◌then◌else◌, List, Option}
use Rattle.std.specs.Option.{option_map_or}
use Rattle.rt_tree.specs.PathTree.{Key, Path, PathTree, null, is_null, child, with_children}
use Rattle.rt_query.specs.Queries.{Query, is_filtered}
use Rattle.rt_query.specs.Select.{Shown, select}
use Rattle.rt_writes.specs.Writes.{Write, overlay, sets_whole, sets_child_whole}
use Rattle.rt_cache.specs.Brought.{Brought, base, knows}
use Rattle.rt_cache.specs.declared.brought.Base.{Base}

-- a listener is known where something is brought for its query, or a pending entry sits at or above
-- its path
abbrev pub is_known : Brought → List Write → Query → Bool
is_known b writes q = knows b q || sets_whole writes q.path

-- the tree brought; nothing is null
abbrev pub base_tree : Option Base → PathTree
base_tree b = option_map_or (λ x. x.tree) b null

-- whether all that the query's path has is brought
abbrev pub is_base_whole : Option Base → Bool
is_base_whole b = option_map_or (λ x. x.whole) b false

-- a child counts where the base has it, or a pending entry sits at or above its path
abbrev pub is_child_known : PathTree → List Write → Path → Key → Bool
is_child_known t writes p k = not (is_null (child t k)) || sets_child_whole writes p k

-- what a query sees: the overlaid base; without the children that are not known, where it is
-- filtered and its base is not whole
abbrev pub seen_over : Option Base → List Write → Query → PathTree
seen_over b writes q =
    if is_filtered q && not (is_base_whole b)
    then with_children
    (is_child_known (base_tree b) writes q.path) (overlay q.path (base_tree b) writes)
    else overlay q.path (base_tree b) writes

-- the query over what it sees
abbrev pub view_of : Brought → List Write → Query → Shown
view_of b writes q = select q (seen_over (base b q) writes q)
