-- Filtered queries that were looked at within one write.
use Rattle.std.specs.Prelude.{◌≡◌, IfSome, if◌then◌else◌, List, Option, Some, None}
use Rattle.std.specs.Map.{lookup}
use Rattle.std.specs.BTreeMap.{is_at}
use Rattle.rt_tree.specs.PathTree.{PathTree}
use Rattle.rt_tree.specs.Trees.{tree_eq}
use Rattle.rt_query.specs.Queries.{Query}
use Rattle.rt_query.specs.QueryOrder.{query_cmp}
use Rattle.rt_peer.specs.Pushes.{seen}

-- what a map by query has at one
abbrev pub at_query : {X : Type 0} → List (Query × X) → Query → Option X
at_query es q = lookup (is_at (query_cmp q)) es

-- what a filtered query is told of a write that makes u of t: nothing where it shows the same, else all that it
-- shows
abbrev pub told_of : PathTree → PathTree → Query → Option PathTree
told_of t u q = if tree_eq (seen q t) (seen q u) then None else Some (seen q u)

-- what is noted of queries is what they are told
abbrev pub AreLooked : PathTree → PathTree → List (Query × Option PathTree) → Type 0
AreLooked t u looked = (q : Query) → IfSome (at_query looked q) (λ told. told ≡ told_of t u q)
