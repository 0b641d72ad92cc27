-- What any pushes and changes of cover leave for a plain query, told by the calls alone: no word of
-- regions.
use Rattle.std.specs.Prelude.{◌≡◌, Bool, true, false, ◌&&◌, ◌||◌, if◌then◌else◌, List, Some}
use Rattle.std.specs.Prelude.{None}
use Rattle.std.specs.List.{All, fold}
use Rattle.rt_tree.specs.PathTree.{Path, PathTree, null, sub, put}
use Rattle.rt_tree.specs.Assignments.{is_at_or_above}
use Rattle.rt_query.specs.Queries.{plain, is_filtered}
use Rattle.rt_cache.specs.Brought.{nothing_brought, base}
use Rattle.rt_cache.specs.Recover.{reaches}
use Rattle.rt_cache.specs.Runs.{IsAllowed, after_all}
use Rattle.rt_cache.specs.declared.run.BroughtCall.{BroughtCall}
use Rattle.rt_cache.specs.declared.run.BroughtCall.TheVariants.{Put, Recover}

-- all that plain listens pushed, put into one tree
abbrev pub with_push : PathTree → BroughtCall → PathTree
with_push t (Put q p u) = if is_filtered q then t else put t p u
with_push t (Recover registered kept) = t

abbrev pub pushed : List BroughtCall → PathTree
pushed calls = fold with_push null calls

-- whether what p has is known after a call: a plain listen pushed at or above p, and each change of
-- cover since then kept a plain listen at or above p
abbrev pub known_after : Path → Bool → BroughtCall → Bool
known_after p known (Put q r u) = if is_filtered q then known else known || is_at_or_above r p
known_after p known (Recover registered kept) = known && reaches kept p

abbrev pub is_known : List BroughtCall → Path → Bool
is_known calls p = fold (known_after p) false calls

-- while it is known, the plain query of p has the part at p of that tree, whole; else nothing
abbrev pub PlainBaseIsWhatWasPushed : Type 0
PlainBaseIsWhatWasPushed = (calls : List BroughtCall) (p : Path) → All IsAllowed calls →
    base (after_all nothing_brought calls) (plain p)
    ≡ if is_known calls p then Some (record { tree = sub (pushed calls) p; whole = true }) else None
