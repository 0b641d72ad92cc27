-- Which children of a listener's path a step can change.
use Rattle.std.specs.Prelude.{◌≡◌, ℕ, Bool, List, [], ◌++◌, map, Option, unwrap_or}
use Rattle.std.specs.List.{filter_map, fold, list_any, Contains}
use Rattle.std.specs.Option.{option_and_then, option_map_or}
use Rattle.rt_tree.specs.PathTree.{Key, Path, PathTree, key_eq, strip, child, first_key}
use Rattle.rt_tree.specs.Assignments.{Assignment, is_at_or_above}
use Rattle.rt_query.specs.Queries.{Query}
use Rattle.rt_writes.specs.Writes as writes
use Rattle.rt_cache.specs.Brought.{base}
use Rattle.rt_cover.specs.Cover.{distinct}
use Rattle.rt_wire.specs.declared.request.Asked.{Asked}
use Rattle.rt_wire.specs.declared.request.Asked.TheVariants.{Now, AtDisconnect}
use Rattle.rt_world.specs.declared.step.Step.{Step}
use Rattle.rt_world.specs.Views.{seen_over}
use Rattle.rt_world.specs.World.{Listener, World, entries_of, pending}
use Rattle.rt_world.specs.steps.Kind.{Part}
use Rattle.rt_world.specs.After.{kind}

-- ---- what a step names

-- the entries of the pending write of that number, if there is one
abbrev pub entries_settled : World → ℕ → List Assignment
entries_settled w id = unwrap_or (writes.entries_of id (pending w.requests)) []

-- the entries that show once this is asked for: those of a write
abbrev pub entries_asked : Asked → List Assignment
entries_asked (Now action) = entries_of action
entries_asked (AtDisconnect ending) = []

-- the entries of all parts, in order
abbrev pub entries_pushed : List Part → List Assignment
entries_pushed parts = fold (λ entries p. entries ++ p.1) [] parts

-- the entries of a step: those of the write that it settles, of its write, or of its push
abbrev pub entries_by : World → Step → List Assignment
entries_by w s =
    option_map_or
    (λ d. entries_settled w d.0)
    (kind s).settled
    (option_map_or
    (λ a. entries_asked a.1)
    (kind s).asked
    (entries_pushed (kind s).parts))

-- whether an entry sits at or above p
abbrev pub is_covered : Path → List Assignment → Bool
is_covered p entries = list_any (λ a. is_at_or_above a.0 p) entries

-- the child of p that an entry names: the key that follows p in its path, where that is below p
abbrev pub named_by : Path → Assignment → Option Key
named_by p a = option_and_then first_key (strip p a.0)

-- the children of p that the entries name, each once
abbrev pub children_named : Path → List Assignment → List Key
children_named p entries = distinct key_eq (filter_map (named_by p) entries)

-- whether one of the entries names the child
abbrev pub is_named : Path → List Assignment → Key → Bool
is_named p entries k = list_any (key_eq k) (children_named p entries)

-- ---- what a listener sees

-- what a query sees in a world: what is brought for it, under the pending writes
abbrev pub seen : World → Query → PathTree
seen w q = seen_over (base w.brought q) (pending w.requests) q

-- these children of a tree, as a view is touched with them
abbrev pub children_at : PathTree → List Key → List (Key × PathTree)
children_at t keys = map (λ k. (k, child t k)) keys

-- a listener that is registered in both worlds, as the one has it and the other
pub record IsInBoth (old new : World) (l m : Listener) : Type 0 where
  pub before : Contains old.listeners l
  pub after : Contains new.listeners m
  pub number : m.number ≡ l.number
