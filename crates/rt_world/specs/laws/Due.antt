-- The conditions under which a step is made hold of real worlds, for each kind of step.
use Rattle.std.specs.Prelude.{◌≡◌, false, [], ◌∷◌, Some, None, codes}
use Rattle.rt_tree.specs.Path.{path_keys}
use Rattle.rt_tree.specs.PathTree.{object}
use Rattle.rt_order.specs.declared.index.Index.{Index}
use Rattle.rt_query.specs.declared.query.Limit.TheVariants.{First}
use Rattle.rt_query.specs.Queries.{Query, plain}
use Rattle.rt_cache.specs.Brought.{nothing_brought}
use Rattle.rt_wire.specs.declared.request.Action.TheVariants.{Put}
use Rattle.rt_wire.specs.declared.request.Ending.TheVariants.{Run}
use Rattle.rt_world.specs.declared.step.Step.{Step}
use Rattle.rt_world.specs.World.{World}
use Rattle.rt_world.specs.After.{pushed, brought_after}
use Rattle.rt_world.specs.Refusals.{refusal, is_stale}
use Rattle.rt_world.specs.Answers.{world_after}
use Rattle.rt_world.specs.laws.Script.{fresh, num, ordered}
use Rattle.rt_world.specs.laws.Children.{at_a, two}

-- /a is listened to and known, and a write of one of its children is pending
abbrev pub busy : World
busy = world_after fresh (
    Step.Connected
    ∷ Step.Listen 1 (plain at_a)
    ∷ Step.Data 1 at_a two
    ∷ Step.Write 1 (Put (path_keys (codes "/a/x")) (num 3)) ∷ [])

-- the step is neither refused nor stale
abbrev pub IsDue : World → Step → Type 0
IsDue w s = (refusal w s ≡ None) × (is_stale w s ≡ false)

-- so is one of each kind
abbrev pub SeatsAreDue : Type 0
SeatsAreDue =
    IsDue busy (Step.Listen 2 (plain (path_keys (codes "/b"))))
    × IsDue busy (Step.Unlisten 1 1)
    × IsDue busy (Step.Write 1 (Put (path_keys (codes "/a/y")) (num 4)))
    × IsDue busy (Step.OnDisconnect 1 (Run (Put (path_keys (codes "/a/y")) (num 4))))
    × IsDue busy (Step.CloseSeat 1)

abbrev pub ServersAreDue : Type 0
ServersAreDue =
    IsDue busy (Step.Data 1 (path_keys (codes "/a/y")) (num 5))
    × IsDue busy (Step.DataMerge 1 ((path_keys (codes "/a/x"), num 6) ∷ []))
    × IsDue busy (Step.Push (
    (9, (path_keys (codes "/b"), num 6) ∷ [])
    ∷ (1, (path_keys (codes "/a/x"), num 6) ∷ [])
    ∷ []))
    × IsDue busy (Step.Accepted 1)
    × IsDue busy (Step.Refused 1 (codes "denied"))
    × IsDue busy (Step.Revoked 1 (codes "denied"))

abbrev pub ConnectionsAreDue : Type 0
ConnectionsAreDue = IsDue fresh Step.Connected × IsDue busy Step.Disconnected

-- the first child of /a is listened to, and its window is there
abbrev pub first_of_a : Query
first_of_a = ordered at_a Index.Key (Some (First 1))

abbrev pub windowed : World
windowed = world_after fresh (
    Step.Connected
    ∷ Step.Listen 1 first_of_a
    ∷ Step.Data 1 at_a (object ((codes "x", num 1) ∷ [])) ∷ [])

-- so are another filtered listen, and pushes into the window
abbrev pub FilteredAreDue : Type 0
FilteredAreDue =
    IsDue windowed (Step.Listen 2 (ordered at_a Index.Value None))
    × IsDue windowed (Step.Data 1 (path_keys (codes "/a/y")) (num 5))
    × IsDue windowed (Step.DataMerge 1 ((path_keys (codes "/a/x"), num 6) ∷ []))

-- /a has children that no listen brought
abbrev pub unreached : World
unreached = record fresh { brought = record { registered = []; regions = (at_a, two) ∷ []; windows = [] } }

-- they are lost in any step: so the laws ask that all that is brought is reached
abbrev pub UnreachedIsLost : Type 0
UnreachedIsLost =
    (pushed unreached Step.Connected ≡ unreached.brought)
    × (brought_after unreached Step.Connected ≡ nothing_brought)
