-- Outside examples over one core, which the prover computes.
use Rattle.std.specs.Prelude.{◌≡◌, List, [], ◌∷◌, ◌++◌, pos, Some, None, codes}
use Rattle.rt_tree.specs.Leaf.{number}
use Rattle.rt_tree.specs.Path.{path_keys}
use Rattle.rt_tree.specs.PathTree.{null, object}
use Rattle.rt_order.specs.declared.index.Index.{Index}
use Rattle.rt_query.specs.declared.query.Limit.TheVariants.{First, Last}
use Rattle.rt_query.specs.Queries.{plain}
use Rattle.rt_view.specs.declared.change.Change.TheVariants.{Removed, Added, Moved, Changed, Value}
use Rattle.rt_world.specs.declared.error.CoreError.TheVariants.{BadPush, AlreadyConnected}
use Rattle.rt_world.specs.declared.error.CoreError.TheVariants.{NotConnected, UnknownListener}
use Rattle.rt_world.specs.declared.error.CoreError.TheVariants.{EmptyUpdate, Overlap, TooDeep}
use Rattle.rt_wire.specs.declared.client.ClientMessage.{ClientMessage}
use Rattle.rt_world.specs.declared.report.Body.TheVariants.{Settled, Cancelled}
use Rattle.rt_wire.specs.declared.request.Asked.TheVariants.{Now, AtDisconnect}
use Rattle.rt_wire.specs.declared.request.Ending.TheVariants.{Run, Cancel}
use Rattle.rt_wire.specs.declared.request.Action.TheVariants.{Put, Merge}
use Rattle.rt_world.specs.declared.step.Step.{Step}
use Rattle.rt_world.specs.laws.Script.{Line, Do, TakeOut, ShowCover, ShowView, Sent, Covered, Viewed, shows}
use Rattle.rt_world.specs.laws.Script.{fresh, num, yes_leaf, txt, ordered, answered, was_stale, refused}
use Rattle.rt_world.specs.laws.Script.{told, batch, kept_as, shown_leaf, row_of, of_rows}

-- a listen that is pushed null is empty, and is known
abbrev pub PushOfNull : Type 0
PushOfNull =
    shows fresh (
    Do Step.Connected
    ∷ Do (Step.Listen 1 (plain []))
    ∷ Do (Step.Data 1 [] null)
    ∷ ShowView 1 ∷ [])
    ≡ answered None []
    ∷ answered (Some 1) []
    ∷ answered None (told 1 (batch 1 (Value null ∷ [])) ∷ [])
    ∷ Viewed (of_rows [])
    ∷ []

-- a listen above takes up the one below
abbrev pub ParentTakesOverListen : Type 0
ParentTakesOverListen =
    shows fresh (
    Do Step.Connected
    ∷ Do (Step.Listen 1 (plain (path_keys (codes "/a/b"))))
    ∷ TakeOut
    ∷ Do (Step.Listen 2 (plain (path_keys (codes "/a"))))
    ∷ TakeOut
    ∷ ShowCover ∷ [])
    ≡ answered None []
    ∷ answered (Some 1) []
    ∷ Sent (ClientMessage.Hello 2 ∷ ClientMessage.Listen 1 (plain (path_keys (codes "/a/b"))) ∷ [])
    ∷ answered (Some 2) []
    ∷ Sent (ClientMessage.Listen 2 (plain (path_keys (codes "/a"))) ∷ ClientMessage.Unlisten 1 ∷ [])
    ∷ Covered (kept_as 2 (plain (path_keys (codes "/a"))) 2 ∷ [])
    ∷ []

-- a window stays while a plain listen waits for data, and its push is stale then
abbrev pub WindowUnderPlainListen : Type 0
WindowUnderPlainListen =
    shows fresh (
    Do Step.Connected
    ∷ Do (Step.Listen 1 (ordered (path_keys (codes "/a")) Index.Key (Some (First 2))))
    ∷ Do (Step.Data 1 (path_keys (codes "/a")) (object ((codes "x", num 1) ∷ (codes "y", num 2)
    ∷ [])))
    ∷ Do (Step.Listen 1 (plain (path_keys (codes "/a"))))
    ∷ ShowView 2
    ∷ Do (Step.Data 1 (path_keys (codes "/a")) (object ((codes "x", num 9) ∷ [])))
    ∷ Do (Step.Data 2 (path_keys (codes "/a")) (object ((codes "w", num 0) ∷ (codes "x", num 1)
    ∷ (codes "y", num 2) ∷ []))) ∷ [])
    ≡ answered None []
    ∷ answered (Some 1) []
    ∷ answered None (told 1 (batch 1 (Added (codes "x") (num 1) None
    ∷ Added (codes "y") (num 2) (Some (codes "x"))
    ∷ Value (object ((codes "x", num 1) ∷ (codes "y", num 2) ∷ [])) ∷ [])) ∷ [])
    ∷ answered (Some 2) []
    ∷ Viewed None
    ∷ was_stale
    ∷ answered None (told 1 (batch 1 (Removed (codes "y") (num 2) ∷ Added (codes "w") (num 0) None
    ∷ Value (object ((codes "w", num 0) ∷ (codes "x", num 1) ∷ [])) ∷ []))
    ∷ told 1 (batch 2 (Added (codes "w") (num 0) None
    ∷ Added (codes "x") (num 1) (Some (codes "w")) ∷ Added (codes "y") (num 2) (Some (codes "x"))
    ∷ Value (object ((codes "w", num 0) ∷ (codes "x", num 1) ∷ (codes "y", num 2) ∷ [])) ∷ []))
    ∷ [])
    ∷ []

-- where a region is lost its window is whole, and a refused write comes back into view
abbrev pub WindowKeptWhole : Type 0
WindowKeptWhole =
    shows fresh (
    Do Step.Connected
    ∷ Do (Step.Listen 1 (ordered (path_keys (codes "/a")) Index.Key (Some (First 2))))
    ∷ Do (Step.Data 1 (path_keys (codes "/a")) (object ((codes "x", num 1) ∷ (codes "y", num 2)
    ∷ [])))
    ∷ Do (Step.Listen 1 (plain (path_keys (codes "/a"))))
    ∷ ShowView 2
    ∷ Do (Step.Data 1 (path_keys (codes "/a")) (object ((codes "x", num 9) ∷ [])))
    ∷ Do (Step.Data 2 (path_keys (codes "/a")) (object ((codes "w", num 0) ∷ (codes "x", num 1)
    ∷ (codes "y", num 2) ∷ [])))
    ∷ Do (Step.Write 1 (Put (path_keys (codes "/a/w")) null))
    ∷ Do (Step.Unlisten 1 2)
    ∷ TakeOut
    ∷ Do (Step.Refused 1 (codes "denied")) ∷ [])
    ≡ answered None []
    ∷ answered (Some 1) []
    ∷ answered None (told 1 (batch 1 (Added (codes "x") (num 1) None
    ∷ Added (codes "y") (num 2) (Some (codes "x"))
    ∷ Value (object ((codes "x", num 1) ∷ (codes "y", num 2) ∷ [])) ∷ [])) ∷ [])
    ∷ answered (Some 2) []
    ∷ Viewed None
    ∷ was_stale
    ∷ answered None (told 1 (batch 1 (Removed (codes "y") (num 2) ∷ Added (codes "w") (num 0) None
    ∷ Value (object ((codes "w", num 0) ∷ (codes "x", num 1) ∷ [])) ∷ []))
    ∷ told 1 (batch 2 (Added (codes "w") (num 0) None
    ∷ Added (codes "x") (num 1) (Some (codes "w")) ∷ Added (codes "y") (num 2) (Some (codes "x"))
    ∷ Value (object ((codes "w", num 0) ∷ (codes "x", num 1) ∷ (codes "y", num 2) ∷ [])) ∷ []))
    ∷ [])
    ∷ answered (Some 1) (told 1 (batch 1 (Removed (codes "w") (num 0)
    ∷ Added (codes "y") (num 2) (Some (codes "x"))
    ∷ Value (object ((codes "x", num 1) ∷ (codes "y", num 2) ∷ [])) ∷ []))
    ∷ told 1 (batch 2 (Removed (codes "w") (num 0)
    ∷ Value (object ((codes "x", num 1) ∷ (codes "y", num 2) ∷ [])) ∷ [])) ∷ [])
    ∷ answered None []
    ∷ Sent (ClientMessage.Hello 2
    ∷ ClientMessage.Listen 1 (ordered (path_keys (codes "/a")) Index.Key (Some (First 2)))
    ∷ ClientMessage.Listen 2 (plain (path_keys (codes "/a"))) ∷ ClientMessage.Unlisten 1
    ∷ ClientMessage.Ask 1 (Now (Put (path_keys (codes "/a/w")) null))
    ∷ ClientMessage.Listen 3 (ordered (path_keys (codes "/a")) Index.Key (Some (First 2)))
    ∷ ClientMessage.Unlisten 2 ∷ [])
    ∷ answered None (told 1 (Settled 1 (Some (codes "denied")))
    ∷ told 1 (batch 1 (Removed (codes "y") (num 2) ∷ Added (codes "w") (num 0) None
    ∷ Value (object ((codes "w", num 0) ∷ (codes "x", num 1) ∷ [])) ∷ [])) ∷ [])
    ∷ []

-- a limit is taken over the pending writes
abbrev pub LimitWithRemovals : Type 0
LimitWithRemovals =
    shows fresh (
    Do Step.Connected
    ∷ Do (Step.Listen 1 (ordered (path_keys (codes "/a")) Index.Key (Some (First 2))))
    ∷ Do (Step.Data 1 (path_keys (codes "/a")) (object ((codes "a", num 1) ∷ (codes "b", num 2)
    ∷ [])))
    ∷ Do (Step.Write 1 (Put (path_keys (codes "/a/a")) null))
    ∷ Do (Step.Write 1 (Put (path_keys (codes "/a/b")) null))
    ∷ Do (Step.Refused 1 (codes "denied"))
    ∷ Do (Step.Refused 2 (codes "denied")) ∷ [])
    ≡ answered None []
    ∷ answered (Some 1) []
    ∷ answered None (told 1 (batch 1 (Added (codes "a") (num 1) None
    ∷ Added (codes "b") (num 2) (Some (codes "a"))
    ∷ Value (object ((codes "a", num 1) ∷ (codes "b", num 2) ∷ [])) ∷ [])) ∷ [])
    ∷ answered (Some 1) (told 1 (batch 1 (Removed (codes "a") (num 1)
    ∷ Value (object ((codes "b", num 2) ∷ [])) ∷ [])) ∷ [])
    ∷ answered (Some 2) (told 1 (batch 1 (Removed (codes "b") (num 2) ∷ Value null ∷ [])) ∷ [])
    ∷ answered None (told 1 (Settled 1 (Some (codes "denied")))
    ∷ told 1 (batch 1 (Added (codes "a") (num 1) None ∷ Value (object ((codes "a", num 1) ∷ []))
    ∷ [])) ∷ [])
    ∷ answered None (told 1 (Settled 2 (Some (codes "denied")))
    ∷ told 1 (batch 1 (Added (codes "b") (num 2) (Some (codes "a"))
    ∷ Value (object ((codes "a", num 1) ∷ (codes "b", num 2) ∷ [])) ∷ [])) ∷ [])
    ∷ []

-- a deep pending write does not make a child known
abbrev pub DeepWriteUnknownChild : Type 0
DeepWriteUnknownChild =
    shows fresh (
    Do Step.Connected
    ∷ Do (Step.Listen 1 (ordered (path_keys (codes "/a")) Index.Key (Some (First 2))))
    ∷ Do (Step.Data 1 (path_keys (codes "/a")) (object ((codes "p", num 1) ∷ [])))
    ∷ Do (Step.Write 1 (Put (path_keys (codes "/a/q/d")) (num 5)))
    ∷ Do (Step.Write 1 (Put (path_keys (codes "/a/q")) (object ((codes "m", num 1) ∷ []))))
    ∷ Do (Step.Data 1 (path_keys (codes "/a/q")) (object ((codes "m", num 1) ∷ [])))
    ∷ Do (Step.Accepted 1)
    ∷ Do (Step.Accepted 2) ∷ [])
    ≡ answered None []
    ∷ answered (Some 1) []
    ∷ answered None (told 1 (batch 1 (Added (codes "p") (num 1) None
    ∷ Value (object ((codes "p", num 1) ∷ [])) ∷ [])) ∷ [])
    ∷ answered (Some 1) []
    ∷ answered (Some 2) (told 1
    (batch 1 (Added (codes "q") (object ((codes "m", num 1) ∷ [])) (Some (codes "p")) ∷ Value
    (object ((codes "p", num 1) ∷ (codes "q", object ((codes "m", num 1) ∷ [])) ∷ [])) ∷ [])) ∷
    [])
    ∷ answered None []
    ∷ answered None (told 1 (Settled 1 None) ∷ [])
    ∷ answered None (told 1 (Settled 2 None) ∷ [])
    ∷ []

-- a refused write does not come back over later ones
abbrev pub ThreeSetsTwoRefused : Type 0
ThreeSetsTwoRefused =
    shows fresh (
    Do Step.Connected
    ∷ Do (Step.Listen 1 (plain (path_keys (codes "/a"))))
    ∷ Do (Step.Data 1 (path_keys (codes "/a")) (num 0))
    ∷ Do (Step.Write 1 (Put (path_keys (codes "/a")) (num 1)))
    ∷ Do (Step.Write 1 (Put (path_keys (codes "/a")) (num 2)))
    ∷ Do (Step.Write 1 (Put (path_keys (codes "/a")) (num 3)))
    ∷ Do (Step.Refused 2 (codes "denied"))
    ∷ Do (Step.Accepted 1)
    ∷ Do (Step.Refused 3 (codes "denied")) ∷ [])
    ≡ answered None []
    ∷ answered (Some 1) []
    ∷ answered None (told 1 (batch 1 (Value (num 0) ∷ [])) ∷ [])
    ∷ answered (Some 1) (told 1 (batch 1 (Value (num 1) ∷ [])) ∷ [])
    ∷ answered (Some 2) (told 1 (batch 1 (Value (num 2) ∷ [])) ∷ [])
    ∷ answered (Some 3) (told 1 (batch 1 (Value (num 3) ∷ [])) ∷ [])
    ∷ answered None (told 1 (Settled 2 (Some (codes "denied"))) ∷ [])
    ∷ answered None (told 1 (Settled 1 None) ∷ [])
    ∷ answered None (told 1 (Settled 3 (Some (codes "denied")))
    ∷ told 1 (batch 1 (Value (num 0) ∷ [])) ∷ [])
    ∷ []

-- a child whose sort value differs is moved, also in its place
abbrev pub MovedInPlace : Type 0
MovedInPlace =
    shows fresh (
    Do Step.Connected
    ∷ Do (Step.Listen 1 (ordered (path_keys (codes "/a")) (Index.Child (path_keys (codes "v"))) None))
    ∷ Do (Step.Data 1 (path_keys (codes "/a")) (object ((
      codes "p",
      object ((codes "v", num 1)
          ∷ []),
    ) ∷ (codes "q", object ((codes "v", num 5) ∷ [])) ∷ [])))
    ∷ Do (Step.Data 1 (path_keys (codes "/a/p/v")) (num 3)) ∷ [])
    ≡ answered None []
    ∷ answered (Some 1) []
    ∷ answered None (told 1 (batch 1 (Added (codes "p") (object ((codes "v", num 1) ∷ [])) None
    ∷ Added (codes "q") (object ((codes "v", num 5) ∷ [])) (Some (codes "p"))
    ∷ Value (object ((codes "p", object ((codes "v", num 1) ∷ [])) ∷ (
      codes "q",
      object ((codes "v", num 5) ∷ []),
    ) ∷ [])) ∷ [])) ∷ [])
    ∷ answered None (told 1 (batch 1 (Moved (codes "p") (object ((codes "v", num 3) ∷ [])) None
    ∷ Changed (codes "p") (object ((codes "v", num 3) ∷ [])) None
    ∷ Value (object ((codes "p", object ((codes "v", num 3) ∷ [])) ∷ (
      codes "q",
      object ((codes "v", num 5) ∷ []),
    ) ∷ [])) ∷ [])) ∷ [])
    ∷ []

-- changes by value
abbrev pub AddedMovedChanged : Type 0
AddedMovedChanged =
    shows fresh (
    Do Step.Connected
    ∷ Do (Step.Listen 1 (ordered (path_keys (codes "/r")) Index.Value None))
    ∷ Do (Step.Data 1 (path_keys (codes "/r")) (object ((codes "m", num 1) ∷ (codes "a", num 2)
    ∷ [])))
    ∷ Do (Step.Data 1 (path_keys (codes "/r")) (object ((codes "a", num 2) ∷ (codes "m", num 3)
    ∷ (codes "x", num 4) ∷ []))) ∷ [])
    ≡ answered None []
    ∷ answered (Some 1) []
    ∷ answered None (told 1 (batch 1 (Added (codes "m") (num 1) None
    ∷ Added (codes "a") (num 2) (Some (codes "m"))
    ∷ Value (object ((codes "a", num 2) ∷ (codes "m", num 1) ∷ [])) ∷ [])) ∷ [])
    ∷ answered None (told 1 (batch 1 (Added (codes "x") (num 4) (Some (codes "m"))
    ∷ Moved (codes "m") (num 3) (Some (codes "a"))
    ∷ Changed (codes "m") (num 3) (Some (codes "a"))
    ∷ Value (object ((codes "a", num 2) ∷ (codes "m", num 3) ∷ (codes "x", num 4) ∷ [])) ∷ []))
    ∷ [])
    ∷ []

-- after a reconnection the kept listens and the unsettled requests are sent
abbrev pub ReconnectResends : Type 0
ReconnectResends =
    shows fresh (
    Do Step.Connected
    ∷ Do (Step.Listen 1 (plain (path_keys (codes "/a"))))
    ∷ Do (Step.Listen 1 (plain (path_keys (codes "/b"))))
    ∷ Do (Step.Write 1 (Put (path_keys (codes "/a/x")) (num 1)))
    ∷ Do (Step.Write 1 (Merge (((path_keys (codes "/b/y")), num 2)
    ∷ ((path_keys (codes "/b/z")), null) ∷ [])))
    ∷ Do (Step.Write 1 (Put (path_keys (codes "/c")) null))
    ∷ Do Step.Disconnected
    ∷ Do Step.Connected
    ∷ TakeOut
    ∷ Do (Step.Accepted 2)
    ∷ Do (Step.Accepted 2) ∷ [])
    ≡ answered None []
    ∷ answered (Some 1) []
    ∷ answered (Some 2) []
    ∷ answered (Some 1) []
    ∷ answered (Some 2) []
    ∷ answered (Some 3) []
    ∷ answered None []
    ∷ answered None []
    ∷ Sent (ClientMessage.Hello 2
    ∷ ClientMessage.Listen 1 (plain (path_keys (codes "/a")))
    ∷ ClientMessage.Listen 2 (plain (path_keys (codes "/b")))
    ∷ ClientMessage.Ask 1 (Now (Put (path_keys (codes "/a/x")) (num 1)))
    ∷ ClientMessage.Ask 2 (Now (Merge (((path_keys (codes "/b/y")), num 2)
    ∷ ((path_keys (codes "/b/z")), null) ∷ [])))
    ∷ ClientMessage.Ask 3 (Now (Put (path_keys (codes "/c")) null)) ∷ [])
    ∷ answered None (told 1 (Settled 2 None) ∷ [])
    ∷ was_stale
    ∷ []

-- a revoked listen ends its listeners, and the covered ones get a listen of their own
abbrev pub RevokedPlainListen : Type 0
RevokedPlainListen =
    shows fresh (
    Do Step.Connected
    ∷ Do (Step.Listen 1 (plain (path_keys (codes "/a"))))
    ∷ Do (Step.Listen 1 (ordered (path_keys (codes "/a")) Index.Key (Some (Last 1))))
    ∷ Do (Step.Data 1 (path_keys (codes "/a")) (object ((codes "x", num 1) ∷ (codes "y", num 2)
    ∷ [])))
    ∷ Do (Step.Revoked 1 (codes "denied"))
    ∷ TakeOut ∷ [])
    ≡ answered None []
    ∷ answered (Some 1) []
    ∷ answered (Some 2) []
    ∷ answered None (told 1 (batch 1 (Added (codes "x") (num 1) None
    ∷ Added (codes "y") (num 2) (Some (codes "x"))
    ∷ Value (object ((codes "x", num 1) ∷ (codes "y", num 2) ∷ [])) ∷ []))
    ∷ told 1 (batch 2 (Added (codes "y") (num 2) None ∷ Value (object ((codes "y", num 2) ∷ []))
    ∷ [])) ∷ [])
    ∷ answered None (told 1 (Cancelled 1 (codes "denied")) ∷ [])
    ∷ Sent (ClientMessage.Hello 2
    ∷ ClientMessage.Listen 1 (plain (path_keys (codes "/a")))
    ∷ ClientMessage.Listen 2 (ordered (path_keys (codes "/a")) Index.Key (Some (Last 1))) ∷ [])
    ∷ []

-- null under a leaf leaves the leaf; another child takes its place
abbrev pub LeafAndChild : Type 0
LeafAndChild =
    shows fresh (
    Do Step.Connected
    ∷ Do (Step.Listen 1 (plain (path_keys (codes "/a"))))
    ∷ Do (Step.Data 1 (path_keys (codes "/a")) (num 7))
    ∷ Do (Step.Write 1 (Put (path_keys (codes "/a/b")) null))
    ∷ ShowView 1
    ∷ Do (Step.Write 1 (Put (path_keys (codes "/a/b")) yes_leaf))
    ∷ ShowView 1 ∷ [])
    ≡ answered None []
    ∷ answered (Some 1) []
    ∷ answered None (told 1 (batch 1 (Value (num 7) ∷ [])) ∷ [])
    ∷ answered (Some 1) []
    ∷ Viewed (shown_leaf (number (pos 7)))
    ∷ answered (Some 2) (told 1 (batch 1 (Added (codes "b") yes_leaf None
    ∷ Value (object ((codes "b", yes_leaf) ∷ [])) ∷ [])) ∷ [])
    ∷ Viewed (of_rows (row_of (codes "b") yes_leaf ∷ []))
    ∷ []

-- a plain listen at the root, and a write
abbrev pub RootListen : Type 0
RootListen =
    shows fresh (
    Do Step.Connected
    ∷ Do (Step.Listen 1 (plain []))
    ∷ Do (Step.Data 1 [] (object ((codes "b", num 1) ∷ (codes "a", yes_leaf) ∷ [])))
    ∷ Do (Step.Write 1 (Put (path_keys (codes "/c")) (txt (codes "x")))) ∷ [])
    ≡ answered None []
    ∷ answered (Some 1) []
    ∷ answered None (told 1 (batch 1 (Added (codes "a") yes_leaf None
    ∷ Added (codes "b") (num 1) (Some (codes "a"))
    ∷ Value (object ((codes "a", yes_leaf) ∷ (codes "b", num 1) ∷ [])) ∷ [])) ∷ [])
    ∷ answered (Some 1) (told 1 (batch 1 (Added (codes "c") (txt (codes "x")) (Some (codes "b"))
    ∷ Value (object ((codes "a", yes_leaf) ∷ (codes "b", num 1) ∷ (codes "c", txt (codes "x")) ∷
    [])) ∷ [])) ∷ [])
    ∷ []

-- writes under a plain listen, and a whole window when it goes
abbrev pub WholeWindow : Type 0
WholeWindow =
    shows fresh (
    Do Step.Connected
    ∷ Do (Step.Listen 1 (ordered (path_keys (codes "/a")) Index.Key (Some (First 5))))
    ∷ Do (Step.Listen 1 (plain (path_keys (codes "/a"))))
    ∷ Do (Step.Data 2 (path_keys (codes "/a")) (object ((codes "p", num 1) ∷ [])))
    ∷ Do (Step.Write 1 (Put (path_keys (codes "/a/q/d")) (num 5)))
    ∷ Do (Step.Unlisten 1 2)
    ∷ Do (Step.Data 3 (path_keys (codes "/a")) (object ((codes "p", num 1) ∷ []))) ∷ [])
    ≡ answered None []
    ∷ answered (Some 1) []
    ∷ answered (Some 2) []
    ∷ answered None (told 1 (batch 1 (Added (codes "p") (num 1) None
    ∷ Value (object ((codes "p", num 1) ∷ [])) ∷ []))
    ∷ told 1 (batch 2 (Added (codes "p") (num 1) None ∷ Value (object ((codes "p", num 1) ∷ []))
    ∷ [])) ∷ [])
    ∷ answered (Some 1) (told 1
    (batch 1 (Added (codes "q") (object ((codes "d", num 5) ∷ [])) (Some (codes "p")) ∷ Value
    (object ((codes "p", num 1) ∷ (codes "q", object ((codes "d", num 5) ∷ [])) ∷ [])) ∷ [])) ∷
    told 1 (batch 2 (Added (codes "q") (object ((codes "d", num 5) ∷ []))
    (Some (codes "p")) ∷ Value
    (object ((codes "p", num 1) ∷ (codes "q", object ((codes "d", num 5) ∷ [])) ∷ [])) ∷ [])) ∷
    [])
    ∷ answered None []
    ∷ answered None (told 1 (batch 1 (Removed (codes "q") (object ((codes "d", num 5) ∷ []))
    ∷ Value (object ((codes "p", num 1) ∷ [])) ∷ [])) ∷ [])
    ∷ []

-- a write alone makes a listener known
abbrev pub WritePrimes : Type 0
WritePrimes =
    shows fresh (
    Do Step.Connected
    ∷ Do (Step.Listen 1 (plain (path_keys (codes "/a"))))
    ∷ Do (Step.Write 1 (Put (path_keys (codes "/a")) (num 5)))
    ∷ Do (Step.Refused 1 (codes "denied")) ∷ [])
    ≡ answered None []
    ∷ answered (Some 1) []
    ∷ answered (Some 1) (told 1 (batch 1 (Value (num 5) ∷ [])) ∷ [])
    ∷ answered None (told 1 (Settled 1 (Some (codes "denied")))
    ∷ told 1 (batch 1 (Value null ∷ [])) ∷ [])
    ∷ []

-- actions at the end of the connection are asked for and dropped
abbrev pub DisconnectActions : Type 0
DisconnectActions =
    shows fresh (
    Do Step.Connected
    ∷ Do (Step.OnDisconnect 1 (Run (Put (path_keys (codes "/p")) yes_leaf)))
    ∷ Do (Step.OnDisconnect 1 (Run (Merge (((path_keys (codes "/p")), num 1) ∷ []))))
    ∷ Do (Step.OnDisconnect 1 (Cancel (path_keys (codes "/p"))))
    ∷ TakeOut ∷ [])
    ≡ answered None []
    ∷ answered (Some 1) []
    ∷ answered (Some 2) []
    ∷ answered (Some 3) []
    ∷ Sent (ClientMessage.Hello 2
    ∷ ClientMessage.Ask 1 (AtDisconnect (Run (Put (path_keys (codes "/p")) yes_leaf)))
    ∷ ClientMessage.Ask 2 (AtDisconnect (Run (Merge (((path_keys (codes "/p")), num 1) ∷ []))))
    ∷ ClientMessage.Ask 3 (AtDisconnect (Cancel (path_keys (codes "/p")))) ∷ [])
    ∷ []

-- a push of several entries is one step
abbrev pub MergePush : Type 0
MergePush =
    shows fresh (
    Do Step.Connected
    ∷ Do (Step.Listen 1 (plain []))
    ∷ Do (Step.Data 1 [] (object ((codes "b", num 1) ∷ (codes "a", yes_leaf) ∷ [])))
    ∷ Do (Step.DataMerge 1 (((path_keys (codes "/a")), null) ∷ ((path_keys (codes "/d")), num 2)
    ∷ []))
    ∷ Do (Step.DataMerge 1 [])
    ∷ Do (Step.DataMerge 1 (((path_keys (codes "/d")), num 1)
    ∷ ((path_keys (codes "/d/e")), num 2) ∷ [])) ∷ [])
    ≡ answered None []
    ∷ answered (Some 1) []
    ∷ answered None (told 1 (batch 1 (Added (codes "a") yes_leaf None
    ∷ Added (codes "b") (num 1) (Some (codes "a"))
    ∷ Value (object ((codes "a", yes_leaf) ∷ (codes "b", num 1) ∷ [])) ∷ [])) ∷ [])
    ∷ answered None (told 1 (batch 1 (Removed (codes "a") yes_leaf
    ∷ Added (codes "d") (num 2) (Some (codes "b"))
    ∷ Value (object ((codes "b", num 1) ∷ (codes "d", num 2) ∷ [])) ∷ [])) ∷ [])
    ∷ refused BadPush
    ∷ refused BadPush
    ∷ []

-- a listen that is pushed null at its path, and the same for the second
abbrev pub pushed_nulls : List Line
pushed_nulls =
    Do Step.Connected
    ∷ Do (Step.Listen 1 (plain (path_keys (codes "/a"))))
    ∷ Do (Step.Listen 1 (plain (path_keys (codes "/b"))))
    ∷ Do (Step.Data 1 (path_keys (codes "/a")) null)
    ∷ Do (Step.Data 2 (path_keys (codes "/b")) null)
    ∷ []

-- parts are one step; one whose tag isn't kept is passed over, and all such are stale; a path outside a
-- part's listen, two parts of one tag and no parts are refused
abbrev pub PartsInOneStep : Type 0
PartsInOneStep =
    shows fresh (pushed_nulls ++
    Do (Step.Push ((1, (path_keys (codes "/a/x"), num 1) ∷ [])
    ∷ (2, (path_keys (codes "/b/y"), num 2) ∷ []) ∷ []))
    ∷ Do (Step.Push ((9, (path_keys (codes "/a"), num 1) ∷ []) ∷ []))
    ∷ Do (Step.Push ((9, (path_keys (codes "/a"), num 1) ∷ [])
    ∷ (1, (path_keys (codes "/a/x"), num 3) ∷ []) ∷ []))
    ∷ Do (Step.Push ((1, (path_keys (codes "/b"), num 1) ∷ []) ∷ []))
    ∷ Do (Step.Push ((1, (path_keys (codes "/a/x"), num 1) ∷ [])
    ∷ (1, (path_keys (codes "/a/z"), num 1) ∷ []) ∷ []))
    ∷ Do (Step.Push []) ∷ [])
    ≡ answered None []
    ∷ answered (Some 1) []
    ∷ answered (Some 2) []
    ∷ answered None (told 1 (batch 1 (Value null ∷ [])) ∷ [])
    ∷ answered None (told 1 (batch 2 (Value null ∷ [])) ∷ [])
    ∷ answered None (told 1 (batch 1 (Added (codes "x") (num 1) None
    ∷ Value (object ((codes "x", num 1) ∷ [])) ∷ []))
    ∷ told 1 (batch 2 (Added (codes "y") (num 2) None
    ∷ Value (object ((codes "y", num 2) ∷ [])) ∷ [])) ∷ [])
    ∷ was_stale
    ∷ answered None (told 1 (batch 1 (Changed (codes "x") (num 3) None
    ∷ Value (object ((codes "x", num 3) ∷ [])) ∷ [])) ∷ [])
    ∷ refused BadPush
    ∷ refused BadPush
    ∷ refused BadPush
    ∷ []

-- a filtered listen without a window is given one by an entry at its path alone, and does not hold up a
-- part beside it; a listener that two parts meet is told once
abbrev pub PartsPassedOver : Type 0
PartsPassedOver =
    shows fresh (
    Do (Step.Push [])
    ∷ Do (Step.Push ((1, (path_keys (codes "/a"), num 1) ∷ []) ∷ []))
    ∷ Do Step.Connected
    ∷ Do (Step.Listen 1 (ordered (path_keys (codes "/a")) Index.Key (Some (First 2))))
    ∷ Do (Step.Listen 1 (plain (path_keys (codes "/a/x"))))
    ∷ Do (Step.Push ((1, (path_keys (codes "/a/x"), num 1) ∷ []) ∷ []))
    ∷ Do (Step.Push ((1, (path_keys (codes "/a/x"), num 1) ∷ [])
    ∷ (2, (path_keys (codes "/a/x"), num 7) ∷ []) ∷ []))
    ∷ Do (Step.Push ((1, (path_keys (codes "/a"), object ((codes "x", num 1) ∷ [])) ∷ [])
    ∷ (2, (path_keys (codes "/a/x"), num 8) ∷ []) ∷ []))
    ∷ Do (Step.Push ((1, (path_keys (codes "/a/x"), num 2) ∷ (path_keys (codes "/a/y"), num 3) ∷ [])
    ∷ (2, (path_keys (codes "/a/x"), num 8) ∷ []) ∷ [])) ∷ [])
    ≡ refused BadPush
    ∷ refused NotConnected
    ∷ answered None []
    ∷ answered (Some 1) []
    ∷ answered (Some 2) []
    ∷ was_stale
    ∷ answered None (told 1 (batch 2 (Value (num 7) ∷ [])) ∷ [])
    ∷ answered None (told 1 (batch 1 (Added (codes "x") (num 1) None
    ∷ Value (object ((codes "x", num 1) ∷ [])) ∷ []))
    ∷ told 1 (batch 2 (Value (num 8) ∷ [])) ∷ [])
    ∷ answered None (told 1 (batch 1 (Added (codes "y") (num 3) (Some (codes "x"))
    ∷ Changed (codes "x") (num 2) None
    ∷ Value (object ((codes "x", num 2) ∷ (codes "y", num 3) ∷ [])) ∷ [])) ∷ [])
    ∷ []

-- a refused write over a leaf shows the leaf again
abbrev pub RefusalUnderLeaf : Type 0
RefusalUnderLeaf =
    shows fresh (
    Do Step.Connected
    ∷ Do (Step.Listen 1 (plain (path_keys (codes "/a"))))
    ∷ Do (Step.Data 1 (path_keys (codes "/a")) (num 7))
    ∷ Do (Step.Write 1 (Put (path_keys (codes "/a/b")) null))
    ∷ ShowView 1
    ∷ Do (Step.Write 1 (Put (path_keys (codes "/a/b")) yes_leaf))
    ∷ ShowView 1
    ∷ Do (Step.Refused 2 (codes "denied")) ∷ [])
    ≡ answered None []
    ∷ answered (Some 1) []
    ∷ answered None (told 1 (batch 1 (Value (num 7) ∷ [])) ∷ [])
    ∷ answered (Some 1) []
    ∷ Viewed (shown_leaf (number (pos 7)))
    ∷ answered (Some 2) (told 1 (batch 1 (Added (codes "b") yes_leaf None
    ∷ Value (object ((codes "b", yes_leaf) ∷ [])) ∷ [])) ∷ [])
    ∷ Viewed (of_rows (row_of (codes "b") yes_leaf ∷ []))
    ∷ answered None (told 1 (Settled 2 (Some (codes "denied")))
    ∷ told 1 (batch 1 (Removed (codes "b") yes_leaf ∷ Value (num 7) ∷ [])) ∷ [])
    ∷ []

-- a listen under another is taken up again when that one goes
abbrev pub PlainCover : Type 0
PlainCover =
    shows fresh (
    Do Step.Connected
    ∷ Do (Step.Listen 1 (plain (path_keys (codes "/a"))))
    ∷ Do (Step.Listen 1 (plain (path_keys (codes "/a/b"))))
    ∷ ShowCover
    ∷ Do (Step.Data 1 (path_keys (codes "/a")) (object ((codes "b", num 3) ∷ (codes "c", num 4)
    ∷ [])))
    ∷ Do (Step.Unlisten 1 1)
    ∷ ShowCover
    ∷ Do (Step.Data 1 (path_keys (codes "/a/b")) (num 5))
    ∷ Do (Step.Revoked 2 (codes "denied"))
    ∷ Do (Step.Revoked 2 (codes "denied"))
    ∷ ShowCover ∷ [])
    ≡ answered None []
    ∷ answered (Some 1) []
    ∷ answered (Some 2) []
    ∷ Covered (kept_as 1 (plain (path_keys (codes "/a"))) 1 ∷ [])
    ∷ answered None (told 1 (batch 1 (Added (codes "b") (num 3) None
    ∷ Added (codes "c") (num 4) (Some (codes "b"))
    ∷ Value (object ((codes "b", num 3) ∷ (codes "c", num 4) ∷ [])) ∷ []))
    ∷ told 1 (batch 2 (Value (num 3) ∷ [])) ∷ [])
    ∷ answered None []
    ∷ Covered (kept_as 2 (plain (path_keys (codes "/a/b"))) 2 ∷ [])
    ∷ was_stale
    ∷ answered None (told 1 (Cancelled 2 (codes "denied")) ∷ [])
    ∷ was_stale
    ∷ Covered []
    ∷ []

-- refusals in their order, and stale steps
abbrev pub Refusals : Type 0
Refusals =
    shows fresh (
    Do (Step.Data 1 (path_keys (codes "/a")) (num 1))
    ∷ Do Step.Connected
    ∷ Do Step.Connected
    ∷ Do (Step.Unlisten 1 7)
    ∷ Do (Step.Write 1 (Merge []))
    ∷ Do (Step.Write 1 (Merge (((path_keys (codes "/a")), num 1)
    ∷ ((path_keys (codes "a/b")), num 2) ∷ [])))
    ∷ Do (Step.Listen 1 (plain (path_keys (codes "/a"))))
    ∷ Do (Step.Data 1 (path_keys (codes "/b")) (num 1))
    ∷ Do (Step.Unlisten 2 1)
    ∷ Do (Step.Accepted 9)
    ∷ Do (Step.Listen 1 (ordered (path_keys (codes "/b")) Index.Key (Some (First 1))))
    ∷ Do (Step.Data 2 (path_keys (codes "/b/x")) (num 1))
    ∷ Do (Step.Write 1 (Put
    (path_keys (codes "/k/k/k/k/k/k/k/k/k/k/k/k/k/k/k/k/k/k/k/k/k/k/k/k/k/k/k/k/k/k/k/k"))
    (object ((codes "k", num 1) ∷ []))))
    ∷ Do (Step.CloseSeat 1)
    ∷ ShowCover ∷ [])
    ≡ refused NotConnected
    ∷ answered None []
    ∷ refused AlreadyConnected
    ∷ refused UnknownListener
    ∷ refused EmptyUpdate
    ∷ refused Overlap
    ∷ answered (Some 1) []
    ∷ refused BadPush
    ∷ refused UnknownListener
    ∷ was_stale
    ∷ answered (Some 2) []
    ∷ was_stale
    ∷ refused TooDeep
    ∷ answered None []
    ∷ Covered []
    ∷ []
