-- Outside examples of ranges that supply others, which the prover computes.
use Rattle.std.specs.Prelude.{◌≡◌, ℕ, [], ◌∷◌, pos, Option, Some, None, codes}
use Rattle.rt_tree.specs.Leaf.{number}
use Rattle.rt_tree.specs.Path.{path_keys}
use Rattle.rt_tree.specs.PathTree.{Path, null, object}
use Rattle.rt_order.specs.declared.index.Index.{Index}
use Rattle.rt_order.specs.declared.cut.Mark.TheVariants as mark
use Rattle.rt_order.specs.declared.cut.Place.TheVariants.{Min, Max}
use Rattle.rt_order.specs.declared.cut.Cut.{Cut}
use Rattle.rt_query.specs.declared.query.Limit.{Limit}
use Rattle.rt_query.specs.declared.query.Limit.TheVariants.{First, Last}
use Rattle.rt_query.specs.Queries.{Query, plain}
use Rattle.rt_view.specs.declared.change.Change.TheVariants.{Removed, Added, Value}
use Rattle.rt_wire.specs.declared.client.ClientMessage.{ClientMessage}
use Rattle.rt_wire.specs.declared.request.Action.TheVariants.{Put}
use Rattle.rt_world.specs.declared.report.Body.TheVariants.{Cancelled}
use Rattle.rt_world.specs.declared.step.Step.{Step}
use Rattle.rt_world.specs.laws.Script.{Do, TakeOut, ShowCover, ShowView, Sent, Covered, Viewed, shows}
use Rattle.rt_world.specs.laws.Script.{fresh, num, ordered, answered, told, batch, kept_as}
use Rattle.rt_world.specs.laws.Script.{of_rows, row_of}

-- the path that all are at
abbrev pub a : Path
a = path_keys (codes "/a")

-- from a number on, and up to one
abbrev pub from : ℕ → Option Cut
from n = Some (record { value = mark.Leaf (number (pos n)); place = Min })

abbrev pub upto : ℕ → Option Cut
upto n = Some (record { value = mark.Leaf (number (pos n)); place = Max })

-- the values between two cuts
abbrev pub by_value : Option Cut → Option Cut → Option Limit → Query
by_value lower upper limit = record (ordered a Index.Value limit) { range = record { lower = lower; upper = upper } }

-- a range supplies a narrower one
abbrev pub RangeSuppliesNarrower : Type 0
RangeSuppliesNarrower =
    shows fresh (
    Do Step.Connected
    ∷ Do (Step.Listen 1 (by_value (from 5) (upto 9) (Some (First 1))))
    ∷ Do (Step.Data 1 a (object ((codes "p", num 6) ∷ [])))
    ∷ Do (Step.Listen 1 (by_value (from 3) None None))
    ∷ ShowCover
    ∷ ShowView 2
    ∷ Do (Step.Data 2 a (object ((codes "m", num 4) ∷ (codes "o", num 5) ∷ (codes "p", num 6) ∷ [])))
    ∷ Do (Step.Unlisten 1 2)
    ∷ ShowCover
    ∷ Do (Step.Write 1 (Put (path_keys (codes "/a/o")) null)) ∷ [])
    ≡ answered None []
    ∷ answered (Some 1) []
    ∷ answered None (told 1 (batch 1 (Added (codes "p") (num 6) None ∷ Value (object ((codes "p", num 6) ∷ [])) ∷ [])) ∷ [])
    ∷ answered (Some 2) []
    ∷ Covered (kept_as 2 (by_value (from 3) None None) 2 ∷ [])
    ∷ Viewed None
    ∷ answered None (told 1 (batch 1 (Removed (codes "p") (num 6) ∷ Added (codes "o") (num 5) None ∷ Value (object ((codes "o", num 5) ∷ [])) ∷ [])) ∷ told 1 (batch 2 (Added (codes "m") (num 4) None ∷ Added (codes "o") (num 5) (Some (codes "m")) ∷ Added (codes "p") (num 6) (Some (codes "o")) ∷ Value (object ((codes "m", num 4) ∷ (codes "o", num 5) ∷ (codes "p", num 6) ∷ [])) ∷ [])) ∷ [])
    ∷ answered None []
    ∷ Covered (kept_as 3 (by_value (from 5) (upto 9) (Some (First 1))) 1 ∷ [])
    ∷ answered (Some 1) (told 1 (batch 1 (Removed (codes "o") (num 5) ∷ Added (codes "p") (num 6) None ∷ Value (object ((codes "p", num 6) ∷ [])) ∷ [])) ∷ [])
    ∷ []

-- a base is the window of the first supplier
abbrev pub RangeWindows : Type 0
RangeWindows =
    shows fresh (
    Do Step.Connected
    ∷ Do (Step.Listen 1 (by_value (from 1) (upto 9) None))
    ∷ Do (Step.Listen 1 (by_value (from 3) (upto 20) None))
    ∷ Do (Step.Listen 1 (by_value (from 4) (upto 8) None))
    ∷ Do (Step.Data 1 a (object ((codes "p", num 5) ∷ [])))
    ∷ Do (Step.Data 2 a (object ((codes "p", num 5) ∷ (codes "r", num 6) ∷ [])))
    ∷ Do (Step.Unlisten 1 1) ∷ [])
    ≡ answered None []
    ∷ answered (Some 1) []
    ∷ answered (Some 2) []
    ∷ answered (Some 3) []
    ∷ answered None (told 1 (batch 1 (Added (codes "p") (num 5) None ∷ Value (object ((codes "p", num 5) ∷ [])) ∷ [])) ∷ told 1 (batch 3 (Added (codes "p") (num 5) None ∷ Value (object ((codes "p", num 5) ∷ [])) ∷ [])) ∷ [])
    ∷ answered None (told 1 (batch 2 (Added (codes "p") (num 5) None ∷ Added (codes "r") (num 6) (Some (codes "p")) ∷ Value (object ((codes "p", num 5) ∷ (codes "r", num 6) ∷ [])) ∷ [])) ∷ [])
    ∷ answered None (told 1 (batch 3 (Added (codes "r") (num 6) (Some (codes "p")) ∷ Value (object ((codes "p", num 5) ∷ (codes "r", num 6) ∷ [])) ∷ [])) ∷ [])
    ∷ []

-- the first supplier is another once its least-numbered listener goes, though its form stays
abbrev pub FirstSupplierChanges : Type 0
FirstSupplierChanges =
    shows fresh (
    Do Step.Connected
    ∷ Do (Step.Listen 1 (by_value (from 1) (upto 9) None))
    ∷ Do (Step.Listen 1 (by_value (from 3) (upto 20) None))
    ∷ Do (Step.Listen 1 (by_value (from 4) (upto 8) None))
    ∷ Do (Step.Listen 1 (by_value (from 1) (upto 9) None))
    ∷ Do (Step.Data 1 a (object ((codes "p", num 5) ∷ [])))
    ∷ Do (Step.Data 2 a (object ((codes "p", num 5) ∷ (codes "r", num 6) ∷ [])))
    ∷ TakeOut
    ∷ Do (Step.Unlisten 1 1)
    ∷ TakeOut
    ∷ ShowCover ∷ [])
    ≡ answered None []
    ∷ answered (Some 1) []
    ∷ answered (Some 2) []
    ∷ answered (Some 3) []
    ∷ answered (Some 4) []
    ∷ answered None (told 1 (batch 1 (Added (codes "p") (num 5) None ∷ Value (object ((codes "p", num 5) ∷ [])) ∷ [])) ∷ told 1 (batch 3 (Added (codes "p") (num 5) None ∷ Value (object ((codes "p", num 5) ∷ [])) ∷ [])) ∷ told 1 (batch 4 (Added (codes "p") (num 5) None ∷ Value (object ((codes "p", num 5) ∷ [])) ∷ [])) ∷ [])
    ∷ answered None (told 1 (batch 2 (Added (codes "p") (num 5) None ∷ Added (codes "r") (num 6) (Some (codes "p")) ∷ Value (object ((codes "p", num 5) ∷ (codes "r", num 6) ∷ [])) ∷ [])) ∷ [])
    ∷ Sent (ClientMessage.Hello 2 ∷ ClientMessage.Listen 1 (by_value (from 1) (upto 9) None) ∷ ClientMessage.Listen 2 (by_value (from 3) (upto 20) None) ∷ [])
    ∷ answered None (told 1 (batch 3 (Added (codes "r") (num 6) (Some (codes "p")) ∷ Value (object ((codes "p", num 5) ∷ (codes "r", num 6) ∷ [])) ∷ [])) ∷ [])
    ∷ Sent []
    ∷ Covered (kept_as 1 (by_value (from 1) (upto 9) None) 4 ∷ kept_as 2 (by_value (from 3) (upto 20) None) 2 ∷ [])
    ∷ []

-- of two forms that a lost region served the wider gets the window, whole, and the narrower sees by it
abbrev pub LostRegionToWider : Type 0
LostRegionToWider =
    shows fresh (
    Do Step.Connected
    ∷ Do (Step.Listen 1 (plain a))
    ∷ Do (Step.Listen 1 (by_value (from 4) None (Some (Last 9))))
    ∷ Do (Step.Listen 1 (by_value (from 3) None None))
    ∷ Do (Step.Data 1 a (object ((codes "p", num 5) ∷ [])))
    ∷ Do (Step.Unlisten 1 1)
    ∷ ShowCover
    ∷ Do (Step.Data 2 (path_keys (codes "/a/r")) (num 6))
    ∷ Do (Step.Write 1 (Put (path_keys (codes "/a/q/d")) (num 5))) ∷ [])
    ≡ answered None []
    ∷ answered (Some 1) []
    ∷ answered (Some 2) []
    ∷ answered (Some 3) []
    ∷ answered None (told 1 (batch 1 (Added (codes "p") (num 5) None ∷ Value (object ((codes "p", num 5) ∷ [])) ∷ [])) ∷ told 1 (batch 2 (Added (codes "p") (num 5) None ∷ Value (object ((codes "p", num 5) ∷ [])) ∷ [])) ∷ told 1 (batch 3 (Added (codes "p") (num 5) None ∷ Value (object ((codes "p", num 5) ∷ [])) ∷ [])) ∷ [])
    ∷ answered None []
    ∷ Covered (kept_as 2 (by_value (from 3) None None) 3 ∷ [])
    ∷ answered None (
    told 1 (batch 2 (Added (codes "r") (num 6) (Some (codes "p")) ∷ Value (object ((codes "p", num 5) ∷ (codes "r", num 6) ∷ [])) ∷ []))
    ∷ told 1 (batch 3 (Added (codes "r") (num 6) (Some (codes "p")) ∷ Value (object ((codes "p", num 5) ∷ (codes "r", num 6) ∷ [])) ∷ [])) ∷ [])
    ∷ answered (Some 1) (
    told 1 (batch 2 (Added (codes "q") (object ((codes "d", num 5) ∷ [])) (Some (codes "r")) ∷ Value (object ((codes "p", num 5) ∷ (codes "q", object ((codes "d", num 5) ∷ [])) ∷ (codes "r", num 6) ∷ [])) ∷ []))
    ∷ told 1 (batch 3 (Added (codes "q") (object ((codes "d", num 5) ∷ [])) (Some (codes "r")) ∷ Value (object ((codes "p", num 5) ∷ (codes "q", object ((codes "d", num 5) ∷ [])) ∷ (codes "r", num 6) ∷ [])) ∷ [])) ∷ [])
    ∷ []

-- a revoked range leaves its window, with its mark, to the one that it supplied
abbrev pub RevokedRangeHandsOn : Type 0
RevokedRangeHandsOn =
    shows fresh (
    Do Step.Connected
    ∷ Do (Step.Listen 1 (by_value (from 3) None None))
    ∷ Do (Step.Listen 1 (by_value (from 4) None None))
    ∷ Do (Step.Data 1 a (object ((codes "m", num 3) ∷ (codes "p", num 5) ∷ [])))
    ∷ Do (Step.Revoked 1 (codes "denied"))
    ∷ TakeOut
    ∷ ShowView 2
    ∷ Do (Step.Data 2 (path_keys (codes "/a/r")) (num 6))
    ∷ Do (Step.Write 1 (Put (path_keys (codes "/a/q/d")) (num 5))) ∷ [])
    ≡ answered None []
    ∷ answered (Some 1) []
    ∷ answered (Some 2) []
    ∷ answered None (told 1 (batch 1 (Added (codes "m") (num 3) None ∷ Added (codes "p") (num 5) (Some (codes "m")) ∷ Value (object ((codes "m", num 3) ∷ (codes "p", num 5) ∷ [])) ∷ [])) ∷ told 1 (batch 2 (Added (codes "p") (num 5) None ∷ Value (object ((codes "p", num 5) ∷ [])) ∷ [])) ∷ [])
    ∷ answered None (told 1 (Cancelled 1 (codes "denied")) ∷ [])
    ∷ Sent (ClientMessage.Hello 2 ∷ ClientMessage.Listen 1 (by_value (from 3) None None) ∷ ClientMessage.Listen 2 (by_value (from 4) None None) ∷ [])
    ∷ Viewed (of_rows (row_of (codes "p") (num 5) ∷ []))
    ∷ answered None (told 1 (batch 2 (Added (codes "r") (num 6) (Some (codes "p")) ∷ Value (object ((codes "p", num 5) ∷ (codes "r", num 6) ∷ [])) ∷ [])) ∷ [])
    ∷ answered (Some 1) []
    ∷ []
