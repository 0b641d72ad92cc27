-- What holds of each message of the client, since the types of its parts keep it.
use Rattle.std.specs.Prelude.{◌≡◌, ◌≤◌, true, IfSome}
use Rattle.std.specs.List.{AllByRecursion}
use Rattle.rt_tree.specs.Key.{IsKey}
use Rattle.rt_tree.specs.Leaf.{IsInRange}
use Rattle.rt_order.specs.declared.index.Index.{Index}
use Rattle.rt_order.specs.declared.index.Index.TheVariants.{Key, Child, Value}
use Rattle.rt_order.specs.declared.cut.Mark.{Mark}
use Rattle.rt_order.specs.declared.cut.Mark.TheVariants.{Null, Leaf}
use Rattle.rt_order.specs.declared.cut.Place.{Place}
use Rattle.rt_order.specs.declared.cut.Place.TheVariants.{Min, Before, After, Max}
use Rattle.rt_order.specs.declared.cut.Cut.{Cut}
use Rattle.rt_query.specs.Queries.{Query, IsQuery, is_filtered, most_rows}
use Rattle.rt_wire.specs.declared.request.Action.{Action}
use Rattle.rt_wire.specs.declared.request.Action.TheVariants.{Put, Merge}
use Rattle.rt_wire.specs.declared.request.Ending.TheVariants.{Run, Cancel}
use Rattle.rt_wire.specs.declared.request.Asked.TheVariants.{Now, AtDisconnect}
use Rattle.rt_wire.specs.declared.client.ClientMessage.{ClientMessage}
use Rattle.rt_wire.specs.declared.client.ClientMessage.TheVariants.{Hello, Listen, Unlisten, Ask}
use Rattle.rt_wire.specs.inside.Standing.{IsStandingPath, IsStandingTree, IsStanding}

abbrev pub IsStandingIndex : Index → Type 0
IsStandingIndex Key = Unit {0}
IsStandingIndex (Child path) = IsStandingPath path
IsStandingIndex Value = Unit {0}

abbrev pub IsStandingMark : Mark → Type 0
IsStandingMark Null = Unit {0}
IsStandingMark (Leaf l) = IsInRange l

abbrev pub IsStandingPlace : Place → Type 0
IsStandingPlace Min = Unit {0}
IsStandingPlace (Before k) = IsKey k
IsStandingPlace (After k) = IsKey k
IsStandingPlace Max = Unit {0}

abbrev pub IsStandingCut : Cut → Type 0
IsStandingCut cut = IsStandingMark cut.value × IsStandingPlace cut.place

-- what is written of a query beside its path
pub record IsStandingQuery (q : Query) : Type 0 where
  pub index : IsStandingIndex q.index
  pub lower : IfSome q.range.lower IsStandingCut
  pub upper : IfSome q.range.upper IsStandingCut
  pub few : IfSome q.limit (λ l. most_rows l ≤ 4294967295)
  pub valid : IsQuery q

-- a query that is listened to: the path alone is written of one that isn't filtered
abbrev pub IsStandingListen : Query → Type 0
IsStandingListen q = IsStandingPath q.path × (is_filtered q ≡ true → IsStandingQuery q)

abbrev pub IsStandingAction : Action → Type 0
IsStandingAction (Put path tree) = IsStandingPath path × IsStandingTree tree
IsStandingAction (Merge entries) = AllByRecursion IsStanding entries

abbrev pub IsStandingRequest : ClientMessage → Type 0
IsStandingRequest (Hello version) = Unit {0}
IsStandingRequest (Listen tag query) = IsStandingListen query
IsStandingRequest (Unlisten tag) = Unit {0}
IsStandingRequest (Ask id (Now action)) = IsStandingAction action
IsStandingRequest (Ask id (AtDisconnect (Run action))) = IsStandingAction action
IsStandingRequest (Ask id (AtDisconnect (Cancel path))) = IsStandingPath path
